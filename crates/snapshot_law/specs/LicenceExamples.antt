-- What a worker may ask by what it was told, and what each single condition forbids.
-- A choice of this project.
use Rattle.std.specs.Prelude.{true, false, List, [], ◌∷◌, Some, codes}
use Rattle.kube_parts.specs.declared.parts.Policy.TheVariants as policies
use Rattle.snapshot_bind.specs.declared.rows.Snapshot.{Snapshot as SnapshotData}
use Rattle.snapshot_bind.specs.declared.rows.Content.{Content as ContentData}
use Rattle.snapshot_bind.specs.declared.rows.SnapRow.TheVariants as rows
use Rattle.snapshot_bind.specs.declared.calls.SnapAsk.{SnapAsk}
use Rattle.snapshot_bind.specs.declared.calls.SnapAsk.TheVariants as asks
use Rattle.snapshot_bind.specs.declared.calls.SnapEntry.{SnapEntry}
use Rattle.snapshot_bind.specs.declared.calls.SnapReply.TheVariants.{Found, Left, Refused}
use Rattle.snapshot_bind.specs.declared.calls.SnapRefusal.TheVariants.{NotFound, NoSource}
use Rattle.snapshot_bind.specs.Licences.{SnapLicensed}
use Rattle.snapshot_law.specs.Samples.{bound, by_hand, kept, leaving, lists, told, waiting}

-- a worker that was told these rows by one list may ask this
abbrev pub Allows : List SnapshotData → List ContentData → SnapAsk → Type 0
Allows snapshots contents ask = SnapLicensed (lists snapshots contents ∷ []) ask

-- and this it may not ask
abbrev pub Forbids : List SnapshotData → List ContentData → SnapAsk → Type 0
Forbids snapshots contents ask = Allows snapshots contents ask → ⊥

-- the snapshot of a bound content may be looked at, and a list may always be asked for; users' asks are no worker's
pub record LookLicences : Type 0 where
  pub list : SnapLicensed [] asks.SnapList
  pub of_a_bound_content : Allows [] (kept ∷ []) (asks.SnapGet (codes "ns") (codes "s"))
  pub of_a_free_content : Forbids [] (by_hand ∷ []) (asks.SnapGet (codes "ns") (codes "s"))
  pub of_no_content : Forbids (waiting ∷ []) [] (asks.SnapGet (codes "ns") (codes "s"))
  pub of_another_key : Forbids [] (kept ∷ []) (asks.SnapGet (codes "nt") (codes "s"))
  pub a_users_ask : Forbids (waiting ∷ []) [] (asks.Unsnap (codes "ns") (codes "s"))

-- a content may be cut for a snapshot that waits, by its UID
pub record CutLicences : Type 0 where
  pub waits : Allows (waiting ∷ []) [] (asks.Cut (codes "ns") (codes "s") 1)
  pub other_uid : Forbids (waiting ∷ []) [] (asks.Cut (codes "ns") (codes "s") 2)
  pub is_bound : Forbids (bound ∷ []) [] (asks.Cut (codes "ns") (codes "s") 1)
  pub is_deleting : Forbids (record waiting { deleting = true } ∷ []) [] (asks.Cut (codes "ns") (codes "s") 1)
  pub other_name : Forbids (waiting ∷ []) [] (asks.Cut (codes "ns") (codes "t") 1)
  -- one that left is told no more
  pub left : SnapLicensed (told (asks.DropSnapshot (codes "ns") (codes "s") 1) (Left (rows.Snapshot waiting)) ∷ []) (asks.Cut (codes "ns") (codes "s") 1) → ⊥

-- a content without UID may get that of the snapshot that it is for
pub record BindContentLicences : Type 0 where
  pub free : Allows (waiting ∷ []) (by_hand ∷ []) (asks.BindContent (codes "h") 2 1)
  pub other_uid : Forbids (waiting ∷ []) (by_hand ∷ []) (asks.BindContent (codes "h") 2 3)
  pub for_another : Forbids (record waiting { name = codes "t" } ∷ []) (by_hand ∷ []) (asks.BindContent (codes "h") 2 1)
  pub has_uid_already : Forbids (waiting ∷ []) (record by_hand { uid = Some 1 } ∷ []) (asks.BindContent (codes "h") 2 1)
  pub other_version : Forbids (waiting ∷ []) (by_hand ∷ []) (asks.BindContent (codes "h") 3 1)

-- a snapshot that waits may name a content with its UID
pub record BindSnapshotLicences : Type 0 where
  pub has_its_uid : Allows (waiting ∷ []) (kept ∷ []) (asks.BindSnapshot (codes "ns") (codes "s") 1 (codes "k"))
  pub has_none : Forbids (waiting ∷ []) (by_hand ∷ []) (asks.BindSnapshot (codes "ns") (codes "s") 1 (codes "h"))
  pub of_another_uid : Forbids (record waiting { uid = 5 } ∷ []) (kept ∷ []) (asks.BindSnapshot (codes "ns") (codes "s") 1 (codes "k"))
  pub is_bound : Forbids (bound ∷ []) (kept ∷ []) (asks.BindSnapshot (codes "ns") (codes "s") 3 (codes "k"))
  pub other_version : Forbids (waiting ∷ []) (kept ∷ []) (asks.BindSnapshot (codes "ns") (codes "s") 2 (codes "k"))

-- a snapshot leaves where a user deleted it, and a content once its data are erased
pub record LeaveLicences : Type 0 where
  pub deleted : Allows (leaving ∷ []) [] (asks.DropSnapshot (codes "ns") (codes "s") 4)
  pub not_deleted : Forbids (bound ∷ []) [] (asks.DropSnapshot (codes "ns") (codes "s") 3)
  pub deleted_later : Forbids (leaving ∷ []) [] (asks.DropSnapshot (codes "ns") (codes "s") 3)
  pub erased : Allows [] (record kept { there = false } ∷ []) (asks.DropContent (codes "k") 2)
  pub with_data : Forbids [] (kept ∷ []) (asks.DropContent (codes "k") 2)

-- the snapshot of a content is got, and is not there
abbrev pub finds_none : SnapEntry
finds_none = told (asks.SnapGet (codes "ns") (codes "s")) (Refused NotFound)

-- data may be erased once a look, made after the content was told, found its snapshot gone
pub record EraseLicences : Type 0 where
  pub gone : SnapLicensed (finds_none ∷ lists [] (kept ∷ []) ∷ []) (asks.EraseSnap (codes "k") 2)
  pub of_another_uid : SnapLicensed (told (asks.SnapGet (codes "ns") (codes "s")) (Found (record waiting { uid = 7 })) ∷ lists [] (kept ∷ []) ∷ []) (asks.EraseSnap (codes "k") 2)
  pub stands_still : SnapLicensed (told (asks.SnapGet (codes "ns") (codes "s")) (Found bound) ∷ lists [] (kept ∷ []) ∷ []) (asks.EraseSnap (codes "k") 2) → ⊥
  pub without_a_look : Forbids [] (kept ∷ []) (asks.EraseSnap (codes "k") 2)
  pub by_an_earlier_look : SnapLicensed (lists [] (kept ∷ []) ∷ finds_none ∷ []) (asks.EraseSnap (codes "k") 2) → ⊥
  pub of_another_ask : SnapLicensed (told (asks.Cut (codes "ns") (codes "s") 1) (Refused NotFound) ∷ lists [] (kept ∷ []) ∷ []) (asks.EraseSnap (codes "k") 2) → ⊥
  pub for_want_of_a_source : SnapLicensed (told (asks.SnapGet (codes "ns") (codes "s")) (Refused NoSource) ∷ lists [] (kept ∷ []) ∷ []) (asks.EraseSnap (codes "k") 2) → ⊥
  pub retained : SnapLicensed (finds_none ∷ lists [] (record kept { policy = policies.Retain } ∷ []) ∷ []) (asks.EraseSnap (codes "k") 2) → ⊥
  pub unbound : SnapLicensed (finds_none ∷ lists [] (by_hand ∷ []) ∷ []) (asks.EraseSnap (codes "h") 2) → ⊥
  pub erased_before : SnapLicensed (finds_none ∷ lists [] (record kept { there = false } ∷ []) ∷ []) (asks.EraseSnap (codes "k") 2) → ⊥
