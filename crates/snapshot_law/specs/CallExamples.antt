-- What calls do: for each kind of call one that writes or is answered, and one for each refusal.
-- A choice of this project.
use Rattle.std.specs.Prelude.{◌≡◌, false, [], ◌∷◌, Some, codes}
use Rattle.kube_parts.specs.declared.parts.Policy.TheVariants as policies
use Rattle.kube_objects.specs.declared.objects.Object.TheVariants.{Volume, Claim}
use Rattle.snapshot_bind.specs.declared.rows.SnapRow.TheVariants as rows
use Rattle.snapshot_bind.specs.declared.calls.SnapAsk.{SnapAsk}
use Rattle.snapshot_bind.specs.declared.calls.SnapAsk.TheVariants as asks
use Rattle.snapshot_bind.specs.declared.calls.SnapReply.TheVariants.{Listed, Found, Made}
use Rattle.snapshot_bind.specs.declared.calls.SnapRefusal.TheVariants.{NotFound, AlreadyExists, Conflict, SnapshotBound, NoSource}
use Rattle.snapshot_bind.specs.declared.effect.Effect.{Effect}
use Rattle.snapshot_bind.specs.declared.effect.Effect.TheVariants.{Answers, PutsSnapshot, PutsContent, TakesSnapshot, TakesContent}
use Rattle.snapshot_bind.specs.SideStore.{Side, after, effect_of, empty_side, new_snapshot, refused, side_of}
use Rattle.snapshot_law.specs.Samples.{bound, by_hand, claim_with, completed_claim, cut_for_it, data_of_volume, kept, leaving, side_with, volume, waiting, world}

-- the call does this on the side, in the world of the samples
abbrev pub Does : Side → SnapAsk → Effect → Type 0
Does σ ask effect = effect_of world σ ask ≡ effect

-- users make snapshots and hand in contents, each name once
pub record MakeExamples : Type 0 where
  pub snapshot : Does empty_side (asks.Snapshot (codes "ns") (codes "s") (codes "c") policies.Delete) (PutsSnapshot waiting)
  pub snapshot_twice : Does (side_with (waiting ∷ []) []) (asks.Snapshot (codes "ns") (codes "s") (codes "d") policies.Retain) (refused AlreadyExists)
  pub same_name_elsewhere : Does (side_of 1 (waiting ∷ []) []) (asks.Snapshot (codes "nt") (codes "s") (codes "c") policies.Delete)
      (PutsSnapshot (new_snapshot 2 (codes "nt") (codes "s") (codes "c") policies.Delete))
  pub content : Does (side_of 1 [] []) (asks.Content (codes "h") (codes "ns") (codes "s") policies.Delete data_of_volume) (PutsContent by_hand)
  pub content_twice : Does (side_with [] (by_hand ∷ [])) (asks.Content (codes "h") (codes "nt") (codes "t") policies.Retain data_of_volume) (refused AlreadyExists)

-- a snapshot is marked as deleting, once
pub record UnsnapExamples : Type 0 where
  pub marks : Does (side_of 3 (bound ∷ []) []) (asks.Unsnap (codes "ns") (codes "s")) (PutsSnapshot leaving)
  pub second_time : Does (side_with (leaving ∷ []) []) (asks.Unsnap (codes "ns") (codes "s")) (Answers (Made (rows.Snapshot leaving)))
  pub second_time_raises_nothing : (after (side_with (leaving ∷ []) []) (effect_of world (side_with (leaving ∷ []) []) (asks.Unsnap (codes "ns") (codes "s")))).number ≡ 4
  pub absent : Does (side_with (bound ∷ []) []) (asks.Unsnap (codes "ns") (codes "t")) (refused NotFound)

-- a content leaves unless a snapshot has its UID, whatever that one names
pub record UncontentExamples : Type 0 where
  pub unbound : Does (side_with (waiting ∷ []) (by_hand ∷ [])) (asks.Uncontent (codes "h")) (TakesContent by_hand)
  pub without_its_snapshot : Does (side_with [] (kept ∷ [])) (asks.Uncontent (codes "k")) (TakesContent kept)
  pub while_its_snapshot_stands : Does (side_with (waiting ∷ []) (kept ∷ [])) (asks.Uncontent (codes "k")) (refused (SnapshotBound 1))
  pub absent : Does (side_with [] (kept ∷ [])) (asks.Uncontent (codes "h")) (refused NotFound)

-- what is read is told as it stands
pub record LookExamples : Type 0 where
  pub list : Does (side_with (bound ∷ []) (by_hand ∷ kept ∷ [])) asks.SnapList (Answers (Listed (bound ∷ []) (by_hand ∷ kept ∷ []) 4))
  pub found : Does (side_with (bound ∷ []) []) (asks.SnapGet (codes "ns") (codes "s")) (Answers (Found bound))
  pub other_namespace : Does (side_with (bound ∷ []) []) (asks.SnapGet (codes "nt") (codes "s")) (refused NotFound)

-- a content is cut for the snapshot of this UID, from the volume of a completed claim
pub record CutExamples : Type 0 where
  pub cuts : Does (side_of 1 (waiting ∷ []) []) (asks.Cut (codes "ns") (codes "s") 1) (PutsContent cut_for_it)
  pub other_uid : Does (side_of 1 (waiting ∷ []) []) (asks.Cut (codes "ns") (codes "s") 2) (refused NotFound)
  pub absent : Does (side_of 1 [] []) (asks.Cut (codes "ns") (codes "s") 1) (refused NotFound)
  pub name_taken : Does (side_of 2 (waiting ∷ []) (cut_for_it ∷ [])) (asks.Cut (codes "ns") (codes "s") 1) (refused AlreadyExists)
  pub pending_claim : effect_of (Volume volume ∷ Claim (claim_with []) ∷ []) (side_of 1 (waiting ∷ []) []) (asks.Cut (codes "ns") (codes "s") 1) ≡ refused NoSource
  pub no_volume : effect_of (Claim completed_claim ∷ []) (side_of 1 (waiting ∷ []) []) (asks.Cut (codes "ns") (codes "s") 1) ≡ refused NoSource
  pub no_claim : effect_of [] (side_of 1 (waiting ∷ []) []) (asks.Cut (codes "ns") (codes "s") 1) ≡ refused NoSource
  -- whether the snapshot is deleting, or names a content, is not asked
  pub while_it_leaves : Does (side_of 1 (leaving ∷ []) []) (asks.Cut (codes "ns") (codes "s") 1) (PutsContent cut_for_it)

-- a binding is written at the version that was told, and gives its number to the row
pub record BindExamples : Type 0 where
  pub content : Does (side_with (waiting ∷ []) (by_hand ∷ [])) (asks.BindContent (codes "h") 2 1) (PutsContent (record by_hand { version = 5; uid = Some 1 }))
  pub content_moved : Does (side_with (waiting ∷ []) (by_hand ∷ [])) (asks.BindContent (codes "h") 1 1) (refused (Conflict 2))
  pub content_absent : Does (side_with (waiting ∷ []) []) (asks.BindContent (codes "h") 2 1) (refused NotFound)
  pub snapshot : Does (side_of 2 (waiting ∷ []) (kept ∷ [])) (asks.BindSnapshot (codes "ns") (codes "s") 1 (codes "k")) (PutsSnapshot bound)
  pub snapshot_moved : Does (side_with (bound ∷ []) (kept ∷ [])) (asks.BindSnapshot (codes "ns") (codes "s") 1 (codes "h")) (refused (Conflict 3))
  pub snapshot_absent : Does (side_with [] []) (asks.BindSnapshot (codes "ns") (codes "s") 1 (codes "h")) (refused NotFound)

-- a row leaves, or its data do, at the version that was told
pub record LeaveExamples : Type 0 where
  pub snapshot : Does (side_with (leaving ∷ []) []) (asks.DropSnapshot (codes "ns") (codes "s") 4) (TakesSnapshot leaving)
  pub snapshot_moved : Does (side_with (leaving ∷ []) []) (asks.DropSnapshot (codes "ns") (codes "s") 3) (refused (Conflict 4))
  pub erases : Does (side_with [] (kept ∷ [])) (asks.EraseSnap (codes "k") 2) (PutsContent (record kept { version = 5; there = false }))
  pub erases_moved : Does (side_with [] (kept ∷ [])) (asks.EraseSnap (codes "k") 1) (refused (Conflict 2))
  pub content : Does (side_with [] (kept ∷ [])) (asks.DropContent (codes "k") 2) (TakesContent kept)
  pub content_absent : Does (side_with [] []) (asks.DropContent (codes "k") 2) (refused NotFound)
