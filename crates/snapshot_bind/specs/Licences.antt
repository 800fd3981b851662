-- What a worker may ask, by what it was told before: the evidence on which it may act, whatever it keeps of it. Its own
-- earlier calls stand newest first.
-- A choice of this project.
use Rattle.std.specs.Prelude.{ℕ, ◌≡◌, ◌≢◌, ◌⊎◌, true, false, List, [], ◌∷◌, Option, Some, None, ⊤}
use Rattle.kube_parts.specs.declared.parts.Policy.TheVariants as policies
use Rattle.snapshot_bind.specs.declared.rows.Snapshot.{Snapshot as SnapshotData}
use Rattle.snapshot_bind.specs.declared.rows.Content.{Content as ContentData}
use Rattle.snapshot_bind.specs.declared.rows.SnapRow.TheVariants as rows
use Rattle.snapshot_bind.specs.declared.calls.SnapAsk.{SnapAsk}
use Rattle.snapshot_bind.specs.declared.calls.SnapAsk.TheVariants as asks
use Rattle.snapshot_bind.specs.declared.calls.SnapEntry.{SnapEntry}
use Rattle.snapshot_bind.specs.declared.calls.SnapReply.{SnapReply}
use Rattle.snapshot_bind.specs.declared.calls.SnapReply.TheVariants.{Listed, Found, Made, Refused}
use Rattle.snapshot_bind.specs.declared.calls.SnapRefusal.TheVariants.{NotFound}

-- P holds of an element of the list
abbrev pub SomeOf : {X : Type 0} → (X → Type 0) → List X → Type 0
SomeOf P [] = ⊥
SomeOf P (x ∷ xs) = P x ⊎ SomeOf P xs

-- the snapshots that an answer tells; one that left is told no more
abbrev pub snapshots_in : SnapReply → List SnapshotData
snapshots_in (Listed snapshots contents number) = snapshots
snapshots_in (Found s) = s ∷ []
snapshots_in (Made (rows.Snapshot s)) = s ∷ []
snapshots_in _ = []

-- the contents that an answer tells; one that left is told no more
abbrev pub contents_in : SnapReply → List ContentData
contents_in (Listed snapshots contents number) = contents
contents_in (Made (rows.Content c)) = c ∷ []
contents_in _ = []

-- a snapshot of which P holds was told
abbrev pub ToldSnapshot : (SnapshotData → Type 0) → List SnapEntry → Type 0
ToldSnapshot P mine = SomeOf (λ e. SomeOf P (snapshots_in e.reply)) mine

-- a content of which P holds was told
abbrev pub ToldContent : (ContentData → Type 0) → List SnapEntry → Type 0
ToldContent P mine = SomeOf (λ e. SomeOf P (contents_in e.reply)) mine

-- the snapshot waits for a content: it stays, and names none
pub record IsWaiting (s : SnapshotData) : Type 0 where
  pub stays : s.deleting ≡ false
  pub unbound : s.content ≡ []

-- a content may be cut for the snapshot of this key and UID
pub record IsCuttable (namespace name : List ℕ) (uid : ℕ) (s : SnapshotData) : Type 0 where
  pub placed : s.namespace ≡ namespace
  pub named : s.name ≡ name
  pub own : s.uid ≡ uid
  pub waits : IsWaiting s

-- the snapshot of this UID is the one that the content is for
pub record IsOwner (uid : ℕ) (c : ContentData) (s : SnapshotData) : Type 0 where
  pub own : s.uid ≡ uid
  pub placed : s.namespace ≡ c.namespace
  pub named : s.name ≡ c.snapshot

-- the content of this name, as it stood at this version
pub record IsContentOf (name : List ℕ) (version : ℕ) (c : ContentData) : Type 0 where
  pub named : c.name ≡ name
  pub at : c.version ≡ version

-- the snapshot of this key, as it stood at this version
pub record IsSnapshotOf (namespace name : List ℕ) (version : ℕ) (s : SnapshotData) : Type 0 where
  pub placed : s.namespace ≡ namespace
  pub named : s.name ≡ name
  pub at : s.version ≡ version

-- the content may get this UID: it has none, and the snapshot that it is for was told with it
pub record IsFree (name : List ℕ) (version uid : ℕ) (mine : List SnapEntry) (c : ContentData) : Type 0 where
  pub content : IsContentOf name version c
  pub free : c.uid ≡ None
  pub owner : ToldSnapshot (IsOwner uid c) mine

-- the content of this name has this UID
pub record IsBoundTo (name : List ℕ) (uid : ℕ) (c : ContentData) : Type 0 where
  pub named : c.name ≡ name
  pub own : c.uid ≡ Some uid

-- the snapshot may name this content: it waits, and the content was told with its UID
pub record IsBindable (namespace name : List ℕ) (version : ℕ) (content : List ℕ) (mine : List SnapEntry) (s : SnapshotData) : Type 0 where
  pub snapshot : IsSnapshotOf namespace name version s
  pub waits : IsWaiting s
  pub bound : ToldContent (IsBoundTo content s.uid) mine

-- the snapshot may leave: a user deleted it
pub record IsDroppable (namespace name : List ℕ) (version : ℕ) (s : SnapshotData) : Type 0 where
  pub snapshot : IsSnapshotOf namespace name version s
  pub leaves : s.deleting ≡ true

-- the content is bound to a UID, whichever
abbrev pub HasSome : Option ℕ → Type 0
HasSome None = ⊥
HasSome (Some uid) = ⊤

-- a UID is there, and it is another than this
abbrev pub IsOther : Option ℕ → ℕ → Type 0
IsOther None uid = ⊥
IsOther (Some own) uid = uid ≢ own

-- the call asked for the content's snapshot by its key, and was told none, or one of another UID
abbrev pub LacksOwner : ContentData → SnapAsk → SnapReply → Type 0
LacksOwner c (asks.SnapGet namespace name) (Refused NotFound) = (c.namespace ≡ namespace) × (c.snapshot ≡ name)
LacksOwner c (asks.SnapGet namespace name) (Found s) = (c.namespace ≡ namespace) × (c.snapshot ≡ name) × IsOther c.uid s.uid
LacksOwner c _ _ = ⊥

-- the data of the content may be erased, as far as it and this call go
pub record IsErasable (name : List ℕ) (version : ℕ) (e : SnapEntry) (c : ContentData) : Type 0 where
  pub content : IsContentOf name version c
  pub bound : HasSome c.uid
  pub policy : c.policy ≡ policies.Delete
  pub stands : c.there ≡ true
  pub lacks : LacksOwner c e.ask e.reply

-- the content was told, and a later call told that its snapshot is gone
abbrev pub ToldGone : List ℕ → ℕ → List SnapEntry → Type 0
ToldGone name version [] = ⊥
ToldGone name version (e ∷ mine) = ToldContent (IsErasable name version e) mine ⊎ ToldGone name version mine

-- the content may leave: it was bound, and its data are erased
pub record IsSpent (name : List ℕ) (version : ℕ) (c : ContentData) : Type 0 where
  pub content : IsContentOf name version c
  pub bound : HasSome c.uid
  pub gone : c.there ≡ false

-- the content is for the snapshot of this key, and is bound
pub record IsOwned (namespace name : List ℕ) (c : ContentData) : Type 0 where
  pub placed : c.namespace ≡ namespace
  pub named : c.snapshot ≡ name
  pub bound : HasSome c.uid

-- the call is licensed for a worker; no user's is
unfoldable pub SnapLicensed : List SnapEntry → SnapAsk → Type 0
SnapLicensed mine asks.SnapList = ⊤
SnapLicensed mine (asks.SnapGet namespace name) = ToldContent (IsOwned namespace name) mine
SnapLicensed mine (asks.Cut namespace name uid) = ToldSnapshot (IsCuttable namespace name uid) mine
SnapLicensed mine (asks.BindContent name version uid) = ToldContent (IsFree name version uid mine) mine
SnapLicensed mine (asks.BindSnapshot namespace name version content) = ToldSnapshot (IsBindable namespace name version content mine) mine
SnapLicensed mine (asks.DropSnapshot namespace name version) = ToldSnapshot (IsDroppable namespace name version) mine
SnapLicensed mine (asks.EraseSnap name version) = ToldGone name version mine
SnapLicensed mine (asks.DropContent name version) = ToldContent (IsSpent name version) mine
SnapLicensed mine _ = ⊥
