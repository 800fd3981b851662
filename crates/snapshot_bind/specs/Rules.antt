-- Lists of calls of the side, and the rules of snapshots at each point of them. The newest call stands first.
-- A choice of this project.
use Rattle.std.specs.Prelude.{ℕ, ◌≡◌, ◌≢◌, ◌⊎◌, ◌==◌, Bool, true, false, List, [], ◌∷◌, Option, Some, None, ⊤, if◌then◌else◌}
use Rattle.kube_objects.specs.declared.objects.Object.{Object}
use Rattle.kube_parts.specs.declared.parts.Policy.TheVariants as policies
use Rattle.snapshot_bind.specs.declared.rows.Snapshot.{Snapshot as SnapshotData}
use Rattle.snapshot_bind.specs.declared.rows.Content.{Content as ContentData}
use Rattle.snapshot_bind.specs.declared.calls.SnapAsk.{SnapAsk}
use Rattle.snapshot_bind.specs.declared.calls.SnapAsk.TheVariants as asks
use Rattle.snapshot_bind.specs.declared.calls.SnapEntry.{SnapEntry}
use Rattle.snapshot_bind.specs.declared.calls.SnapReply.{SnapReply}
use Rattle.snapshot_bind.specs.declared.calls.SnapReply.TheVariants.{Made}
use Rattle.snapshot_bind.specs.Licences.{SomeOf, SnapLicensed}
use Rattle.snapshot_bind.specs.SideStore.{Side, empty_side, effect_of, reply_of, after, content_at}

-- P holds of each element
abbrev pub EachOf : {X : Type 0} → (X → Type 0) → List X → Type 0
EachOf P [] = ⊤
EachOf P (x ∷ xs) = P x × EachOf P xs

-- P holds of each element with each later one
abbrev pub EachPair : {X : Type 0} → (X → X → Type 0) → List X → Type 0
EachPair P [] = ⊤
EachPair P (x ∷ xs) = EachOf (P x) xs × EachPair P xs

-- a call that a seat made, in a world of these objects; a user's may come from any seat
pub record SideCall : Type 0 where
  pub seat : ℕ
  pub world : List Object
  pub entry : SnapEntry

-- the calls that one seat made
abbrev pub own : ℕ → List SideCall → List SnapEntry
own seat [] = []
own seat (c ∷ past) = if c.seat == seat then c.entry ∷ own seat past else own seat past

-- the side after these calls; what they were told is not looked at
abbrev pub side_after : List SideCall → Side
side_after [] = empty_side
side_after (c ∷ past) = after (side_after past) (effect_of c.world (side_after past) c.entry.ask)

-- the call is one that users make
abbrev pub is_users : SnapAsk → Bool
is_users (asks.Snapshot namespace name claim policy) = true
is_users (asks.Content name namespace snapshot policy source) = true
is_users (asks.Unsnap namespace name) = true
is_users (asks.Uncontent name) = true
is_users _ = false

-- each call was told what the side answers, and is a user's, or licensed by the earlier calls of its own seat
abbrev pub IsSideRun : List SideCall → Type 0
IsSideRun [] = ⊤
IsSideRun (c ∷ past) =
    IsSideRun past
    × (c.entry.reply ≡ reply_of (effect_of c.world (side_after past) c.entry.ask))
    × ((is_users c.entry.ask ≡ true) ⊎ SnapLicensed (own c.seat past) c.entry.ask)

-- the content is the one that the snapshot names, has its UID, and its data are there
pub record IsContentFor (s : SnapshotData) (c : ContentData) : Type 0 where
  pub named : c.name ≡ s.content
  pub own : c.uid ≡ Some s.uid
  pub stands : c.there ≡ true

-- where the snapshot names a content, such a one stands
abbrev pub IsBound : List ContentData → SnapshotData → Type 0
IsBound cs s = s.content ≢ [] → SomeOf (IsContentFor s) cs

-- no two snapshots name one content
abbrev pub AreApart : List SnapshotData → Type 0
AreApart ss = EachPair (λ (s t : SnapshotData). s.content ≢ [] → t.content ≢ s.content) ss

-- the UID is given, and no snapshot has it
abbrev pub IsGoneUid : List SnapshotData → Option ℕ → Type 0
IsGoneUid ss None = ⊥
IsGoneUid ss (Some uid) = EachOf (λ (s : SnapshotData). s.uid ≢ uid) ss

-- the data of the content may be erased: its policy is Delete, and its snapshot is gone
abbrev pub MayErase : Side → Option ContentData → Type 0
MayErase σ None = ⊥
MayErase σ (Some c) = (c.policy ≡ policies.Delete) × IsGoneUid σ.snapshots c.uid

-- if the call erased data, then data that may be erased
abbrev pub ErasesRightly : Side → SnapAsk → SnapReply → Type 0
ErasesRightly σ (asks.EraseSnap name version) (Made row) = MayErase σ (content_at name σ.contents)
ErasesRightly σ _ _ = ⊤

-- the rules of the rows that stand after these calls
pub record AreRowsRight (past : List SideCall) : Type 0 where
  pub bound : EachOf (IsBound (side_after past).contents) (side_after past).snapshots
  pub apart : AreApart (side_after past).snapshots

-- the rules hold after each call, and of each call
abbrev pub KeepsRules : List SideCall → Type 0
KeepsRules [] = AreRowsRight []
KeepsRules (c ∷ past) = KeepsRules past × AreRowsRight (c ∷ past) × ErasesRightly (side_after past) c.entry.ask c.entry.reply

-- whatever the worlds are, and whoever asks what and when
abbrev pub RulesHold : Type 0
RulesHold = (past : List SideCall) → IsSideRun past → KeepsRules past
