-- Why a worker that is alone with the side comes to an end: each of its writes lowers a weight of the rows.
-- A choice of this project.
use Rattle.std.specs.Prelude.{ℕ, ◌+◌, ◌*◌, ◌≤◌, ◌<◌, ◌≡◌, ◌≢◌, Bool, true, false, List, [], ◌∷◌, Option, Some, None, length, ⊤, if◌then◌else◌}
use Rattle.std.specs.List.{list_any}
use Rattle.kube_objects.specs.declared.objects.Object.{Object}
use Rattle.kube_objects.specs.Bindings.{is_empty}
use Rattle.snapshot_bind.specs.declared.rows.Snapshot.{Snapshot as SnapshotData}
use Rattle.snapshot_bind.specs.declared.rows.Content.{Content as ContentData}
use Rattle.snapshot_bind.specs.declared.calls.SnapAsk.{SnapAsk}
use Rattle.snapshot_bind.specs.declared.calls.SnapAsk.TheVariants as asks
use Rattle.snapshot_bind.specs.declared.effect.Effect.{Effect}
use Rattle.snapshot_bind.specs.declared.effect.Effect.TheVariants.{Answers}
use Rattle.snapshot_bind.specs.Rules.{EachOf, IsSideRun, SideCall, side_after}
use Rattle.snapshot_bind.specs.SideStore.{Side, after, content_at, effect_of, snapshot_at}
use Rattle.snapshot_worker.specs.Workers.{has_this_uid}

-- the sum of what the elements count
abbrev pub total : {X : Type 0} → (X → ℕ) → List X → ℕ
total f [] = 0
total f (x ∷ xs) = f x + total f xs

-- a content has this UID
abbrev pub has_content : ℕ → List ContentData → Bool
has_content uid cs = list_any (has_this_uid uid) cs

-- a snapshot weighs 1, for it may leave; 1 more while it names no content; and 3 more while none has its UID, as a content that is
-- cut for it adds a weight of 2
abbrev pub snapshot_weight : List ContentData → SnapshotData → ℕ
snapshot_weight cs s = if is_empty s.content then (if has_content s.uid cs then 2 else 5) else 1

-- 1 while the content has no UID
abbrev pub free_weight : Option ℕ → ℕ
free_weight None = 1
free_weight (Some uid) = 0

-- a content weighs 1, for it may leave; 1 more while its data are there; and 1 more while it has no UID
abbrev pub content_weight : ContentData → ℕ
content_weight c = 1 + (if c.there then 1 else 0) + free_weight c.uid

-- the weight of all rows
abbrev pub weight : Side → ℕ
weight σ = total (snapshot_weight σ.contents) σ.snapshots + total content_weight σ.contents

-- the effect is a write
abbrev pub IsWrite : Effect → Type 0
IsWrite (Answers reply) = ⊥
IsWrite effect = ⊤

-- a snapshot that names no content is to name this one
pub record BindsSnapshot (σ : Side) (namespace name content : List ℕ) : Type 0 where
  pub snapshot : SnapshotData
  pub stands : snapshot_at (namespace, name) σ.snapshots ≡ Some snapshot
  pub unbound : snapshot.content ≡ []
  pub named : content ≢ []

-- a content without UID is to get one
pub record BindsContent (σ : Side) (name : List ℕ) : Type 0 where
  pub content : ContentData
  pub stands : content_at name σ.contents ≡ Some content
  pub free : content.uid ≡ None

-- a content is to be cut for a snapshot that names none, and whose UID none has
pub record Cuts (σ : Side) (namespace name : List ℕ) : Type 0 where
  pub snapshot : SnapshotData
  pub stands : snapshot_at (namespace, name) σ.snapshots ≡ Some snapshot
  pub unbound : snapshot.content ≡ []
  pub none : has_content snapshot.uid σ.contents ≡ false

-- data that are there are to be erased
pub record Erases (σ : Side) (name : List ℕ) : Type 0 where
  pub content : ContentData
  pub stands : content_at name σ.contents ≡ Some content
  pub there : content.there ≡ true

-- a content whose data are erased is to leave
pub record DropsContent (σ : Side) (name : List ℕ) : Type 0 where
  pub content : ContentData
  pub stands : content_at name σ.contents ≡ Some content
  pub gone : content.there ≡ false

-- the ask is one that a worker's rules give, where the rows that it keeps are those that stand
abbrev pub AsksByRules : Side → SnapAsk → Type 0
AsksByRules σ asks.SnapList = ⊤
AsksByRules σ (asks.SnapGet namespace name) = ⊤
AsksByRules σ (asks.DropSnapshot namespace name version) = ⊤
AsksByRules σ (asks.Cut namespace name uid) = Cuts σ namespace name
AsksByRules σ (asks.BindContent name version uid) = BindsContent σ name
AsksByRules σ (asks.BindSnapshot namespace name version content) = BindsSnapshot σ namespace name content
AsksByRules σ (asks.EraseSnap name version) = Erases σ name
AsksByRules σ (asks.DropContent name version) = DropsContent σ name
AsksByRules σ _ = ⊥

-- after these calls such an ask, if it writes, lowers the weight
abbrev pub Lowers : List SideCall → List Object → SnapAsk → Type 0
Lowers past world ask =
    IsWrite (effect_of world (side_after past) ask) → weight (after (side_after past) (effect_of world (side_after past) ask)) < weight (side_after past)

-- so such asks write at most as often as the weight says, and that is at most 5 for a snapshot and 3 for a content
pub record EachWriteLowers : Type 0 where
  pub falls : (past : List SideCall) → IsSideRun past → (world : List Object) (ask : SnapAsk) → AsksByRules (side_after past) ask → Lowers past world ask
  pub most : (σ : Side) → weight σ ≤ 5 * length σ.snapshots + 3 * length σ.contents

-- no content has the empty name, which stands for none
abbrev pub HaveNames : Side → Type 0
HaveNames σ = EachOf (λ (c : ContentData). c.name ≢ []) σ.contents

-- the call hands in no content with the empty name
abbrev pub NamesContent : SnapAsk → Type 0
NamesContent (asks.Content name namespace snapshot policy source) = name ≢ []
NamesContent _ = ⊤

-- if no call does, no content has the empty name
abbrev pub NamesAreKept : Type 0
NamesAreKept = (past : List SideCall) → EachOf (λ (c : SideCall). NamesContent c.entry.ask) past → HaveNames (side_after past)
