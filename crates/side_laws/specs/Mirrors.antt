-- What is counted against quotas mirrors the claims that stand.
-- A choice of this project: the counting of a namespace's use goes by replies, and never by another look at the world.
use Rattle.std.specs.Prelude.{[], ◌∷◌, ⊤, ℕ, ◌≡◌, ◌-◌, ◌<◌, ◌^◌, List, Some, None, length}
use Rattle.kube_parts.specs.declared.uid.Uid.{Uid}
use Rattle.kube_objects.specs.declared.key.Key.{Key}
use Rattle.kube_objects.specs.declared.objects.Claim.{Claim as ClaimData}
use Rattle.kube_objects.specs.declared.objects.Object.{Object}
use Rattle.kube_objects.specs.declared.objects.Object.TheVariants.{Claim}
use Rattle.kube_objects.specs.Keys.{AreRows, meta_of, row_at}
use Rattle.call_types.specs.declared.entry.Entry.{Entry}
use Rattle.call_types.specs.declared.request.Request.{Request}
use Rattle.call_types.specs.declared.request.SeatKind.{SeatKind}
use Rattle.call_types.specs.declared.setup.Setup.{Setup}
use Rattle.binder_model.specs.Imports.{ImportsPass}
use Rattle.binder_model.specs.Promises.{most_entries}
use Rattle.binder_model.specs.World.{IsHistory, World, effect, reply_to, world, world_after}
use Rattle.side_calls.specs.declared.asks.SideAsk.{SideAsk}
use Rattle.side_calls.specs.declared.asks.SideAsk.TheVariants.{Grow}
use Rattle.side_calls.specs.declared.asks.SideEntry.{SideEntry}
use Rattle.side_calls.specs.declared.sizes.GrowError.{GrowError}
use Rattle.side_calls.specs.declared.sizes.SizeRow.{SizeRow}
use Rattle.quota_rules.specs.declared.counted.Counted.{Counted}
use Rattle.quota_rules.specs.Counting.{HasRoom, claims_in, grown_in, noted}
use Rattle.expand_ops.specs.Growing.{asked_by, grow_fault, rows_grown}
use Rattle.expand_ops.specs.Sizes.{kept_after, size_at}
use Rattle.side_model.specs.Answers.{side}
use Rattle.side_model.specs.Merged.{Step, OfWorld, OfSide, entries}
use Rattle.side_model.specs.Sides.{SideSetup, counted_in, tally_of}

-- each object has a UID
abbrev pub HaveUids : List Object → Type 0
HaveUids objects = (key : Key) (o : Object) → row_at key objects ≡ Some o → (uid : Uid) × ((meta_of o).uid ≡ Some uid)

-- each row of sizes is that of a claim that stands
abbrev pub SizesStand : List SizeRow → List Object → Type 0
SizesStand sizes objects = (key : Key) (x : SizeRow) → size_at key sizes ≡ Some x → (c : ClaimData) × ((row_at key objects ≡ Some (Claim c)) × (c.meta.uid ≡ Some x.claim))

-- at each point of a history each row of sizes is that of a claim that stands
abbrev pub SizesAlwaysStand : Type 0
SizesAlwaysStand =
    (setup : Setup) (given : SideSetup) (m : List Step) → IsHistory setup (entries m) → SizesStand (side setup given m).sizes (world setup (entries m)).store.rows

-- what counts by the reply of a call is what stands after the call
abbrev pub NotesMirror : Type 0
NotesMirror =
    (setup : Setup) (w : World) (kind : SeatKind) (request : Request) (sizes : List SizeRow)
    → AreRows w.store.rows → HaveUids w.store.rows → SizesStand sizes w.store.rows
    → noted (reply_to (effect setup w kind request)) (counted_in sizes w.store.rows)
    ≡ counted_in (kept_after (reply_to (effect setup w kind request)) sizes) (world_after w (effect setup w kind request)).store.rows

-- the objects of the world at a point
abbrev pub objects_at : Setup → List Step → List Object
objects_at setup m = (world setup (entries m)).store.rows

-- what a claim asks for at a point
abbrev pub asked_at : Setup → SideSetup → List Step → Key → ClaimData → ℕ
asked_at setup given m key c = asked_by (size_at key (side setup given m).sizes) c

-- what counts at a point
abbrev pub counted_at : Setup → SideSetup → List Step → List Counted
counted_at setup given m = counted_in (side setup given m).sizes (objects_at setup m)

-- the side's rows after the claim of the key was asked to grow at a point
abbrev pub sizes_after : Setup → SideSetup → List Step → Key → ℕ → List SizeRow
sizes_after setup given m key bytes = rows_grown (tally_of (side setup given m) (objects_at setup m)) (side setup given m).sizes (objects_at setup m) key bytes

-- before the first step the imports count, each claim with its request
abbrev pub FirstIsCounted : Type 0
FirstIsCounted = (setup : Setup) (given : SideSetup) → claims_in (objects_at setup []) ≡ counted_at setup given []

-- what counts by the reply of an entry of the world is what stands after it, over imports that pass
abbrev pub CallsAreCounted : Type 0
CallsAreCounted =
    (setup : Setup) (given : SideSetup) (m : List Step) (e : Entry) → ImportsPass setup.imports → IsHistory setup (e ∷ entries m)
    → noted e.reply (counted_at setup given m) ≡ counted_at setup given (OfWorld e ∷ m)

-- the ask is no growth, or one against which something stands
abbrev pub IsNoGrowth : Setup → SideSetup → List Step → SideAsk → Type 0
IsNoGrowth setup given m (Grow user key bytes) =
    (error : GrowError) × (grow_fault (tally_of (side setup given m) (objects_at setup m)) (side setup given m).sizes (objects_at setup m) key bytes ≡ Some error)
IsNoGrowth setup given m ask = ⊤

-- such an ask changes nothing of what counts
abbrev pub AsksCountAlike : Type 0
AsksCountAlike =
    (setup : Setup) (given : SideSetup) (m : List Step) (s : SideEntry) → IsNoGrowth setup given m s.ask → counted_at setup given (OfSide s ∷ m) ≡ counted_at setup given m

-- a claim that grows to so many bytes counted with fewer: the difference has room, and with it counts what stands
pub record CountsGrowth (setup : Setup) (given : SideSetup) (m : List Step) (key : Key) (bytes : ℕ) (c : ClaimData) (uid : Uid) : Type 0 where
  pub room : HasRoom c.meta.namespace uid (bytes - asked_at setup given m key c) (counted_at setup given m)
  pub grown : grown_in c.meta.namespace uid (bytes - asked_at setup given m key c) (counted_at setup given m) ≡ counted_in (sizes_after setup given m key bytes) (objects_at setup m)

-- so it is at each point, over imports that pass, of each claim against whose growth nothing stands
abbrev pub GrowthIsCounted : Type 0
GrowthIsCounted =
    (setup : Setup) (given : SideSetup) (m : List Step) → ImportsPass setup.imports → length (entries m) < most_entries
    → (key : Key) (bytes : ℕ) (c : ClaimData) (uid : Uid) → bytes < 2 ^ 64 → row_at key (objects_at setup m) ≡ Some (Claim c) → c.meta.uid ≡ Some uid
    → grow_fault (tally_of (side setup given m) (objects_at setup m)) (side setup given m).sizes (objects_at setup m) key bytes ≡ None
    → CountsGrowth setup given m key bytes c uid
