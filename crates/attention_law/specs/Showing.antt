-- Where one list of rows is enough to know that a key is due, and diligent lives where it is. A choice of this project.
use Rattle.std.specs.Prelude.{◌≡◌, ◌⊎◌, true, false, List, [], ◌∷◌, ◌++◌, Option, Some, ⊤}
use Rattle.kube_objects.specs.declared.key.Key.{Key}
use Rattle.kube_parts.specs.declared.parts.Kind.{Kind}
use Rattle.kube_objects.specs.declared.objects.Object.{Object}
use Rattle.kube_objects.specs.declared.objects.Object.TheVariants.{Volume, Claim}
use Rattle.kube_objects.specs.declared.objects.Volume.{Volume as VolumeData}
use Rattle.kube_objects.specs.Bindings.{is_completed, is_empty}
use Rattle.kube_objects.specs.Keys.{row_at}
use Rattle.call_types.specs.declared.entry.Entry.{Entry}
use Rattle.call_types.specs.declared.request.SeatKind.{SeatKind}
use Rattle.call_types.specs.declared.request.SeatKind.TheVariants as seats
use Rattle.worker_core.specs.declared.role.Role.{Role}
use Rattle.worker_core.specs.declared.task.Under.{Under}
use Rattle.worker_core.specs.Memories.{memory_of}
use Rattle.worker_core.specs.Roles.{IsBuiltKind}
use Rattle.worker_core.specs.Tasks.{GivesCall}
use Rattle.worker_core.specs.States.{ActorState}
use Rattle.attention_law.specs.Diligence.{AreFourWatches, Call, IsKeyDue, Shows, WasAskedSince, entries}
use Rattle.attention_law.specs.Played.{IsPlayed}

-- the decision on the row is the same on all rows in order that show the same: of a binder each but that on a claim for which
-- a volume is sought, since two volumes of one name, in two namespaces, may both be the best; of every other kind each. A
-- scheduler passes over what stands in a namespace
abbrev pub IsLookedUp : SeatKind → Option Object → Type 0
IsLookedUp seats.Binder (Some (Volume v)) = ⊤
IsLookedUp seats.Binder (Some (Claim c)) = (is_completed c ≡ true) ⊎ (is_empty c.volume_name ≡ false)
IsLookedUp seats.Ops row = ⊤
IsLookedUp seats.Scheduler row = ⊤
IsLookedUp seats.ClaimProtect row = ⊤
IsLookedUp seats.VolumeProtect row = ⊤
IsLookedUp seats.Agent row = ⊤
IsLookedUp seat row = ⊥

-- where the rules give a call for such a key on some rows that show the newest told, the key is due
abbrev pub OneShowingIsEnough : Type 0
OneShowingIsEnough = (role : Role) (key : Key) (mine : List Entry) (rows : List Object) (u : Under) → IsBuiltKind role.kind → Shows mine rows
    → IsLookedUp role.kind (row_at key rows) → u.key ≡ key → GivesCall role (memory_of role mine) rows u → IsKeyDue role key mine

-- no volume of the rows stands in a namespace: no store takes one that does
abbrev pub HaveNoNamespace : List Object → Type 0
HaveNoNamespace rows = (key : Key) (v : VolumeData) → row_at key rows ≡ Some (Volume v) → v.meta.namespace ≡ []

-- on the rows that show of each key the newest that was told, the rules give a call for the key; a binder's have no volume in
-- a namespace
pub record IsDueInOrder (role : Role) (key : Key) (mine : List Entry) : Type 0 where
  pub rows : List Object
  pub shows : Shows mine rows
  pub spaceless : role.kind ≡ seats.Binder → HaveNoNamespace rows
  pub under : Under
  pub own : under.key ≡ key
  pub gives : GivesCall role (memory_of role mine) rows under

-- such a key is due, whatever rows are looked at
abbrev pub RowsInOrderAreEnough : Type 0
RowsInOrderAreEnough = (role : Role) (key : Key) (mine : List Entry) → IsBuiltKind role.kind → IsDueInOrder role key mine → IsKeyDue role key mine

-- at each point from the calls `before` on, up to those that came since
abbrev pub IsDueInOrderThroughout : Role → Key → List Call → List Call → Type 0
IsDueInOrderThroughout role key before [] = IsDueInOrder role key (entries before)
IsDueInOrderThroughout role key before (call ∷ since) = IsDueInOrder role key (entries (call ∷ since ++ before)) × IsDueInOrderThroughout role key before since

-- of four watches of a kind without news, a loss or a write from the first to the fourth: a key for which the rules give a
-- call at each point between them was called for between them
abbrev pub IsDiligentInOrder : Role → List Call → Type 0
IsDiligentInOrder role calls = (kind : Kind) (first fourth : Entry) (earlier between later : List Call) → calls ≡ later ++ (Some fourth ∷ between ++ Some first ∷ earlier)
    → AreFourWatches kind first fourth between → (key : Key) → IsDueInOrderThroughout role key (Some first ∷ earlier) between → WasAskedSince role key (Some first ∷ earlier) between

-- a life that is played is so, of each kind of actor that is built
abbrev pub PlayedIsDiligentInOrder : Type 0
PlayedIsDiligentInOrder = (role : Role) (s : ActorState) (calls : List Call) → IsBuiltKind role.kind → IsPlayed role s calls → IsDiligentInOrder role calls
