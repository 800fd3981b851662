-- What a round does in which as much is left to do: it moves the nodes of claims, and nothing else.
-- A choice of this project.
use Rattle.std.specs.Prelude.{◌≡◌, ◌⊎◌, ◌≤◌, Bool, true, false, List, Some}
use Rattle.kube_objects.specs.declared.key.Key.{Key}
use Rattle.kube_objects.specs.declared.objects.Claim.{Claim as ClaimData}
use Rattle.kube_objects.specs.declared.objects.Object.TheVariants.{Claim}
use Rattle.kube_objects.specs.Bindings.{has_key, selected_node}
use Rattle.kube_objects.specs.Keys.{row_at}
use Rattle.call_types.specs.declared.entry.Entry.{Entry}
use Rattle.call_types.specs.declared.request.SeatKind.{SeatKind}
use Rattle.call_types.specs.declared.request.SeatKind.TheVariants as seats
use Rattle.call_types.specs.declared.setup.Setup.{Setup}
use Rattle.binder_model.specs.Promises.{IsRunOf}
use Rattle.binder_model.specs.World.{World, world}
use Rattle.settle_measure.specs.Left.Measure.{work_left}
use Rattle.settle_writes.specs.Writes.Lasting.{content_of}
use Rattle.settle_alike.specs.Alike.Alike.{AreAlike}
use Rattle.settle_pays.specs.Pays.Pays.{HavePaid}
use Rattle.settle_budget.specs.Drains.Budget.{AreAlwaysInOrder}
use Rattle.settle_alike.specs.Near.Near.{AreNear}
use Rattle.std.specs.Prelude.{◌∷◌}

-- a claim stands there with the same content
pub record StoodSo (w : World) (key : Key) (c : ClaimData) : Type 0 where
  pub claim : ClaimData
  pub there : row_at key w.store.rows ≡ Some (Claim claim)
  pub same : content_of (Claim claim) ≡ content_of (Claim c)

-- the worlds are near, and each claim of the new one stood so in the old, or has a node now, or has none now
pub record MovesNodes (has : Bool) (old new : World) : Type 0 where
  pub near : AreNear old new
  pub claims : (key : Key) (c : ClaimData) → row_at key new.store.rows ≡ Some (Claim c) → StoodSo old key c ⊎ (has_key selected_node c.meta.annotations ≡ has)

-- an entry that leaves as much to do, by the kind of its seat: the scheduler gives claims a node, ops takes nodes back, and those of the others
-- leave the world alike
abbrev pub MovesBy : SeatKind → World → World → Type 0
MovesBy seats.Scheduler old new = MovesNodes true old new
MovesBy seats.Ops old new = MovesNodes false old new
MovesBy kind old new = AreAlike old new

-- each entry of a run that pays does, where it leaves as much to do
abbrev pub EntriesMoveNodes : Type 0
EntriesMoveNodes =
    (setup : Setup) (e : Entry) (h : List Entry) → IsRunOf setup (e ∷ h) → AreAlwaysInOrder setup h → HavePaid setup h (e ∷ h) → work_left setup (world setup h) ≤ work_left setup (world setup (e ∷ h))
    → MovesBy e.kind (world setup h) (world setup (e ∷ h))

-- so some entries leave the world near
abbrev pub PaidLeaveNear : Type 0
PaidLeaveNear = (setup : Setup) (h past : List Entry) → IsRunOf setup past → AreAlwaysInOrder setup past → HavePaid setup h past
    → work_left setup (world setup h) ≤ work_left setup (world setup past) → AreNear (world setup h) (world setup past)
