-- A slot costs no more than the objects with which it begins, its writes, and what is listed again.
use Rattle.std.proofs.Common.{◌≡◌, ℕ, ◌+◌, ◌*◌, ◌-◌, ◌≤◌, List, Bool, None, length, refl, arith}
use Rattle.std.specs.Prelude.{◌/◌}
use Rattle.std.proofs.lemmas.Nat.{mul-le}
use Rattle.kube_parts.specs.declared.parts.Kind.{Kind}
use Rattle.kube_objects.specs.declared.objects.Object.{Object}
use Rattle.call_types.specs.declared.entry.Entry.{Entry}
use Rattle.call_types.specs.declared.request.SeatKind.{SeatKind}
use Rattle.call_types.specs.declared.request.SeatKind.TheVariants as seats
use Rattle.call_types.specs.declared.setup.Setup.{Setup}
use Rattle.binder_model.specs.Promises.{IsRunOf}
use Rattle.binder_model.specs.World.{world}
use Rattle.model_laws.proofs.Histories.{rows_stand_in_order}
use Rattle.settle_measure.specs.Left.Measure.{claims_in}
use Rattle.worker_core.specs.Roles.{IsBuiltKind, kinds_of}
use Rattle.worker_core.specs.States.{ActorState}
use Rattle.actor_rounds.specs.Rounds.{Lets, Runs}
use Rattle.settle_slot.specs.Slot.Slots.{begun}
use Rattle.settle_calls.specs.Events.Ahead.{sum_over}
use Rattle.settle_calls.specs.Slots.Slots.{PassesReads, writes_since}
use Rattle.settle_write_counts.proofs.Rounds.Growth.{made_few, made_keys}
use Rattle.settle_round_calls.specs.Slots.Costs.{made_calls}
use Rattle.settle_round_calls.specs.Slots.Slots.{again_calls, objects_calls}
use Rattle.settle_round_calls.proofs.Slots.Calls.{sweep_cost, sweep_is}
use Rattle.settle_round_calls.proofs.Slots.KindCosts.{kinds_cost}
use Rattle.settle_round_calls.proofs.Slots.RoundCosts.{kept_first, most}
use Rattle.settle_round_calls.proofs.Slots.Slots.{costs_from}

-- what a pass costs in which each kind is listed again
abbrev pub pass_calls : SeatKind → ℕ
pass_calls kind = length (kinds_of kind) * (2 + length (kinds_of kind))

pub with_pass : (kind : SeatKind) (f : Kind → ℕ) → sum_over (λ k. f k + (2 + length (kinds_of kind))) (kinds_of kind) ≡ sum_over f (kinds_of kind) + pass_calls kind
with_pass seats.User f = omega arith
with_pass seats.Binder f = omega arith
with_pass seats.Ops f = omega arith
with_pass seats.Scheduler f = omega arith
with_pass seats.ClaimProtect f = omega arith
with_pass seats.VolumeProtect f = omega arith
with_pass seats.Agent f = omega arith

-- the kinds cost no more than the objects, with a volume for each claim
kinds_few : (kind : SeatKind) (rows : List Object) → sum_over (most kind rows) (kinds_of kind) ≤ objects_calls kind rows
kinds_few kind rows =
    let all = kinds_cost kind rows in
    let made = made_few rows in
    let times = mul-le (length (made_keys rows)) (made_calls kind) (claims_in rows) (made_calls kind) made (omega arith) in
    omega (arith, all, times)

pub again_is : (kind : SeatKind) (rows : List Object) → again_calls kind rows ≡ (objects_calls kind rows + pass_calls kind) - 7 * 513
unfolding again_calls
again_is kind rows = refl

again_more : (kind : SeatKind) (rows : List Object) → sweep_cost rows kind ≤ again_calls kind rows
again_more kind rows =
    let is = sweep_is rows kind in
    let pass = with_pass kind (most kind rows) in
    let few = kinds_few kind rows in
    let again = again_is kind rows in
    omega (arith, is, pass, few, again)

-- of an actor with nothing under way
pub costs_by_rows :
    (setup : Setup) (lets : Lets) (seat : ℕ) (old after : ActorState) (h past : List Entry) (b left : ℕ) (idle : Bool) → IsBuiltKind old.role.kind
    → IsRunOf setup past → PassesReads lets → old.under ≡ None → Runs lets seat after past left idle (begun old) h b
    → b ≤ left + (8 * writes_since setup h past +
    (objects_calls old.role.kind (world setup h).store.rows + (again_calls old.role.kind (world setup h).store.rows * (writes_since setup h past / 513) + 62)))
costs_by_rows setup lets seat old after h past b left idle built run passes rests runs =
    let rows = rows_stand_in_order setup h in
    let bound = costs_from setup lets seat old after h past b left idle (world setup h).store.rows built run passes rests rows (kept_first old.role.kind (world setup h).store.rows) runs in
    let few = kinds_few old.role.kind (world setup h).store.rows in
    let swept = mul-le (sweep_cost (world setup h).store.rows old.role.kind) (writes_since setup h past / 513)
    (again_calls old.role.kind (world setup h).store.rows) (writes_since setup h past / 513) (again_more old.role.kind (world setup h).store.rows) (omega arith) in
    omega (arith, bound, few, swept)
