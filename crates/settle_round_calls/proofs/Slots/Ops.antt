-- What a slot of the provisioner and reclaimer costs.
use Rattle.std.proofs.Common.{◌≡◌, ◌∙◌, ℕ, ◌+◌, ◌*◌, ◌≤◌, List, [], ◌∷◌, Bool, true, false, None, refl, sym, ap, subst, arith, if◌then◌else◌}
use Rattle.std.specs.Prelude.{◌/◌}
use Rattle.kube_objects.specs.declared.objects.Object.{Object}
use Rattle.kube_objects.specs.declared.objects.Object.TheVariants.{Class, Node, Volume, Claim, Pod}
use Rattle.kube_objects.specs.Bindings.{is_ended}
use Rattle.call_types.specs.declared.entry.Entry.{Entry}
use Rattle.call_types.specs.declared.request.SeatKind.TheVariants as seats
use Rattle.call_types.specs.declared.setup.Setup.{Setup}
use Rattle.binder_model.specs.Promises.{IsRunOf}
use Rattle.binder_model.specs.World.{world}
use Rattle.settle_measure.specs.Left.Measure.{claims_in, total, volumes_in}
use Rattle.worker_core.specs.Roles.{IsBuiltKind}
use Rattle.worker_core.specs.States.{ActorState}
use Rattle.actor_rounds.specs.Rounds.{Lets, Runs}
use Rattle.settle_slot.specs.Slot.Slots.{begun}
use Rattle.settle_calls.specs.Slots.Slots.{PassesReads, writes_since}
use Rattle.settle_write_counts.proofs.Rounds.Runs.{silent_run}
use Rattle.settle_round_calls.specs.Slots.Costs.{own_calls}
use Rattle.settle_round_calls.specs.Slots.Slots.{again_calls, ended_in, objects_calls, ops_sweep_calls}
use Rattle.settle_round_calls.proofs.Slots.Alone.{again_is, costs_by_rows}

-- they are no more than the volumes
pub ended_few : (rows : List Object) → ended_in rows ≤ volumes_in rows
ended_few [] = omega arith
ended_few (Volume v ∷ os) = let rest = ended_few os in let one = by (is_ended v.phase) in omega (arith, rest, one)
  where
    by : (b : Bool) → (if b then 1 else 0) ≤ 1
    by true = omega arith
    by false = omega arith
ended_few (Class x ∷ os) = ended_few os
ended_few (Node x ∷ os) = ended_few os
ended_few (Claim x ∷ os) = ended_few os
ended_few (Pod x ∷ os) = ended_few os

ops_total : (rows : List Object) → total (own_calls seats.Ops) rows ≡ 2 * claims_in rows + 3 * ended_in rows
ops_total [] = omega arith
ops_total (Volume v ∷ os) = let rest = ops_total os in let own = by (is_ended v.phase) in omega (arith, rest, own)
  where
    by : (b : Bool) → (if b then 3 else 0) ≡ 3 * (if b then 1 else 0)
    by true = omega arith
    by false = omega arith
ops_total (Claim x ∷ os) = let rest = ops_total os in omega (arith, rest)
ops_total (Class x ∷ os) = let rest = ops_total os in omega (arith, rest)
ops_total (Node x ∷ os) = let rest = ops_total os in omega (arith, rest)
ops_total (Pod x ∷ os) = let rest = ops_total os in omega (arith, rest)

-- what the objects cost ops, and what a sweep does
pub ops_objects : (rows : List Object) → objects_calls seats.Ops rows ≡ 2 * claims_in rows + 3 * ended_in rows
ops_objects rows = let all = ops_total rows in omega (arith, all)

pub ops_sweeps : (rows : List Object) → again_calls seats.Ops rows ≡ ops_sweep_calls rows
unfolding ops_sweep_calls
ops_sweeps rows = let is = again_is seats.Ops rows in let objects = ops_objects rows in omega (arith, is, objects)

-- one that was told that its epoch is stale makes no call
pub ops_costs_from :
    (setup : Setup) (lets : Lets) (seat : ℕ) (old after : ActorState) (h past : List Entry) (b left : ℕ) (idle : Bool) → old.role.kind ≡ seats.Ops
    → IsRunOf setup past → PassesReads lets → (old.memory.stale ≡ false → old.under ≡ None)
    → Runs lets seat after past left idle (begun old) h b
    → b ≤ left + (8 * writes_since setup h past +
    (2 * claims_in (world setup h).store.rows + 3 * ended_in (world setup h).store.rows + 62) + ops_sweep_calls (world setup h).store.rows * (writes_since setup h past / 513))
ops_costs_from setup lets seat old after h past b left idle kind run passes rests runs = by old.memory.stale refl
  where
    by : (stale : Bool) → old.memory.stale ≡ stale
        → b ≤ left + (8 * writes_since setup h past +
        (2 * claims_in (world setup h).store.rows + 3 * ended_in (world setup h).store.rows + 62) + ops_sweep_calls (world setup h).store.rows * (writes_since setup h past / 513))
    by true stale = let same = (silent_run setup lets seat after past left idle run (begun old) h b runs stale).1 in omega (arith, same)
    by false fresh =
        let bound = costs_by_rows setup lets seat old after h past b left idle (subst IsBuiltKind (sym kind) tt) run passes (rests fresh) runs in
        let objects : objects_calls old.role.kind (world setup h).store.rows ≡ 2 * claims_in (world setup h).store.rows + 3 * ended_in
        (world setup h).store.rows = ap (λ k. objects_calls k (world setup h).store.rows) kind ∙ ops_objects (world setup h).store.rows in
        let again : again_calls old.role.kind (world setup h).store.rows * (writes_since setup h past / 513) ≡ ops_sweep_calls (world setup h).store.rows * (writes_since setup h past / 513) =
        ap (λ n. n * (writes_since setup h past / 513)) (ap (λ k. again_calls k (world setup h).store.rows) kind ∙ ops_sweeps (world setup h).store.rows) in
        omega (arith, bound, objects, again)
