-- In a slot of an agent a pod leaves with each write, and in no slot one comes.
use Rattle.std.proofs.Common.{◌≡◌, ◌∙◌, ℕ, ◌+◌, ◌≤◌, List, ◌∷◌, Bool, Some, refl, sym, ap, subst, arith}
use Rattle.kube_objects.specs.declared.objects.Object.{Object}
use Rattle.kube_objects.specs.Keys.{AreRows}
use Rattle.call_types.specs.declared.entry.Entry.{Entry}
use Rattle.call_types.specs.declared.reply.Reply.{Reply}
use Rattle.call_types.specs.declared.request.Request.{Request}
use Rattle.call_types.specs.declared.request.SeatKind.{SeatKind}
use Rattle.call_types.specs.declared.request.SeatKind.TheVariants as seats
use Rattle.call_types.specs.declared.setup.Setup.{Setup}
use Rattle.binder_model.specs.Licence.{Licensed}
use Rattle.binder_model.specs.Promises.{IsRunOf}
use Rattle.binder_model.specs.Store.{State}
use Rattle.binder_model.specs.Told.{own}
use Rattle.binder_model.specs.World.{World, effect, world, world_after}
use Rattle.model_laws.proofs.Histories.{rows_stand_in_order}
use Rattle.safety_law.specs.Invariant.Moves.{written_by}
use Rattle.safety_law.specs.Invariant.Writes.{Writes}
use Rattle.safety_law.proofs.Invariant.Effects.{effect_form}
use Rattle.settle_measure.specs.Left.Measure.{pods_in}
use Rattle.worker_core.specs.declared.role.Role.{Role}
use Rattle.worker_core.specs.Absorbs.{woken}
use Rattle.worker_core.specs.Roles.{IsBuiltKind}
use Rattle.worker_core.specs.States.{ActorState}
use Rattle.actor_rounds.specs.Rounds.{Lets, Runs, told_entry}
use Rattle.actor_rounds.proofs.RunFacts.{run_grows}
use Rattle.settle_writes.proofs.Done.Doing.{write_asked}
use Rattle.settle_write_counts.proofs.Rounds.Runs.{IsCalled, run_moves}
use Rattle.settle_write_counts.proofs.Rounds.Slots.{ComesTo, Leaves, Wrote, comes_to, counted}
use Rattle.settle_write_counts.specs.Agents.Agents.{AgentsWriteLittle, SlotsAddNoPod}
use Rattle.settle_write_counts.proofs.Agents.Pods.{agent_takes, writes_stay}

abbrev pods : World → ℕ
pods w = pods_in w.store.rows

-- the writes that were done, and the pods that stand
abbrev low : World → ℕ
low w = w.store.version + pods w

-- ---- each call

module _ (setup : Setup) (w : World) (order : AreRows w.store.rows) (mine : List Entry) (request : Request) where
  abbrev next : SeatKind → World
  next kind = world_after w (effect setup w kind request)

  asked : (kind : SeatKind) (o : Object) → written_by (effect setup w kind request) ≡ Some o → Writes w kind request o
  asked kind o written = write_asked setup w kind request o (effect setup w kind request) (effect_form setup w kind request order) written

  stays : (kind : SeatKind) → IsBuiltKind kind → Licensed kind mine request → pods (next kind) ≤ pods w
  stays kind built may = by (comes_to w (effect setup w kind request))
    where
      by : ComesTo w (effect setup w kind request) → pods (next kind) ≤ pods w
      by (Leaves same) = let e : pods (next kind) ≡ pods w = ap (λ (s : State). pods_in s.rows) same in omega (arith, e)
      by (Wrote o written version moved) = writes_stay w order mine kind built o (next kind).store.rows moved request may (asked kind o written)

  lowers : Licensed seats.Agent mine request → low (next seats.Agent) ≤ low w
  lowers may = by (comes_to w (effect setup w seats.Agent request))
    where
      by : ComesTo w (effect setup w seats.Agent request) → low (next seats.Agent) ≤ low w
      by (Leaves same) = let e : low (next seats.Agent) ≡ low w = ap (λ (s : State). s.version + pods_in s.rows) same in omega (arith, e)
      by (Wrote o written version moved) = let h = agent_takes setup w order mine o request may written (asked seats.Agent o written) in omega (arith, version, h)

-- ---- the slots

module _ (setup : Setup) (lets : Lets) (seat : ℕ) (old after : ActorState) (h past : List Entry) (b left : ℕ) (idle : Bool)
    (run : IsRunOf setup past) (runs : Runs lets seat after past left idle (woken old) h b) where
  slot_low : old.role.kind ≡ seats.Agent → low (world setup past) ≤ low (world setup h)
  slot_low kind = run_moves setup lets seat after past left idle run old.role (subst IsBuiltKind (sym kind) tt) (λ w v. low v ≤ low w)
      (λ w. omega arith) (λ x y z few fewer. omega (arith, few, fewer)) calls (woken old) h b runs refl
    where
      calls : (x : ActorState) (request : Request) (reply : Reply) (g : List Entry) → x.role ≡ old.role → IsCalled setup seat x request reply g
          → low (world setup (told_entry seat x request reply ∷ g)) ≤ low (world setup g)
      calls x request reply g is called =
          let agent : x.role.kind ≡ seats.Agent = ap (λ (r : Role). r.kind) is ∙ kind in
          let here = lowers setup (world setup g) (rows_stand_in_order setup g) (own seat g) request (subst (λ k. Licensed k (own seat g) request) agent called.may) in
          subst (λ k. low (world_after (world setup g) (effect setup (world setup g) k request)) ≤ low (world setup g)) (sym agent) here

  slot_pods : IsBuiltKind old.role.kind → pods (world setup past) ≤ pods (world setup h)
  slot_pods built = run_moves setup lets seat after past left idle run old.role built (λ w v. pods v ≤ pods w) (λ w. omega arith)
      (λ x y z few fewer. omega (arith, few, fewer)) calls (woken old) h b runs refl
    where
      calls : (x : ActorState) (request : Request) (reply : Reply) (g : List Entry) → x.role ≡ old.role → IsCalled setup seat x request reply g
          → pods (world setup (told_entry seat x request reply ∷ g)) ≤ pods (world setup g)
      calls x request reply g is called = stays setup (world setup g) (rows_stand_in_order setup g) (own seat g) request x.role.kind (subst
          (λ (r : Role). IsBuiltKind r.kind) (sym is) built) called.may

pub agents_write_little : AgentsWriteLittle
agents_write_little setup lets seat old after h past b left idle kind run runs =
    let falls = slot_low setup lets seat old after h past b left idle run runs kind in
    let g = run_grows lets seat after past left idle (woken old) h b runs in
    let done = counted setup g.longer.added h past g.longer.are in
    omega (arith, falls, done)

pub slots_add_no_pod : SlotsAddNoPod
slots_add_no_pod setup lets seat old after h past b left idle built run runs = slot_pods setup lets seat old after h past b left idle run runs built
