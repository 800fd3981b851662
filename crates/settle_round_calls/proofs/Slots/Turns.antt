-- Past its first pass a turn of an actor costs nothing: a decision begins no more than was reckoned for its key, and a new pass is paid for by the
-- writes since the last one.
use Rattle.std.proofs.Common.{◌≡◌, ◌∙◌, ℕ, ◌+◌, ◌-◌, ◌≤◌, List, [], length, Bool, true, false, Option, Some, None, inl, inr, refl, sym, ap, subst, arith, if◌then◌else◌}
use Rattle.kube_objects.specs.declared.key.Key.{Key}
use Rattle.kube_parts.specs.declared.parts.Kind.{Kind}
use Rattle.kube_objects.specs.declared.objects.Object.{Object}
use Rattle.kube_objects.specs.Keys.{kind_index, kind_of, row_at}
use Rattle.kube_objects.proofs.KeyOrder.{row_at_key}
use Rattle.call_types.specs.declared.entry.Entry.{Entry}
use Rattle.call_types.specs.declared.request.Request.{Request}
use Rattle.call_types.specs.declared.setup.Setup.{Setup}
use Rattle.binder_model.specs.Reading.{follows}
use Rattle.binder_model.specs.World.{IsHistory, world}
use Rattle.informer_cache.specs.All.{all_objects}
use Rattle.model_laws.proofs.Lists.{none_some}
use Rattle.sync_queue.specs.Work.{Work, added, begun, oldest_of}
use Rattle.worker_core.specs.declared.role.Role.{Role}
use Rattle.worker_core.specs.declared.task.First.{First}
use Rattle.worker_core.specs.declared.task.First.TheVariants as firsts
use Rattle.worker_core.specs.declared.task.Under.{Under}
use Rattle.worker_core.specs.declared.turn.Given.{Given}
use Rattle.worker_core.specs.declared.turn.Given.TheVariants as givens
use Rattle.worker_core.specs.declared.turn.Next.TheVariants.{Call}
use Rattle.worker_core.specs.Memories.{Memory}
use Rattle.worker_core.specs.Roles.{IsBuiltKind, kinds_of}
use Rattle.worker_core.specs.States.{ActorState, call_in, start_call}
use Rattle.worker_core.specs.Tasks.{GivesNone}
use Rattle.worker_core.specs.Turns.{AfterKeys, Begins, Decides, Drops, IsTurn, Nothing, TurnBy, dropped, passing, unlisted}
use Rattle.attention_law.specs.Queues.{taken_keys, under_keys}
use Rattle.attention_law.proofs.Queues.{begun_taken}
use Rattle.actor_rounds.specs.Rounds.{IsReady}
use Rattle.settle_slot.specs.Slot.Slots.{SeesStore}
use Rattle.settle_calls.specs.Tasks.Costs.{work_cost}
use Rattle.settle_calls.specs.Tasks.Tasks.{under_left}
use Rattle.settle_calls.proofs.Tasks.Begun.{queued_on}
use Rattle.settle_calls.proofs.Tasks.Works.{added_cost, begun_cost, finished_cost}
use Rattle.worker_core.proofs.Machines.{queued_kinds}
use Rattle.settle_calls.proofs.Passes.Second.{dropped_none, single_once}
use Rattle.settle_write_counts.proofs.Rounds.Growth.{AreGiven}
use Rattle.settle_round_calls.proofs.Slots.Begun.{begun_on_own, queues_so}
use Rattle.settle_round_calls.proofs.Slots.Calls.{AtKeys, InPass, IsLess, Stage, kinds_ahead, pass_left, slot_left}
use Rattle.settle_round_calls.specs.Slots.Costs.{own_calls}
use Rattle.settle_round_calls.proofs.Slots.RoundCosts.{AreKept, cost_in, covers, of_volume, queued_cost}
use Rattle.settle_round_calls.proofs.Slots.Stages.{IsAtKeys, keys_of, pass_begins}

-- the turns

module _ (role : Role) (memory : Memory) (rows : List Object) (first stored : List Object) (so : AreGiven first stored)
    (exact : (key : Key) → follows role.kind key.kind ≡ true → row_at key rows ≡ row_at key stored) where
  abbrev f : Key → ℕ
  f = cost_in role.kind first stored

  -- a key whose decision rests on this row costs as much at least
  row_cost : (key : Key) (o : Object) → row_at key rows ≡ Some o → follows role.kind (kind_of o) ≡ true → own_calls role.kind o ≤ cost_in role.kind first stored key
  row_cost key o there followed =
      let own : follows role.kind key.kind ≡ true = subst (λ (k : Key). follows role.kind k.kind ≡ true) (row_at_key key o rows there) followed in
      covers role.kind first stored so key o (sym (exact key own) ∙ there)

  dropped_cost : (what : First) (key : Key) (w : Work) → oldest_of w.waiting ≡ Some key → taken_keys w ≡ [] → GivesNone role memory rows key what
      → work_cost (cost_in role.kind first stored) (dropped what key w) ≤ work_cost (cost_in role.kind first stored) w
  dropped_cost firsts.Drops key w old none gives = let a = begun_cost (cost_in role.kind first stored) key w old in let b =
      finished_cost (cost_in role.kind first stored) key (begun w) in omega (arith, a, b)
  dropped_cost (firsts.Begins task) key w old none gives = let a = begun_cost (cost_in role.kind first stored) key w old in let b =
      finished_cost (cost_in role.kind first stored) key (begun w) in omega (arith, a, b)
  dropped_cost (firsts.Queues other) key w old none gives =
      let q = queued_on role memory rows key other gives.decided in
      let kinds = queued_kinds role memory rows key other gives.decided in
      let two : kind_index (kind_of q.object) ≡ 2 = ap (λ (k : Key). kind_index k.kind) (row_at_key key q.object rows q.there) ∙ kinds.0 in
      let own = row_cost key q.object q.there q.followed in
      let who = queues_so role.kind role.node memory rows key other gives.decided in
      let volume = of_volume role.kind who.then_ q.object two in
      let less = who.less in
      let more = queued_cost role.kind first stored other kinds.1 in
      let a = begun_cost (cost_in role.kind first stored) key w old in
      let b = added_cost (cost_in role.kind first stored) other (begun w) (single_once key (begun w) (begun_taken key w old none)) in
      let c = finished_cost (cost_in role.kind first stored) key (added other (begun w)) in
      omega (arith, own, volume, less, more, a, b, c)

  decided_cost : (after : Work) (under : Option Under) (w : Work) → Decides role memory rows after under w → taken_keys w ≡ []
      → under_left under + work_cost (cost_in role.kind first stored) after ≤ work_cost (cost_in role.kind first stored) w
  decided_cost after under w (Nothing empty same none) e = let a = ap (work_cost (cost_in role.kind first stored)) same in let b = ap under_left none in omega (arith, a, b)
  decided_cost after under w (Begins u old gives same some) e =
      let b = begun_on_own role.kind role.node memory rows u.key u.task gives.decided in
      let own = row_cost u.key b.object b.there b.followed in
      let light = b.light in
      let a = begun_cost (cost_in role.kind first stored) u.key w old in
      let c = ap (work_cost (cost_in role.kind first stored)) same in
      let d = ap under_left some in
      omega (arith, own, light, a, c, d)
  decided_cost after under w (Drops key what old none rest) e =
      let a = dropped_cost what key w old e none in
      let b = decided_cost after under _ rest (dropped_none role memory rows what key w old e) in
      omega (arith, a, b)

-- a turn that gives a call costs nothing: it decides keys, or begins a pass
pub turn_costs : (setup : Setup) (first : List Object) (seat high : ℕ) (s given : ActorState) (request : Request) (h : List Entry)
    → AreKept s.role.kind first (world setup h).store.rows → (world setup h).store.version ≤ high → IsReady seat s h → IsBuiltKind s.role.kind → IsHistory setup h
    → IsTurn s given (Call request) → (passing s ≡ None → SeesStore setup s h) → (stage : Stage setup seat s h) → IsLess setup first seat high given h 0 (slot_left setup first seat high s h stage)
turn_costs setup first seat high s given request h so short ready built history turn exact stage = by s.memory.stale s.under (start_call s.role s.memory) (unlisted s) (passing s) refl refl refl turn
  where
    same : (x : ActorState) → given ≡ x → IsLess setup first seat high x h 0 (slot_left setup first seat high s h stage)
        → IsLess setup first seat high given h 0 (slot_left setup first seat high s h stage)
    same x e less = subst (λ y. IsLess setup first seat high y h 0 (slot_left setup first seat high s h stage)) (sym e) less

    -- what is given changes nothing
    still : (g : Option Given) (x : Stage setup seat s h) → IsLess setup first seat high (record s { given = g }) h 0 (slot_left setup first seat high s h x)
    still g (InPass none behind) = record { stage = InPass none behind; less = omega arith }
    still g (AtKeys read over kinds low few) = record { stage = AtKeys read over kinds low few; less = omega arith }

    keys : (w : Work) (under : Option Under) → s.under ≡ None → IsAtKeys setup first seat high s h (kinds_ahead setup first seat high s h stage)
        → Decides s.role s.memory (all_objects s.caches) w under s.work → passing s ≡ None → AfterKeys s given (Call request) w under
        → IsLess setup first seat high given h 0 (slot_left setup first seat high s h stage)
    keys w (Some u) eu at d ep b =
        let none : taken_keys s.work ≡ [] = ready.stands.queue.taken ∙ ap under_keys eu in
        let c = decided_cost s.role s.memory (all_objects s.caches) first (world setup h).store.rows so.given (exact ep) w (Some u) s.work d none in
        let z = ap under_left eu in
        let less = at.less in
        same (record s { work = w; under = Some u; given = Some givens.Task }) b.state (record { stage = AtKeys at.read at.over at.kinds at.low at.few; less = omega (arith, c, z, less) })
    keys w None eu at d ep (inl b) =
        let none : taken_keys s.work ≡ [] = ready.stands.queue.taken ∙ ap under_keys eu in
        let c = decided_cost s.role s.memory (all_objects s.caches) first (world setup h).store.rows so.given (exact ep) w None s.work d none in
        let brought : pass_left s.role.kind s.pass ≡ (length (kinds_of s.role.kind) - s.pass.behind) + length (kinds_of s.role.kind) =
        ap (λ e. (length (kinds_of s.role.kind) - s.pass.behind) + (if e then length (kinds_of s.role.kind) else 0)) b.brought in
        let begins = pass_begins setup first seat high s h (kinds_ahead setup first seat high s h stage) short at in
        let z = ap under_left eu in
        same (record s { work = w; pass = record { behind = 0; event = false }; given = Some (givens.Read b.kind) }) b.state
        (record { stage = InPass eu (λ place kind from lt. absurd (omega (arith, lt))); less = omega (arith, c, brought, begins, z) })
    keys w None eu at d ep (inr b) = none_some (sym (ap call_in b.idle))

    by : (stale : Bool) (u : Option Under) (start : Option Request) (l p : Option Kind) → s.under ≡ u → unlisted s ≡ l → passing s ≡ p
        → TurnBy s given (Call request) stale u start l p → IsLess setup first seat high given h 0 (slot_left setup first seat high s h stage)
    by true u start l p eu el ep t = none_some (sym (ap call_in t.idle))
    by false (Some u) start l p eu el ep t = same (record s { given = Some givens.Task }) t.state (still (Some givens.Task) stage)
    by false None (Some r) l p eu el ep t = same (record s { given = Some givens.Start }) t.state (still (Some givens.Start) stage)
    by false None None (Some k) p eu el ep t = same (record s { given = Some (givens.Read k) }) t.state (still (Some (givens.Read k)) stage)
    by false None None None (Some k) eu el ep t = same (record s { given = Some (givens.Read k) }) t.state (still (Some (givens.Read k)) stage)
    by false None None None None eu el ep t = keys t.work t.under eu (keys_of setup first seat high s h ready built history el ep stage) t.decides ep t.then_
