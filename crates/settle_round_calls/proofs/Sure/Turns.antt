-- Past its first pass a turn of such an actor costs nothing: what a decision begins will write, and a new pass is paid for by the writes since the last one.
use Rattle.std.proofs.Common.{◌≡◌, ◌∙◌, ℕ, ◌+◌, ◌-◌, List, length, Bool, true, false, Option, Some, None, inl, inr, refl, sym, ap, subst, arith, if◌then◌else◌}
use Rattle.kube_parts.specs.declared.parts.Kind.{Kind}
use Rattle.call_types.specs.declared.entry.Entry.{Entry}
use Rattle.call_types.specs.declared.request.Request.{Request}
use Rattle.call_types.specs.declared.setup.Setup.{Setup}
use Rattle.binder_model.specs.Imports.{ImportsPass}
use Rattle.binder_model.specs.World.{IsHistory}
use Rattle.informer_cache.specs.All.{all_objects}
use Rattle.model_laws.proofs.Lists.{none_some}
use Rattle.sync_queue.specs.Work.{Work}
use Rattle.worker_core.specs.declared.task.Under.{Under}
use Rattle.worker_core.specs.declared.turn.Given.{Given}
use Rattle.worker_core.specs.declared.turn.Given.TheVariants as givens
use Rattle.worker_core.specs.declared.turn.Next.TheVariants.{Call}
use Rattle.worker_core.specs.Roles.{kinds_of}
use Rattle.worker_core.specs.States.{ActorState, call_in, start_call}
use Rattle.worker_core.specs.Turns.{AfterKeys, Decides, IsTurn, TurnBy, passing, unlisted}
use Rattle.actor_rounds.specs.Rounds.{IsReady, all_pass}
use Rattle.settle_slot.specs.Slot.Slots.{IsDecisionPoint, SeesStore, WillLast}
use Rattle.settle_slot.proofs.Slot.Slots.{decides_gives}
use Rattle.settle_due.specs.Begun.Begun.{begins_to_last}
use Rattle.settle_due.proofs.Begun.Passing.{begun_is_lasting}
use Rattle.settle_round_calls.proofs.Slots.Begun.{begun_on_own}
use Rattle.settle_round_calls.proofs.Slots.Calls.{AtKeys, InPass, Stage, pass_left}
use Rattle.settle_round_calls.proofs.Slots.RoundCosts.{key_calls, own_light}
use Rattle.settle_round_calls.proofs.Sure.Passes.{IsAtKeys, keys_of, pass_begins}
use Rattle.settle_round_calls.proofs.Sure.Lasting.{no_agent, sure_built}
use Rattle.settle_round_calls.proofs.Sure.Left.{HasWritten, IsFree, IsLess, Owing, WillWrite, kinds_owed, owed, sure_left}

-- a turn that gives a call costs nothing: it begins a task, or a pass
pub turn_costs : (setup : Setup) (seat high : ℕ) (s given : ActorState) (request : Request) (h : List Entry) → ImportsPass setup.imports
    → begins_to_last s.role.kind ≡ true → IsReady seat s h → IsHistory setup h
    → IsTurn s given (Call request) → (passing s ≡ None → SeesStore setup s h) → (stage : Stage setup seat s h) (owing : Owing setup seat s h)
    → IsLess setup seat high given h 0 (sure_left setup seat high s h stage owing)
turn_costs setup seat high s given request h imports sure ready history turn exact stage owing = by s.memory.stale s.under (start_call s.role s.memory) (unlisted s) (passing s) refl refl refl turn
  where
    same : (x : ActorState) → given ≡ x → IsLess setup seat high x h 0 (sure_left setup seat high s h stage owing) → IsLess setup seat high given h 0 (sure_left setup seat high s h stage owing)
    same x e less = subst (λ y. IsLess setup seat high y h 0 (sure_left setup seat high s h stage owing)) (sym e) less

    -- what is given changes nothing
    still : (g : Option Given) (x : Stage setup seat s h) (o : Owing setup seat s h) → IsLess setup seat high (record s { given = g }) h 0 (sure_left setup seat high s h x o)
    still g (InPass none behind) (IsFree free) = record { stage = InPass none behind; owing = IsFree free; less = omega arith }
    still g (InPass none behind) (WillWrite u there lasts) = record { stage = InPass none behind; owing = WillWrite u there lasts; less = omega arith }
    still g (InPass none behind) (HasWritten u there) = record { stage = InPass none behind; owing = HasWritten u there; less = omega arith }
    still g (AtKeys read over kinds low few) (IsFree free) = record { stage = AtKeys read over kinds low few; owing = IsFree free; less = omega arith }
    still g (AtKeys read over kinds low few) (WillWrite u there lasts) = record { stage = AtKeys read over kinds low few; owing = WillWrite u there lasts; less = omega arith }
    still g (AtKeys read over kinds low few) (HasWritten u there) = record { stage = AtKeys read over kinds low few; owing = HasWritten u there; less = omega arith }

    free : s.under ≡ None → (o : Owing setup seat s h) → owed setup seat s h o ≡ key_calls s.role.kind
    free none (IsFree free_) = refl
    free none (WillWrite u there lasts) = none_some (sym none ∙ there)
    free none (HasWritten u there) = none_some (sym none ∙ there)

    point : passing s ≡ None → IsDecisionPoint setup seat s.role h s h
    point over = record { role_is = refl; history = history; alike = record { rows = refl; stored = refl; mounts = refl }; ready = ready; sees = exact over }

    keys : (w : Work) (under : Option Under) → s.under ≡ None → IsAtKeys setup seat s h (kinds_owed setup seat s h stage)
        → Decides s.role s.memory (all_objects s.caches) w under s.work → passing s ≡ None → AfterKeys s given (Call request) w under
        → IsLess setup seat high given h 0 (sure_left setup seat high s h stage owing)
    keys w (Some u) eu at d over b =
        let gives = decides_gives s.role s.memory (all_objects s.caches) w (Some u) u s.work d refl in
        let lasts : WillLast setup all_pass seat s.role.kind h u = begun_is_lasting setup all_pass seat s.role h s h u imports sure (λ x g f v n p e begun leads alike. refl) (point over) gives in
        let begun = begun_on_own s.role.kind s.role.node s.memory (all_objects s.caches) u.key u.task gives.decided in
        let light = begun.light in
        let few = own_light s.role.kind (no_agent s.role.kind sure) begun.object in
        let was = free eu owing in
        let less = at.less in
        same (record s { work = w; under = Some u; given = Some givens.Task }) b.state
        (record { stage = AtKeys at.read at.over at.kinds at.low at.few; owing = WillWrite u refl lasts; less = omega (arith, light, few, was, less) })
    keys w None eu at d over (inl b) =
        let brought : pass_left s.role.kind s.pass ≡ (length (kinds_of s.role.kind) - s.pass.behind) + length (kinds_of s.role.kind) =
        ap (λ e. (length (kinds_of s.role.kind) - s.pass.behind) + (if e then length (kinds_of s.role.kind) else 0)) b.brought in
        let begins = pass_begins setup seat s h (kinds_owed setup seat s h stage) at in
        let was = free eu owing in
        same (record s { work = w; pass = record { behind = 0; event = false }; given = Some (givens.Read b.kind) }) b.state
        (record { stage = InPass eu (λ place kind from lt. absurd (omega (arith, lt))); owing = IsFree eu; less = omega (arith, brought, begins, was) })
    keys w None eu at d over (inr b) = none_some (sym (ap call_in b.idle))

    by : (stale : Bool) (u : Option Under) (start : Option Request) (l p : Option Kind) → s.under ≡ u → unlisted s ≡ l → passing s ≡ p
        → TurnBy s given (Call request) stale u start l p → IsLess setup seat high given h 0 (sure_left setup seat high s h stage owing)
    by true u start l p eu el ep t = none_some (sym (ap call_in t.idle))
    by false (Some u) start l p eu el ep t = same (record s { given = Some givens.Task }) t.state (still (Some givens.Task) stage owing)
    by false None (Some r) l p eu el ep t = same (record s { given = Some givens.Start }) t.state (still (Some givens.Start) stage owing)
    by false None None (Some k) p eu el ep t = same (record s { given = Some (givens.Read k) }) t.state (still (Some (givens.Read k)) stage owing)
    by false None None None (Some k) eu el ep t = same (record s { given = Some (givens.Read k) }) t.state (still (Some (givens.Read k)) stage owing)
    by false None None None None eu el ep t = keys t.work t.under eu (keys_of setup seat s h ready (sure_built s.role.kind sure) history el ep stage) t.decides ep t.then_
