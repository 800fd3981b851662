-- Past its first pass an actor that is run makes no more calls than its potential says: each turn leaves that as it is, and each call
-- lowers it.
use Rattle.std.proofs.Common.{◌≡◌, ◌∙◌, ℕ, ◌+◌, ◌-◌, ◌≤◌, List, [], ◌∷◌, Bool, true, false, Option, Some, None, inl, inr, refl, sym, ap, subst, arith, if◌then◌else◌}
use Rattle.std.specs.Prelude.{map}
use Rattle.kube_objects.specs.declared.key.Key.{Key}
use Rattle.kube_parts.specs.declared.parts.Kind.{Kind}
use Rattle.kube_objects.specs.declared.objects.Object.{Object}
use Rattle.kube_objects.specs.Keys.{key_of, kind_of, row_at}
use Rattle.kube_objects.proofs.KeyOrder.{row_at_key}
use Rattle.call_types.specs.declared.entry.Entry.{Entry}
use Rattle.call_types.specs.declared.request.Request.{Request}
use Rattle.call_types.specs.declared.setup.Setup.{Setup}
use Rattle.binder_model.specs.Reading.{follows}
use Rattle.binder_model.specs.World.{world}
use Rattle.informer_cache.specs.All.{all_objects}
use Rattle.model_laws.proofs.Lists.{none_some}
use Rattle.sync_queue.specs.Work.{AreOnce, Taken, Work, added, begun, oldest_of}
use Rattle.worker_core.specs.declared.role.Role.{Role}
use Rattle.worker_core.specs.declared.task.First.{First}
use Rattle.worker_core.specs.declared.task.First.TheVariants as firsts
use Rattle.worker_core.specs.declared.task.Under.{Under}
use Rattle.worker_core.specs.declared.turn.Given.TheVariants as givens
use Rattle.worker_core.specs.declared.turn.Next.TheVariants.{Call}
use Rattle.worker_core.specs.Memories.{Memory}
use Rattle.worker_core.specs.States.{ActorState, call_in, start_call}
use Rattle.worker_core.specs.Tasks.{GivesNone}
use Rattle.worker_core.specs.Turns.{AfterKeys, Begins, Decides, Drops, IsTurn, Nothing, TurnBy, dropped, passing, unlisted}
use Rattle.attention_law.specs.Queues.{taken_keys, under_keys}
use Rattle.attention_law.proofs.Queues.{added_taken, begun_taken, finished_taken}
use Rattle.settle_slot.specs.Slot.Slots.{SeesStore}
use Rattle.settle_calls.specs.Tasks.Costs.{calls_for, calls_if, key_cost, work_cost}
use Rattle.settle_calls.specs.Tasks.Tasks.{under_left}
use Rattle.settle_calls.proofs.Tasks.Begun.{begun_on, queued_on}
use Rattle.settle_calls.proofs.Tasks.Works.{added_cost, begun_cost, finished_cost}
use Rattle.settle_calls.specs.Events.Ahead.{pass_cost}
use Rattle.settle_calls.specs.Passes.Passes.{second_cost}

-- the turns

pub single_once : (k : Key) (w : Work) → taken_keys w ≡ k ∷ [] → AreOnce (map (λ (t : Taken). t.key) w.taken)
single_once k w e = subst AreOnce (sym e) (refl, tt)

-- no key is in work after a decision that begins nothing
module _ (role : Role) (memory : Memory) (rows : List Object) where
  pub dropped_none : (first : First) (key : Key) (w : Work) → oldest_of w.waiting ≡ Some key → taken_keys w ≡ [] → taken_keys (dropped first key w) ≡ []
  dropped_none firsts.Drops key w old none = finished_taken key (begun w) (begun_taken key w old none)
  dropped_none (firsts.Begins task) key w old none = finished_taken key (begun w) (begun_taken key w old none)
  dropped_none (firsts.Queues other) key w old none = finished_taken key (added other (begun w)) (added_taken other (begun w) ∙ begun_taken key w old none)

module _ (role : Role) (memory : Memory) (rows : List Object) (stored : List Object) (exact : (key : Key) → follows role.kind key.kind ≡ true → row_at key rows ≡ row_at key stored) where
  abbrev f : Key → ℕ
  f = key_cost role.kind stored

  -- the cost of a key whose decision rests on this row
  row_cost : (key : Key) (o : Object) → row_at key rows ≡ Some o → follows role.kind (kind_of o) ≡ true → key_cost role.kind stored key ≡ calls_for role.kind o
  row_cost key o there followed =
      let own : follows role.kind key.kind ≡ true = subst (λ (k : Key). follows role.kind k.kind ≡ true) (row_at_key key o rows there) followed in
      ap (calls_if role.kind) (sym (exact key own) ∙ there)

  other_cost : (other : Key) (n : ℕ) → ((o : Object) → key_of o ≡ other → calls_for role.kind o ≤ n) → key_cost role.kind stored other ≤ n
  other_cost other n each = by (row_at other stored) refl
    where
      by : (x : Option Object) → row_at other stored ≡ x → calls_if role.kind x ≤ n
      by None e = omega arith
      by (Some o) e = each o (row_at_key other o stored e)

  dropped_cost : (first : First) (key : Key) (w : Work) → oldest_of w.waiting ≡ Some key → taken_keys w ≡ [] → GivesNone role memory rows key first
      → work_cost (key_cost role.kind stored) (dropped first key w) ≤ work_cost (key_cost role.kind stored) w
  dropped_cost firsts.Drops key w old none gives = let a = begun_cost (key_cost role.kind stored) key w old in let b = finished_cost (key_cost role.kind stored) key (begun w) in omega (arith, a, b)
  dropped_cost (firsts.Begins task) key w old none gives = let a = begun_cost (key_cost role.kind stored) key w old in let b =
      finished_cost (key_cost role.kind stored) key (begun w) in omega (arith, a, b)
  dropped_cost (firsts.Queues other) key w old none gives =
      let q = queued_on role memory rows key other gives.decided in
      let own = row_cost key q.object q.there q.followed in
      let more = other_cost other (calls_for role.kind q.object) q.heavy in
      let a = begun_cost (key_cost role.kind stored) key w old in
      let b = added_cost (key_cost role.kind stored) other (begun w) (single_once key (begun w) (begun_taken key w old none)) in
      let c = finished_cost (key_cost role.kind stored) key (added other (begun w)) in
      omega (arith, own, more, a, b, c)

  decided_cost : (after : Work) (under : Option Under) (w : Work) → Decides role memory rows after under w → taken_keys w ≡ []
      → under_left under + work_cost (key_cost role.kind stored) after ≤ work_cost (key_cost role.kind stored) w
  decided_cost after under w (Nothing empty same none) e = let a = ap (work_cost (key_cost role.kind stored)) same in let b = ap under_left none in omega (arith, a, b)
  decided_cost after under w (Begins u old gives same some) e =
      let b = begun_on role.kind role.node memory rows u.key u.task gives.decided in
      let own = row_cost u.key b.object b.there b.followed in
      let light = b.light in
      let a = begun_cost (key_cost role.kind stored) u.key w old in
      let c = ap (work_cost (key_cost role.kind stored)) same in
      let d = ap under_left some in
      omega (arith, own, light, a, c, d)
  decided_cost after under w (Drops key first old none rest) e =
      let a = dropped_cost first key w old e none in
      let b = decided_cost after under _ rest (dropped_none role memory rows first key w old e) in
      omega (arith, a, b)

-- a turn that gives a call leaves the rest as it is
pub turn_cost : (setup : Setup) (seat m high : ℕ) (s given : ActorState) (request : Request) (h : List Entry) → IsTurn s given (Call request)
    → (passing s ≡ None → SeesStore setup s h) → taken_keys s.work ≡ under_keys s.under
    → second_cost setup seat s.role.kind m high given h ≤ second_cost setup seat s.role.kind m high s h
turn_cost setup seat m high s given request h turn exact own_taken = by s.memory.stale s.under (start_call s.role s.memory) (unlisted s) (passing s) refl refl turn
  where
    cost : ActorState → ℕ
    cost x = second_cost setup seat s.role.kind m high x h

    same : (x : ActorState) → given ≡ x → cost x ≤ cost s → cost given ≤ cost s
    same x e le = subst (λ y. cost y ≤ cost s) (sym e) le

    keys : (w : Work) (under : Option Under) → s.under ≡ None → passing s ≡ None → Decides s.role s.memory (all_objects s.caches) w under s.work
        → AfterKeys s given (Call request) w under → cost given ≤ cost s
    keys w (Some u) eu ep d b =
        let none : taken_keys s.work ≡ [] = own_taken ∙ ap under_keys eu in
        let c = decided_cost s.role s.memory (all_objects s.caches) (world setup h).store.rows (exact ep) w (Some u) s.work d none in
        let z = ap under_left eu in
        same (record s { work = w; under = Some u; given = Some givens.Task }) b.state (omega (arith, c, z))
    keys w None eu ep d (inl b) =
        let none : taken_keys s.work ≡ [] = own_taken ∙ ap under_keys eu in
        let c = decided_cost s.role s.memory (all_objects s.caches) (world setup h).store.rows (exact ep) w None s.work d none in
        let brought : pass_cost s.pass ≡ (5 - s.pass.behind) + 5 = ap (λ e. (5 - s.pass.behind) + (if e then 5 else 0)) b.brought in
        same (record s { work = w; pass = record { behind = 0; event = false }; given = Some (givens.Read b.kind) }) b.state (omega (arith, c, brought))
    keys w None eu ep d (inr b) = none_some (sym (ap call_in b.idle))

    by : (stale : Bool) (u : Option Under) (start : Option Request) (l p : Option Kind) → s.under ≡ u → passing s ≡ p → TurnBy s given (Call request) stale u start l p → cost given ≤ cost s
    by true u start l p eu ep t = none_some (sym (ap call_in t.idle))
    by false (Some u) start l p eu ep t = same (record s { given = Some givens.Task }) t.state (omega arith)
    by false None (Some r) l p eu ep t = same (record s { given = Some givens.Start }) t.state (omega arith)
    by false None None (Some k) p eu ep t = same (record s { given = Some (givens.Read k) }) t.state (omega arith)
    by false None None None (Some k) eu ep t = same (record s { given = Some (givens.Read k) }) t.state (omega arith)
    by false None None None None eu ep t = keys t.work t.under eu ep t.decides t.then_
