-- What the keys that wait in a scheduler come to in writes: what it does to the queue, to the caches and to the store never raises it.
use Rattle.std.proofs.Common.{◌≡◌, ◌≢◌, ◌∙◌, ◌⊎◌, ℕ, ◌+◌, ◌≤◌, List, [], ◌∷◌, length, Bool, true, false, true≢false, Option, Some, None, inl, inr, refl, sym, ap, subst, arith, if◌then◌else◌}
use Rattle.std.specs.Prelude.{◌<◌, map, not, ⊤}
use Rattle.kube_objects.specs.declared.key.Key.{Key}
use Rattle.kube_parts.specs.declared.parts.Kind.{Kind}
use Rattle.kube_parts.specs.declared.parts.Kind.TheVariants as kinds
use Rattle.kube_objects.specs.declared.objects.Claim.{Claim as ClaimData}
use Rattle.kube_objects.specs.declared.objects.Volume.{Volume as VolumeData}
use Rattle.kube_objects.specs.declared.objects.Object.{Object}
use Rattle.kube_objects.specs.declared.objects.Object.TheVariants.{Class, Node, Volume, Claim, Pod}
use Rattle.kube_objects.specs.Bindings.{is_empty}
use Rattle.kube_objects.specs.Keys.{AreRows, key_of, put_row, row_at, without_row}
use Rattle.kube_objects.proofs.KeyOrder.{row_at-put_row, row_at-put_row_other, row_at-without_row, row_at-without_row_other}
use Rattle.kube_objects.proofs.SameKeys.{key_tells}
use Rattle.call_types.specs.declared.entry.Entry.{Entry}
use Rattle.call_types.specs.declared.reply.Event.{Event}
use Rattle.call_types.specs.declared.reply.Reply.{Reply}
use Rattle.call_types.specs.declared.reply.Reply.TheVariants as replies
use Rattle.call_types.specs.declared.request.Request.{Request}
use Rattle.call_types.specs.declared.request.Request.TheVariants as requests
use Rattle.call_types.specs.declared.request.SeatKind.TheVariants as seats
use Rattle.call_types.specs.declared.setup.Setup.{Setup}
use Rattle.binder_model.specs.Answers.{Removes, Says, Stores, after, reply_of}
use Rattle.binder_model.specs.Licence.{RowAllows}
use Rattle.binder_model.specs.Reading.{follows}
use Rattle.binder_model.specs.Store.{at_version, updated_object, with_meta, with_status_of}
use Rattle.binder_model.specs.World.{Effect, OnDevices, OnStore, SetsMoment, World, reply_to, world, world_after}
use Rattle.informer_cache.specs.All.{all_objects}
use Rattle.model_laws.proofs.Lists.{IsIn, none_some}
use Rattle.safety_law.specs.Invariant.Moves.{written_by}
use Rattle.safety_law.specs.Invariant.Writes.{Writes}
use Rattle.sync_queue.specs.Work.{AreOnce, Work, begun, oldest_of}
use Rattle.settle_measure.specs.Left.Measure.{total}
use Rattle.settle_calls.specs.Tasks.Costs.{keys_cost, work_cost}
use Rattle.settle_calls.proofs.Tasks.Starts.{is_done}
use Rattle.settle_calls.proofs.Tasks.Works.{begun_cost, finished_cost, keys_less}
use Rattle.worker_core.specs.declared.role.Role.{Role}
use Rattle.worker_core.specs.declared.task.First.{First}
use Rattle.worker_core.specs.declared.task.First.TheVariants as firsts
use Rattle.worker_core.specs.declared.task.Under.{Under}
use Rattle.worker_core.specs.declared.turn.Given.TheVariants as givens
use Rattle.worker_core.specs.declared.turn.Next.TheVariants.{Call}
use Rattle.worker_core.specs.Memories.{Memory}
use Rattle.worker_core.specs.States.{ActorState, call_in, start_call}
use Rattle.worker_core.specs.Tasks.{GivesNone, IsFirstOf}
use Rattle.worker_core.specs.Turns.{AfterKeys, Begins, Decides, Drops, IsTurn, Nothing, TurnBy, dropped, passing, unlisted}
use Rattle.settle_calls.proofs.Events.Calls.{Wrote}
use Rattle.settle_calls.proofs.Events.Rows.{distinct_keys, weigh_at, weigh_if}
use Rattle.settle_slot.specs.Slot.Slots.{SeesStore}
use Rattle.settle_write_counts.specs.Scheduler.Pods.{pod_writes}
use Rattle.settle_write_counts.proofs.Scheduler.Begun.{begins_few, key_writes, under_writes, writes_if}

-- ---- the queue

-- the keys of events that cost nothing
pub told_free : (f : Key → ℕ) (es : List Event) → ((y : Event) → IsIn y es → f (key_of y.object) ≤ 0) → keys_cost f (map (λ (y : Event). key_of y.object) es) ≤ 0
told_free f [] each = omega arith
told_free f (y ∷ ys) each = let a = each y (inl refl) in let b = told_free f ys (λ z i. each z (inr i)) in omega (arith, a, b)

-- keys that differ cost no more than all objects
pub distinct_few : (ks : List Key) (rows : List Object) → AreRows rows → AreOnce ks → keys_cost (key_writes rows) ks ≤ total pod_writes rows
distinct_few ks rows order once =
    let few = distinct_keys pod_writes ks rows order once in
    let less = keys_less (weigh_at pod_writes rows) (key_writes rows) ks (λ key. at (row_at key rows)) in
    omega (arith, few, less)
  where
    at : (x : Option Object) → writes_if x ≤ weigh_if pod_writes x
    at None = omega arith
    at (Some o) = omega arith

-- ---- a turn

-- what is still to be written: of what is under way, and of the keys that wait
abbrev pub ahead : World → ActorState → ℕ
ahead w s = under_writes s.under + work_cost (key_writes w.store.rows) s.work

pub follows_all : (kind : Kind) → follows seats.Scheduler kind ≡ true
follows_all kinds.StorageClass = refl
follows_all kinds.Node = refl
follows_all kinds.PersistentVolume = refl
follows_all kinds.PersistentVolumeClaim = refl
follows_all kinds.Pod = refl

module _ (role : Role) (memory : Memory) (rows stored : List Object) (kind : role.kind ≡ seats.Scheduler) (exact : (key : Key) → row_at key rows ≡ row_at key stored) where
  queues_none : {X : Type 0} (key other : Key) → GivesNone role memory rows key (firsts.Queues other) → X
  queues_none key other gives = absurd (subst (λ k. IsFirstOf k role.node memory rows key (firsts.Queues other)) kind gives.decided)

  dropped_few : (first : First) (key : Key) (w : Work) → oldest_of w.waiting ≡ Some key → GivesNone role memory rows key first
      → work_cost (key_writes stored) (dropped first key w) ≤ work_cost (key_writes stored) w
  dropped_few firsts.Drops key w old gives = let a = begun_cost (key_writes stored) key w old in let b = finished_cost (key_writes stored) key (begun w) in omega (arith, a, b)
  dropped_few (firsts.Begins task) key w old gives = let a = begun_cost (key_writes stored) key w old in let b = finished_cost (key_writes stored) key (begun w) in omega (arith, a, b)
  dropped_few (firsts.Queues other) key w old gives = queues_none key other gives

  decided_few : (after_ : Work) (under : Option Under) (w : Work) → Decides role memory rows after_ under w
      → under_writes under + work_cost (key_writes stored) after_ ≤ work_cost (key_writes stored) w
  decided_few after_ under w (Nothing empty same none) = let a = ap (work_cost (key_writes stored)) same in let b = ap under_writes none in omega (arith, a, b)
  decided_few after_ under w (Begins u old gives same some) =
      let few = begins_few role memory rows u kind gives in
      let own_ : key_writes rows u.key ≡ key_writes stored u.key = ap writes_if (exact u.key) in
      let a = begun_cost (key_writes stored) u.key w old in
      let c = ap (work_cost (key_writes stored)) same in
      let d = ap under_writes some in
      omega (arith, few, own_, a, c, d)
  decided_few after_ under w (Drops key first old none rest) =
      let a = dropped_few first key w old none in
      let b = decided_few after_ under _ rest in
      omega (arith, a, b)

-- a turn that gives a call leaves it as it is
pub turned_few : (setup : Setup) (s given : ActorState) (request : Request) (h : List Entry) → s.role.kind ≡ seats.Scheduler
    → IsTurn s given (Call request) → (passing s ≡ None → SeesStore setup s h) → ahead (world setup h) given ≤ ahead (world setup h) s
turned_few setup s given request h kind turn exact = by s.memory.stale s.under (start_call s.role s.memory) (unlisted s) (passing s) refl refl turn
  where
    w : World
    w = world setup h

    same : (x : ActorState) → given ≡ x → ahead (world setup h) x ≤ ahead (world setup h) s → ahead (world setup h) given ≤ ahead (world setup h) s
    same x e le = subst (λ y. ahead (world setup h) y ≤ ahead (world setup h) s) (sym e) le

    shown : passing s ≡ None → (key : Key) → row_at key (all_objects s.caches) ≡ row_at key (world setup h).store.rows
    shown over key = exact over key (ap (λ k. follows k key.kind) kind ∙ follows_all key.kind)

    keys : (x : Work) (under : Option Under) → s.under ≡ None → passing s ≡ None → Decides s.role s.memory (all_objects s.caches) x under s.work
        → AfterKeys s given (Call request) x under → ahead (world setup h) given ≤ ahead (world setup h) s
    keys x (Some u) eu ep d b =
        let c = decided_few s.role s.memory (all_objects s.caches) (world setup h).store.rows kind (shown ep) x (Some u) s.work d in
        let z = ap under_writes eu in
        same (record s { work = x; under = Some u; given = Some givens.Task }) b.state (omega (arith, c, z))
    keys x None eu ep d (inl b) =
        let c = decided_few s.role s.memory (all_objects s.caches) (world setup h).store.rows kind (shown ep) x None s.work d in
        same (record s { work = x; pass = record { behind = 0; event = false }; given = Some (givens.Read b.kind) }) b.state (omega (arith, c))
    keys x None eu ep d (inr b) = none_some (sym (ap call_in b.idle))

    by : (stale : Bool) (u : Option Under) (start : Option Request) (l p : Option Kind) → s.under ≡ u → passing s ≡ p
        → TurnBy s given (Call request) stale u start l p → ahead (world setup h) given ≤ ahead (world setup h) s
    by true u start l p eu ep t = none_some (sym (ap call_in t.idle))
    by false (Some u) start l p eu ep t = same (record s { given = Some givens.Task }) t.state (omega arith)
    by false None (Some r) l p eu ep t = same (record s { given = Some givens.Start }) t.state (omega arith)
    by false None None (Some k) p eu ep t = same (record s { given = Some (givens.Read k) }) t.state (omega arith)
    by false None None None (Some k) eu ep t = same (record s { given = Some (givens.Read k) }) t.state (omega arith)
    by false None None None None eu ep t = keys t.work t.under eu ep t.decides t.then_

-- ---- a write of a scheduler leaves no pod to be written there

abbrev object_in : Object → Reply → Object
object_in none (replies.Done o) = o
object_in none reply = none

pub done_written : (w : World) (o : Object) (x : Effect) → (world_after w x).store.version ≡ w.store.version + 1 → reply_to x ≡ replies.Done o → written_by x ≡ Some o
unfolding world_after after reply_to reply_of
done_written w o (OnStore (Says reply)) more done = absurd (omega (arith, more))
done_written w o (OnStore (Stores change p)) more done = ap (λ r. Some (object_in o r)) done
done_written w o (OnStore (Removes p)) more done = absurd (true≢false (sym (ap is_done done)))
done_written w o (OnDevices a) more done = absurd (omega (arith, more))
done_written w o (SetsMoment at) more done = absurd (omega (arith, more))

abbrev pub IsBound : Request → Type 0
IsBound (requests.BindPod key uid node) = is_empty node ≡ false
IsBound request = ⊤

updated_volume : (old : Object) (v : VolumeData) (n : ℕ) → pod_writes (updated_object old (Volume v) n) ≡ 0
unfolding updated_object with_meta with_status_of
updated_volume (Class x) v n = refl
updated_volume (Node x) v n = refl
updated_volume (Volume x) v n = refl
updated_volume (Claim x) v n = refl
updated_volume (Pod x) v n = refl

updated_claim : (old : Object) (c : ClaimData) (n : ℕ) → pod_writes (updated_object old (Claim c) n) ≡ 0
unfolding updated_object with_meta with_status_of
updated_claim (Class x) c n = refl
updated_claim (Node x) c n = refl
updated_claim (Volume x) c n = refl
updated_claim (Claim x) c n = refl
updated_claim (Pod x) c n = refl

pub scheduled_none : (w : World) (mine : List Entry) (request : Request) (o : Object) → IsBound request → RowAllows seats.Scheduler mine request → Writes w seats.Scheduler request o → pod_writes o ≡ 0
unfolding at_version with_meta
scheduled_none w mine (requests.Update (Volume new) given) o bound may i = ap pod_writes i.is ∙ updated_volume i.old new (w.store.version + 1)
scheduled_none w mine (requests.Update (Claim new) given) o bound may i = ap pod_writes i.is ∙ updated_claim i.old new (w.store.version + 1)
scheduled_none w mine (requests.Update (Class x) given) o bound may i = absurd may
scheduled_none w mine (requests.Update (Node x) given) o bound may i = absurd may
scheduled_none w mine (requests.Update (Pod x) given) o bound may i = absurd may
scheduled_none w mine (requests.BindPod key uid node) o bound may i = ap pod_writes i.is ∙ ap (λ b. if not b then 0 else 1 + length i.pod.claims) bound
scheduled_none w mine (requests.Create x) o bound may i = absurd may
scheduled_none w mine (requests.UpdateStatus key status given) o bound may i = absurd may
scheduled_none w mine (requests.Edit key change) o bound may i = absurd may
scheduled_none w mine (requests.Delete key given) o bound may i = absurd may
scheduled_none w mine (requests.FinishPod key uid node epoch) o bound may i = absurd may
scheduled_none w mine _ o bound may i = absurd i

-- where it was written nothing more is to be written, and elsewhere no more than before
module _ (old new : World) (reply : Reply) (wrote : Wrote old new reply) (order : AreRows old.store.rows) (none : (o : Object) → reply ≡ replies.Done o → pod_writes o ≡ 0) where
  pub own_none : key_writes new.store.rows (key_of wrote.event.object) ≡ 0
  own_none = by wrote.rows
    where
      by : ((reply ≡ replies.Done wrote.event.object) × (new.store.rows ≡ put_row wrote.event.object old.store.rows))
          ⊎ ((reply ≡ replies.Left wrote.event.object) × (new.store.rows ≡ without_row (key_of wrote.event.object) old.store.rows))
          → key_writes new.store.rows (key_of wrote.event.object) ≡ 0
      by (inl put) = ap (λ rows. writes_if (row_at (key_of wrote.event.object) rows)) put.1 ∙ (ap writes_if (row_at-put_row wrote.event.object old.store.rows) ∙ none wrote.event.object put.0)
      by (inr gone) = ap (λ rows. writes_if (row_at (key_of wrote.event.object) rows)) gone.1 ∙ ap writes_if (row_at-without_row (key_of wrote.event.object) old.store.rows order)

  pub other_same : (key : Key) → key ≢ key_of wrote.event.object → key_writes new.store.rows key ≡ key_writes old.store.rows key
  other_same key other = ap writes_if (by wrote.rows)
    where
      by : ((reply ≡ replies.Done wrote.event.object) × (new.store.rows ≡ put_row wrote.event.object old.store.rows))
          ⊎ ((reply ≡ replies.Left wrote.event.object) × (new.store.rows ≡ without_row (key_of wrote.event.object) old.store.rows))
          → row_at key new.store.rows ≡ row_at key old.store.rows
      by (inl put) = ap (row_at key) put.1 ∙ row_at-put_row_other key wrote.event.object old.store.rows (λ s. other (sym s))
      by (inr gone) = ap (row_at key) gone.1 ∙ row_at-without_row_other (key_of wrote.event.object) key old.store.rows (λ s. other (sym s))

  pub no_more : (key : Key) → key_writes new.store.rows key ≤ key_writes old.store.rows key
  no_more key = by (key_tells key (key_of wrote.event.object))
    where
      by : (key ≡ key_of wrote.event.object) ⊎ (key ≢ key_of wrote.event.object) → key_writes new.store.rows key ≤ key_writes old.store.rows key
      by (inl same) = let z = ap (key_writes new.store.rows) same ∙ own_none in omega (arith, z)
      by (inr other) = let z = other_same key other in omega (arith, z)

  pub log_none : (base : ℕ) → ((x : Event) → IsIn x old.log → base < x.version → key_writes old.store.rows (key_of x.object) ≤ 0) → (x : Event)
      → IsIn x new.log → base < x.version → key_writes new.store.rows (key_of x.object) ≤ 0
  log_none base before x i lt = by (subst (IsIn x) wrote.log i)
    where
      by : IsIn x (wrote.event ∷ old.log) → key_writes new.store.rows (key_of x.object) ≤ 0
      by (inl is) = let z = ap (λ (y : Event). key_writes new.store.rows (key_of y.object)) (sym is) ∙ own_none in omega (arith, z)
      by (inr j) = let a = no_more (key_of x.object) in let b = before x j lt in omega (arith, a, b)
