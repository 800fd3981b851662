-- A drain selects no node where no class that stood both binds late and provisions.
use Rattle.std.proofs.Common.{◌≡◌, ◌∙◌, ℕ, ◌-◌, List, [], ◌∷◌, ◌++◌, append_assoc, Bool, true, false, true≢false, Option, Some, None, inl, inr, refl, sym, ap, subst, arith, if◌then◌else◌}
use Rattle.std.specs.Prelude.{option_map, slice_get, ⊤}
use Rattle.kube_parts.specs.declared.parts.Kind.{Kind}
use Rattle.kube_objects.specs.declared.objects.Class.{Class as ClassData}
use Rattle.kube_objects.specs.declared.objects.Object.{Object}
use Rattle.kube_objects.specs.declared.objects.Object.TheVariants.{Class}
use Rattle.kube_objects.specs.Keys.{row_at}
use Rattle.call_types.specs.declared.entry.Entry.{Entry}
use Rattle.call_types.specs.declared.reply.Reply.{Reply}
use Rattle.call_types.specs.declared.request.Request.{Request}
use Rattle.call_types.specs.declared.request.SeatKind.{SeatKind}
use Rattle.call_types.specs.declared.request.SeatKind.TheVariants as seats
use Rattle.call_types.specs.declared.setup.Setup.{Setup}
use Rattle.binder_model.specs.Promises.{IsRunOf}
use Rattle.binder_model.specs.Provisioning.{provisions}
use Rattle.binder_model.specs.Told.{ToldObject, own}
use Rattle.informer_cache.specs.declared.cache.NextRead.{NextRead}
use Rattle.informer_cache.specs.declared.cache.NextRead.TheVariants as asks
use Rattle.informer_cache.specs.All.{all_objects, cache_of}
use Rattle.informer_cache.specs.Cache.{ask_of}
use Rattle.model_laws.specs.Stood.{Stood}
use Rattle.model_laws.proofs.Growing.{runs_are_histories}
use Rattle.model_laws.proofs.Lists.{none_some, one}
use Rattle.model_laws.proofs.Newest.{newest_told}
use Rattle.model_laws.proofs.Truths.{told_is_true}
use Rattle.pod_scheduler.specs.declared.schedule.ScheduleOp.{ScheduleOp}
use Rattle.pod_scheduler.specs.declared.schedule.ScheduleStep.{ScheduleStep}
use Rattle.pod_scheduler.specs.declared.schedule.ScheduleStep.TheVariants as steps
use Rattle.pod_scheduler.specs.Schedules.{is_write, only_write, schedule_call, schedule_call_at, schedule_moved}
use Rattle.worker_core.specs.declared.role.Role.{Role}
use Rattle.worker_core.specs.declared.task.First.TheVariants as firsts
use Rattle.worker_core.specs.declared.task.Task.{Task}
use Rattle.worker_core.specs.declared.task.Task.TheVariants as tasks
use Rattle.worker_core.specs.declared.task.Under.{Under}
use Rattle.worker_core.specs.declared.turn.Given.{Given}
use Rattle.worker_core.specs.declared.turn.Given.TheVariants as givens
use Rattle.worker_core.specs.declared.turn.Next.TheVariants.{Call}
use Rattle.worker_core.specs.declared.turn.Outcome.TheVariants.{Lost, Told}
use Rattle.worker_core.specs.Absorbs.{woken}
use Rattle.worker_core.specs.Memories.{Memory, memory_of}
use Rattle.worker_core.specs.Roles.{IsBuiltKind}
use Rattle.worker_core.specs.Stands.{AnyIsUnderWay, Begun, IsUnderWay, WentOn}
use Rattle.worker_core.specs.States.{ActorState, call_under, given_call, read_of_kind, read_request, start_of}
use Rattle.worker_core.specs.Steps.Evidence.{task_kind}
use Rattle.worker_core.specs.Tasks.{IsFirstOf, IsPodFirst, task_call, task_moved, under_after, with_call, with_task}
use Rattle.worker_core.proofs.Machines.{KeepsUnder, keeps_under}
use Rattle.worker_core.proofs.Owning.{stood}
use Rattle.actor_rounds.specs.declared.drainers.Drainer.{Drainer}
use Rattle.actor_rounds.specs.Drainers.{roles_of}
use Rattle.actor_rounds.specs.Rounds.{Asks, Drains, Ends, Goes, IsHeld, IsIdle, IsRound, IsSpent, Lets, NothingDue, Runs, Turns, told_entry}
use Rattle.actor_rounds.proofs.DrainFacts.{drains_grow}
use Rattle.actor_rounds.proofs.RoundFacts.{AreBuilt, round_grows, round_roles}
use Rattle.actor_rounds.proofs.RunFacts.{run_grows, still_role}
use Rattle.settle_progress.proofs.Epochs.Silent.{older_run}
use Rattle.settle_write_counts.proofs.Scheduler.Begun.{is_scheduler}
use Rattle.settle_write_counts.proofs.Rounds.Runs.{IsCalled, called_at, run_at}
use Rattle.settle_budget.specs.Drains.Rounds.{selected_in, selects_node}
use Rattle.settle_budget.specs.Drains.Selections.{NoneProvisionsLate}
use Rattle.settle_budget.proofs.Drains.Counting.{selected_both}
use Rattle.settle_budget.proofs.Drains.Writes.{NoneIsLate, SelectNone, begun_none, select_none_at}

-- ---- what a scheduler has under way

-- no class that was told both binds late and provisions
abbrev ToldNoneLate : List Entry → Type 0
ToldNoneLate mine = (x : ClassData) → ToldObject (λ o. o ≡ Class x) mine → x.delayed ≡ true → provisions x ≡ false

abbrev TaskNone : Task → Type 0
TaskNone (tasks.Schedule op) = SelectNone op.writes
TaskNone task = ⊤

first_none : (rows : List Object) (m : Memory) (row : Option Object) (task : Task) → NoneIsLate rows → IsPodFirst rows m.tries.refused row (firsts.Begins task) → TaskNone task
first_none rows m row (tasks.Schedule op) late begins = begun_none rows late m.tries.refused row op begins
first_none rows m row (tasks.Binder machine) late begins = tt
first_none rows m row (tasks.ClaimProtect op) late begins = tt
first_none rows m row (tasks.VolumeProtect op) late begins = tt
first_none rows m row (tasks.Agent op) late begins = tt
first_none rows m row (tasks.Provision op) late begins = tt
first_none rows m row (tasks.Erase op) late begins = tt

-- an answer leaves the writes

mapped_none : {X : Type 0} (f : X → Task) (next : Task) → ((x : X) → TaskNone (f x)) → (o : Option X) → option_map f o ≡ Some next → TaskNone next
mapped_none f next each None e = none_some e
mapped_none f next each (Some x) e = subst TaskNone (one (f x) next e) (each x)

moved_none : (task next : Task) (reply : Reply) → TaskNone task → task_moved task reply ≡ Some next → TaskNone next
unfolding schedule_moved
moved_none (tasks.Schedule op) next reply none e = subst TaskNone (one _ next e) none
moved_none (tasks.Binder machine) next reply none e = mapped_none (λ m. tasks.Binder m) next (λ m. tt) _ e
moved_none (tasks.ClaimProtect op) next reply none e = subst TaskNone (one _ next e) tt
moved_none (tasks.VolumeProtect op) next reply none e = subst TaskNone (one _ next e) tt
moved_none (tasks.Agent op) next reply none e = subst TaskNone (one _ next e) tt
moved_none (tasks.Provision op) next reply none e = subst TaskNone (one _ next e) tt
moved_none (tasks.Erase op) next reply none e = subst TaskNone (one _ next e) tt

went_none : (u next : Under) (reply : Reply) → TaskNone u.task → under_after u reply ≡ Some next → TaskNone next.task
went_none u next reply none e = by_task (task_moved u.task reply) refl e
  where
    by_call : (t : Task) (c : Option Request) → TaskNone t → with_call u.key t c ≡ Some next → TaskNone next.task
    by_call t None told h = none_some h
    by_call t (Some c) told h = subst (λ (n : Under). TaskNone n.task) (one _ next h) told

    by_task : (x : Option Task) → task_moved u.task reply ≡ x → with_task u.key x ≡ Some next → TaskNone next.task
    by_task None at h = none_some h
    by_task (Some t) at h = by_call t (task_call t) (moved_none u.task t reply none at) h

-- so from its beginning on
way_none : (role : Role) (u : Under) (mine : List Entry) → role.kind ≡ seats.Scheduler → IsUnderWay role u mine → ToldNoneLate mine → TaskNone u.task
way_none role u mine kind (Begun c stand order listed gives) late =
    first_none (all_objects c) (memory_of role mine) (row_at u.key (all_objects c)) u.task
    (λ key x there. late x (newest_told mine key (Class x) (sym (stand.rows key) ∙ there)))
    (subst (λ k. IsFirstOf k role.node (memory_of role mine) (all_objects c) u.key (firsts.Begins u.task)) kind gives.decided)
way_none role u mine kind (WentOn before e past split way told asked moves) late =
    went_none before u e.reply (way_none role before past kind way (λ x t. late x (subst (ToldObject (λ o. o ≡ Class x)) (sym split) (inr t)))) moves

-- ---- each call

-- the call of a machine is one of its writes
called_none : (op : ScheduleOp) (call : Request) → SelectNone op.writes → schedule_call op ≡ Some call → selects_node seats.Scheduler call ≡ 0
unfolding schedule_call
called_none op call none e = at_step op.step e
  where
    tested : (place : ℕ) (r : Request) (b : Bool) → slice_get op.writes place ≡ Some r → (if b then Some r else None) ≡ Some call → selects_node seats.Scheduler call ≡ 0
    tested place r true at found = select_none_at op.writes none place call (at ∙ found)
    tested place r false at found = none_some found

    written : (place : ℕ) (x : Option Request) → slice_get op.writes place ≡ x → only_write x ≡ Some call → selects_node seats.Scheduler call ≡ 0
    written place None at found = none_some found
    written place (Some r) at found = tested place r (is_write r) at found

    at_step : (step : ScheduleStep) → schedule_call_at op.writes step ≡ Some call → selects_node seats.Scheduler call ≡ 0
    at_step (steps.Writes place) found = written place (slice_get op.writes place) refl found
    at_step steps.Done found = none_some found
    at_step steps.Parked found = none_some found

task_none : (task : Task) (call : Request) → task_kind task ≡ seats.Scheduler → TaskNone task → task_call task ≡ Some call → selects_node seats.Scheduler call ≡ 0
task_none (tasks.Schedule op) call kind none e = called_none op call none e
task_none (tasks.Binder machine) call kind none e = absurd (true≢false (sym (ap is_scheduler kind)))
task_none (tasks.ClaimProtect op) call kind none e = absurd (true≢false (sym (ap is_scheduler kind)))
task_none (tasks.VolumeProtect op) call kind none e = absurd (true≢false (sym (ap is_scheduler kind)))
task_none (tasks.Agent op) call kind none e = absurd (true≢false (sym (ap is_scheduler kind)))
task_none (tasks.Provision op) call kind none e = absurd (true≢false (sym (ap is_scheduler kind)))
task_none (tasks.Erase op) call kind none e = absurd (true≢false (sym (ap is_scheduler kind)))

module _ (setup : Setup) (seat : ℕ) (x : ActorState) (request : Request) (reply : Reply) (h : List Entry) (called : IsCalled setup seat x request reply h) (late : NoneProvisionsLate setup h) where
  told_late : ToldNoneLate (own seat h)
  told_late class told = late class (told_is_true setup h seat (Class class) (runs_are_histories setup h (older_run setup (told_entry seat x request reply ∷ []) h called.run).run) told)

  read_none : (k : Kind) (a : NextRead) → selects_node seats.Scheduler (read_request k a) ≡ 0
  read_none k asks.List = refl
  read_none k (asks.Watch from) = refl

  call_none : x.role.kind ≡ seats.Scheduler → selects_node seats.Scheduler request ≡ 0
  call_none kind = by x.given refl
    where
      under : (u : Option Under) → AnyIsUnderWay x.role u (own seat h) → option_map call_under u ≡ Some request → selects_node seats.Scheduler request ≡ 0
      under None way c = none_some c
      under (Some u) way c =
          let kept : KeepsUnder x.role u (own seat h) = keeps_under x.role u (own seat h) (stood x (own seat h) called.stands) way in
          task_none u.task request (kept.of_kind ∙ kind) (way_none x.role u (own seat h) kind way told_late) (kept.call ∙ c)

      by : (g : Option Given) → x.given ≡ g → selects_node seats.Scheduler request ≡ 0
      by None e = none_some (ap (given_call x) (sym e) ∙ called.ask)
      by (Some givens.Start) e = none_some (ap (λ k. start_of k x.role.node x.memory) (sym kind) ∙ (ap (given_call x) (sym e) ∙ called.ask))
      by (Some givens.Task) e = under x.under called.stands.under_way (ap (given_call x) (sym e) ∙ called.ask)
      by (Some (givens.Read k)) e = subst (λ r. selects_node seats.Scheduler r ≡ 0) (one (read_of_kind x.caches k) request
          (ap (given_call x) (sym e) ∙ called.ask)) (read_none k (ask_of (cache_of k x.caches)))

  kind_none : (kind : SeatKind) → x.role.kind ≡ kind → selects_node kind request ≡ 0
  kind_none seats.Scheduler is = call_none is
  kind_none seats.User is = refl
  kind_none seats.Binder is = refl
  kind_none seats.Ops is = refl
  kind_none seats.ClaimProtect is = refl
  kind_none seats.VolumeProtect is = refl
  kind_none seats.Agent is = refl

-- ---- all of them

-- the entries that came since select no node
pub record HaveNone (h past : List Entry) : Type 0 where
  pub newer : List Entry
  pub are : past ≡ newer ++ h
  pub none : selected_in newer ≡ 0

no_more : (h past : List Entry) → past ≡ h → HaveNone h past
no_more h past same = record { newer = []; are = same; none = refl }

then_none : (h middle past : List Entry) → HaveNone h middle → HaveNone middle past → HaveNone h past
then_none h middle past first later = record {
  newer = later.newer ++ first.newer;
  are = later.are ∙ (ap (λ es. later.newer ++ es) first.are ∙ sym (append_assoc later.newer first.newer h));
  none = (let both = selected_both later.newer first.newer in let a = first.none in let b = later.none in omega (arith, both, a, b));
}

-- what stood before a history went on stood then
pub stood_still : (setup : Setup) (newer h : List Entry) (o : Object) → Stood setup h o → Stood setup (newer ++ h) o
stood_still setup [] h o stood_ = stood_
stood_still setup (e ∷ newer) h o stood_ = inl (stood_still setup newer h o stood_)

late_before : (setup : Setup) (newer h past : List Entry) → past ≡ newer ++ h → NoneProvisionsLate setup past → NoneProvisionsLate setup h
late_before setup newer h past are late class was = late class (subst (λ es. Stood setup es (Class class)) (sym are) (stood_still setup newer h (Class class) was))

module _ (setup : Setup) (lets : Lets) where
  run_none : (seat : ℕ) (after : ActorState) (past : List Entry) (left : ℕ) (idle : Bool) → IsRunOf setup past → NoneProvisionsLate setup past
      → (s : ActorState) (h : List Entry) (b : ℕ) → IsBuiltKind s.role.kind → Runs lets seat after past left idle s h b → HaveNone h past
  run_none seat after past left idle run late s h b built (IsSpent spent state entries rest busy) = no_more h past entries
  run_none seat after past left idle run late s h b built (IsIdle some ready turn entries rest calm) = no_more h past entries
  run_none seat after past left idle run late s h b built (Asks given next request reply some ready turn lets_it absorbs more) =
      let whole = run_at setup lets seat after past left idle run next (told_entry seat given request reply ∷ h) (b - 1) more in
      let called = called_at setup lets seat after past left idle run s given h request reply built ready turn whole in
      let g = run_grows lets seat after past left idle next (told_entry seat given request reply ∷ h) (b - 1) more in
      let before = late_before setup (told_entry seat given request reply ∷ []) h (told_entry seat given request reply ∷ h) refl
      (late_before setup g.longer.added (told_entry seat given request reply ∷ h) past g.longer.are late) in
      let now = kind_none setup seat given request reply h called before given.role.kind refl in
      then_none h (told_entry seat given request reply ∷ h) past (record { newer = told_entry seat given request reply ∷ []; are = refl; none = omega (arith, now) })
      (run_none seat after past left idle run late next (told_entry seat given request reply ∷ h) (b - 1)
      (subst (λ (r : Role). IsBuiltKind r.kind) (sym (still_role s given next (Call request) request (Told reply) turn absorbs)) built) more)
  run_none seat after past left idle run late s h b built (IsHeld given next request some ready turn held absorbs more) =
      run_none seat after past left idle run late next h (b - 1) (subst (λ (r : Role). IsBuiltKind r.kind) (sym (still_role s given next (Call request) request Lost turn absorbs)) built) more

  round_none : (past : List Entry) (left : ℕ) → IsRunOf setup past → NoneProvisionsLate setup past
      → (ds : List Drainer) (h : List Entry) (b : ℕ) (after : List Drainer) (whole : Bool) → IsRound lets past left ds h b after whole → AreBuilt (roles_of ds) → HaveNone h past
  round_none past left run late _ h b _ _ (Ends entries rest) built = no_more h past entries
  round_none past left run late _ h b _ _ (Turns {ds = ds} {after = after} {whole = whole} d ran middle rest idle seat runs more) built =
      let g = round_grows lets past left ds middle rest after whole more in
      let here : IsRunOf setup middle = older_run setup g.longer.added middle (subst (IsRunOf setup) g.longer.are run) in
      then_none h middle past (run_none d.seat ran.actor middle rest idle here (late_before setup g.longer.added middle past g.longer.are late)
      (woken d.actor) h b built.0 runs) (round_none past left run late ds middle rest after whole more built.1)

  pub drain_none : (after : List Drainer) (past : List Entry) (left : ℕ) → IsRunOf setup past → NoneProvisionsLate setup past
      → (ds : List Drainer) (h : List Entry) (b : ℕ) → AreBuilt (roles_of ds) → Drains lets setup after past left ds h b → HaveNone h past
  drain_none after past left run late ds h b built (NothingDue settled same entries rest) = no_more h past entries
  drain_none after past left run late ds h b built (IsSpent first due none same entries rest) = no_more h past entries
  drain_none after past left run late ds h b built (Goes first due some between middle rest whole round more) =
      let g = drains_grow lets setup after past left between middle rest more in
      let here : IsRunOf setup middle = older_run setup g.longer.added middle (subst (IsRunOf setup) g.longer.are run) in
      then_none h middle past (round_none middle rest here (late_before setup g.longer.added middle past g.longer.are late) ds h b between whole round built)
      (drain_none after past left run late between middle rest (subst AreBuilt (sym (round_roles lets middle rest ds h b between whole round)) built) more)
