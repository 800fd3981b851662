-- Each call that a turn of an actor gives, gives a volume only to a claim that it suits.
use Rattle.std.proofs.Common.{◌≡◌, ℕ, List, [], ◌∷◌, Bool, true, false, true≢false, Option, Some, None, inl, inr, refl, sym, ◌∙◌, ap, subst, if◌then◌else◌}
use Rattle.std.specs.Prelude.{◌==◌, option_map, ⊤}
use Rattle.kube_objects.specs.declared.key.Key.{Key}
use Rattle.kube_parts.specs.declared.parts.Kind.{Kind}
use Rattle.kube_objects.specs.Keys.{AreRows, row_at}
use Rattle.call_types.specs.declared.entry.Entry.{Entry}
use Rattle.call_types.specs.declared.setup.Setup.{Setup}
use Rattle.call_types.specs.declared.request.Request.{Request}
use Rattle.call_types.specs.declared.request.SeatKind.{SeatKind}
use Rattle.call_types.specs.declared.request.SeatKind.TheVariants as seats
use Rattle.binder_model.specs.Told.{own}
use Rattle.binder_model.specs.World.{IsHistory, effect, reply_to, world}
use Rattle.model_laws.proofs.Lists.{none_some, one}
use Rattle.binder_machines.specs.declared.machine.Machine.{Machine}
use Rattle.binder_machines.specs.Machines as binder
use Rattle.informer_cache.specs.declared.cache.NextRead.{NextRead}
use Rattle.informer_cache.specs.declared.cache.NextRead.TheVariants as asks
use Rattle.informer_cache.specs.Cache.{ask_of}
use Rattle.informer_cache.specs.All.{AllKnown, AllStandFor, all_objects, cache_of}
use Rattle.sync_queue.specs.Work.{Work}
use Rattle.worker_core.specs.declared.role.Role.{Role}
use Rattle.worker_core.specs.declared.task.First.TheVariants as firsts
use Rattle.worker_core.specs.declared.task.Task.{Task}
use Rattle.worker_core.specs.declared.task.Task.TheVariants as tasks
use Rattle.worker_core.specs.declared.task.Under.{Under}
use Rattle.worker_core.specs.declared.turn.Given.{Given}
use Rattle.worker_core.specs.declared.turn.Given.TheVariants as givens
use Rattle.worker_core.specs.declared.turn.Next.TheVariants as nexts
use Rattle.worker_core.specs.Memories.{Memory, memory_of}
use Rattle.worker_core.specs.Stands.{AnyIsUnderWay, AreOwn, Begun, IsUnderWay, StandsFor, WentOn}
use Rattle.worker_core.specs.States.{ActorState, asked, call_in, call_under, given_call, read_of_kind, read_request, start_call, start_of}
use Rattle.worker_core.specs.Steps.Evidence.{TaskKeeps, task_kind}
use Rattle.worker_core.specs.Tasks.{IsDecision, IsFirstOf, task_call, task_moved, under_after, with_call, with_task}
use Rattle.worker_core.specs.Turns.{AfterKeys, IsTurn, TurnBy, passing, unlisted}
use Rattle.worker_core.proofs.Machines.{KeepsUnder, keeps_under}
use Rattle.worker_core.proofs.Owning.{Stood, stood, stood_before}
use Rattle.node_agent.specs.Agents.{agent_moved}
use Rattle.pod_scheduler.specs.Schedules.{schedule_moved}
use Rattle.protect_sync.specs.ClaimGuards.{claim_moved}
use Rattle.protect_sync.specs.VolumeGuards.{volume_moved}
use Rattle.reclaim_ops.specs.Erasures.{erase_moved}
use Rattle.reclaim_ops.specs.Provisions.{provision_moved}
use Rattle.size_law.specs.Law.Fitting.{GivesFitting, GivesSo}
use Rattle.size_law.proofs.Law.Law.{runs_get_enough}
use Rattle.size_law.specs.Calls.Calls.{CallsGiveFitting, AskedGiveFitting, IsByActor, ActorsAreFitting, ActorsGiveEnough}
use Rattle.size_law.proofs.Calls.Decided.{MachineSuits, begun_suits}
use Rattle.size_law.proofs.Calls.Asked.{call_gives}
use Rattle.size_law.proofs.Calls.Answered.{IsAnswered, goes_on_suits}
use Rattle.size_law.proofs.Calls.Scheduled.{AllGive, begun_gives, moved_gives, schedule_gives}

-- a seat's newest entry, in its history

abbrev first_or : Entry → List Entry → Entry
first_or e [] = e
first_or e (x ∷ xs) = x

abbrev after_first : List Entry → List Entry
after_first [] = []
after_first (x ∷ xs) = xs

abbrev is_filled : List Entry → Bool
is_filled [] = false
is_filled (x ∷ xs) = true

own_split : (setup : Setup) (past : List Entry) (seat : ℕ) (e : Entry) (before : List Entry) → IsHistory setup past → own seat past ≡ e ∷ before → IsAnswered e before
own_split setup [] seat e before h is = absurd (true≢false (sym (ap is_filled is)))
own_split setup (x ∷ past) seat e before h is = by (x.seat == seat) is (own_split setup past seat e before h.0)
  where
    by : (b : Bool) → (if b then x ∷ own seat past else own seat past) ≡ e ∷ before → (own seat past ≡ e ∷ before → IsAnswered e before) → IsAnswered e before
    by true is f =
        let same : x ≡ e = ap (first_or e) is in
        record {
          setup = setup;
          rest = past;
          seat = seat;
          history = h.0;
          is_own = sym (ap after_first is);
          reply = subst (λ (y : Entry). y.reply ≡ reply_to (effect setup (world setup past) y.kind y.request)) same h.1;
        }
    by false is f = f is

answered_of : (e : Entry) (before : List Entry) → AreOwn (e ∷ before) → IsAnswered e before
answered_of e before o = own_split o.setup o.past o.seat e before o.history (sym o.own)

-- what is under way suits

abbrev TaskSuits : Task → List Entry → Type 0
TaskSuits (tasks.Binder machine) mine = MachineSuits machine
TaskSuits (tasks.Schedule op) mine = AllGive mine op.writes
TaskSuits task mine = ⊤

task_begins : (role : Role) (mine : List Entry) (c : AllKnown) (key : Key) (t : Task) → task_kind t ≡ role.kind → AllStandFor c mine
    → AreRows (all_objects c) → IsDecision role (memory_of role mine) (all_objects c) key (firsts.Begins t) → TaskSuits t mine
task_begins role mine c key (tasks.ClaimProtect op) kind stand order first = tt
task_begins role mine c key (tasks.VolumeProtect op) kind stand order first = tt
task_begins role mine c key (tasks.Agent op) kind stand order first = tt
task_begins role mine c key (tasks.Provision op) kind stand order first = tt
task_begins role mine c key (tasks.Erase op) kind stand order first = tt
task_begins role mine c key (tasks.Binder m) kind stand order first =
    begun_suits (all_objects c) (row_at key (all_objects c)) m (subst (λ k. IsFirstOf k role.node (memory_of role mine) (all_objects c) key (firsts.Begins (tasks.Binder m))) (sym kind) first)
task_begins role mine c key (tasks.Schedule op) kind stand order first =
    begun_gives (all_objects c) mine stand.rows order (memory_of role mine).tries.refused (row_at key (all_objects c)) op
    (subst (λ k. IsFirstOf k role.node (memory_of role mine) (all_objects c) key (firsts.Begins (tasks.Schedule op))) (sym kind) first)

task_goes : (t next : Task) (e : Entry) (before : List Entry) → IsAnswered e before → TaskKeeps t before → TaskSuits t before
    → task_call t ≡ Some e.request → task_moved t e.reply ≡ Some next → TaskSuits next (e ∷ before)
task_goes (tasks.ClaimProtect op) next e before a kept suits call is = subst (λ t. TaskSuits t (e ∷ before)) (one (tasks.ClaimProtect (claim_moved op e.reply)) next is) tt
task_goes (tasks.VolumeProtect op) next e before a kept suits call is = subst (λ t. TaskSuits t (e ∷ before)) (one (tasks.VolumeProtect (volume_moved op e.reply)) next is) tt
task_goes (tasks.Agent op) next e before a kept suits call is = subst (λ t. TaskSuits t (e ∷ before)) (one (tasks.Agent (agent_moved op e.reply)) next is) tt
task_goes (tasks.Provision op) next e before a kept suits call is = subst (λ t. TaskSuits t (e ∷ before)) (one (tasks.Provision (provision_moved op e.reply)) next is) tt
task_goes (tasks.Erase op) next e before a kept suits call is = subst (λ t. TaskSuits t (e ∷ before)) (one (tasks.Erase (erase_moved op e.reply)) next is) tt
task_goes (tasks.Schedule op) next e before a kept suits call is =
    subst (λ t. TaskSuits t (e ∷ before)) (one (tasks.Schedule (schedule_moved op e.reply)) next is) (moved_gives op before e e.reply suits)
task_goes (tasks.Binder m) next e before a kept suits call is = by (binder.moved m e.reply) refl is
  where
    by : (x : Option Machine) → binder.moved m e.reply ≡ x → option_map (λ k. tasks.Binder k) x ≡ Some next → TaskSuits next (e ∷ before)
    by None at h = none_some h
    by (Some k) at h = subst (λ t. TaskSuits t (e ∷ before)) (one (tasks.Binder k) next h) (goes_on_suits m k e before a kept call at)

under_goes : (role : Role) (u next : Under) (e : Entry) (before : List Entry) → IsAnswered e before → KeepsUnder role u before
    → TaskSuits u.task before → e.request ≡ u.call → under_after u e.reply ≡ Some next → TaskSuits next.task (e ∷ before)
under_goes role u next e before a kept suits asked is = by_task (task_moved u.task e.reply) refl is
  where
    by_call : (t : Task) (c : Option Request) → TaskSuits t (e ∷ before) → with_call u.key t c ≡ Some next → TaskSuits next.task (e ∷ before)
    by_call t None goes h = none_some h
    by_call t (Some c) goes h = subst (λ (n : Under). TaskSuits n.task (e ∷ before)) (one _ next h) goes

    by_task : (x : Option Task) → task_moved u.task e.reply ≡ x → with_task u.key x ≡ Some next → TaskSuits next.task (e ∷ before)
    by_task None at h = none_some h
    by_task (Some t) at h = by_call t (task_call t) (task_goes u.task t e before a kept.keeps suits (kept.call ∙ ap (λ r. Some r) (sym asked)) at) h

under_suits : (role : Role) (u : Under) (mine : List Entry) → Stood role mine → IsUnderWay role u mine → TaskSuits u.task mine
under_suits role u mine o (Begun c stand order listed gives) =
    let k = keeps_under role u mine o (Begun c stand order listed gives) in
    task_begins role mine c u.key u.task k.of_kind stand order gives.decided
under_suits role u mine o (WentOn before e past split way told asked moves) =
    let a = answered_of e past (subst AreOwn split o.own) in
    let before_stood = stood_before role e past (subst (Stood role) split o) in
    subst (TaskSuits u.task) (sym split) (under_goes role before u e past a (keeps_under role before past before_stood way) (under_suits role before past before_stood way) asked moves)

-- the call that was given

-- what gives fittingly as a binder or scheduler does, does so as any kind
fitting_of : (kind : SeatKind) (mine : List Entry) (r : Request) → GivesSo mine r → GivesFitting kind mine r
fitting_of seats.Binder mine r gives = gives
fitting_of seats.Scheduler mine r gives = gives
fitting_of _ mine r gives = tt

task_gives : (t : Task) (mine : List Entry) (r : Request) → TaskKeeps t mine → TaskSuits t mine → task_call t ≡ Some r → GivesFitting (task_kind t) mine r
task_gives (tasks.Binder m) mine r kept suits call = call_gives m mine r kept suits call
task_gives (tasks.Schedule op) mine r kept suits call = schedule_gives op mine r suits call
task_gives (tasks.ClaimProtect op) mine r kept suits call = tt
task_gives (tasks.VolumeProtect op) mine r kept suits call = tt
task_gives (tasks.Agent op) mine r kept suits call = tt
task_gives (tasks.Provision op) mine r kept suits call = tt
task_gives (tasks.Erase op) mine r kept suits call = tt

under_gives : (role : Role) (under : Option Under) (mine : List Entry) (r : Request) → Stood role mine → AnyIsUnderWay role under mine
    → option_map call_under under ≡ Some r → GivesFitting role.kind mine r
under_gives role None mine r o way e = none_some e
under_gives role (Some u) mine r o way e =
    let k = keeps_under role u mine o way in
    subst (λ kind. GivesFitting kind mine r) k.of_kind (task_gives u.task mine r k.keeps (under_suits role u mine o way) (k.call ∙ e))

read_gives : (kind : Kind) (a : NextRead) (mine : List Entry) → GivesSo mine (read_request kind a)
read_gives kind asks.List mine = tt
read_gives kind (asks.Watch from) mine = tt

-- of the calls of a start none is a binder's or a scheduler's
start_gives : (kind : SeatKind) (node : List ℕ) (m : Memory) (mine : List Entry) (r : Request) → start_of kind node m ≡ Some r → GivesFitting kind mine r
start_gives seats.Binder node m mine r e = none_some e
start_gives seats.Scheduler node m mine r e = none_some e
start_gives _ node m mine r e = tt

pub asked_gives : (s : ActorState) (mine : List Entry) (r : Request) → StandsFor s mine → asked s ≡ Some r → GivesFitting s.role.kind mine r
asked_gives s mine r stands = by s.given
  where
    by : (g : Option Given) → given_call s g ≡ Some r → GivesFitting s.role.kind mine r
    by None e = none_some e
    by (Some givens.Task) e = under_gives s.role s.under mine r (stood s mine stands) stands.under_way e
    by (Some givens.Start) e = start_gives s.role.kind s.role.node s.memory mine r e
    by (Some (givens.Read kind)) e = fitting_of s.role.kind mine r (subst (λ q. GivesSo mine q) (one _ r e) (read_gives kind (ask_of (cache_of kind s.caches)) mine))

-- a turn

-- what a turn gives is what is asked then, by an actor of the same role
pub record Asks (s given : ActorState) (r : Request) : Type 0 where
  pub role : given.role ≡ s.role
  pub asked : asked given ≡ Some r

called : {G : Type 0} (r : Request) → nexts.Call r ≡ nexts.Idle → G
called r e = none_some (sym (ap call_in e))

call_back : (r q : Request) → nexts.Call r ≡ nexts.Call q → Some q ≡ Some r
call_back r q e = sym (ap call_in e)

pub turn_asks : (s given : ActorState) (r : Request) → IsTurn s given (nexts.Call r) → Asks s given r
turn_asks s given r = by s.memory.stale s.under (start_call s.role s.memory) (unlisted s) (passing s) refl refl
  where
    keys : (w : Work) (under : Option Under) → AfterKeys s given (nexts.Call r) w under → Asks s given r
    keys w (Some u) b = subst (λ x. Asks s x r) (sym b.state) (record { role = refl; asked = call_back r u.call b.call })
    keys w None (inl b) = subst (λ x. Asks s x r) (sym b.state) (record { role = refl; asked = call_back r (read_of_kind s.caches b.kind) b.call })
    keys w None (inr b) = called r b.idle

    by : (stale : Bool) (u : Option Under) (start : Option Request) (l p : Option Kind) → s.under ≡ u → start_call s.role s.memory ≡ start
        → TurnBy s given (nexts.Call r) stale u start l p → Asks s given r
    by true u start l p eu es t = called r t.idle
    by false (Some u) start l p eu es t = subst (λ x. Asks s x r) (sym t.state) (record { role = refl; asked = ap (option_map call_under) eu ∙ call_back r u.call t.call })
    by false None (Some request) l p eu es t = subst (λ x. Asks s x r) (sym t.state) (record { role = refl; asked = es ∙ call_back r request t.call })
    by false None None (Some kind) p eu es t = subst (λ x. Asks s x r) (sym t.state) (record { role = refl; asked = call_back r (read_of_kind s.caches kind) t.call })
    by false None None None (Some kind) eu es t = subst (λ x. Asks s x r) (sym t.state) (record { role = refl; asked = call_back r (read_of_kind s.caches kind) t.call })
    by false None None None None eu es t = keys t.work t.under t.then_

pub calls_give_fitting : CallsGiveFitting
calls_give_fitting s given mine request stands turn =
    let a = turn_asks s given request turn in
    subst (λ (role : Role). GivesFitting role.kind mine request) a.role (asked_gives given mine request stands a.asked)

pub asked_give_fitting : AskedGiveFitting
asked_give_fitting kind mine request a = subst (λ k. GivesFitting k mine request) a.of_kind (asked_gives a.actor mine request a.stands a.asks)

-- a history of actors

by_actor : (kind : SeatKind) (mine : List Entry) (r : Request) → IsByActor kind mine r → GivesFitting kind mine r
by_actor seats.Binder mine r by = asked_give_fitting seats.Binder mine r by
by_actor seats.Scheduler mine r by = asked_give_fitting seats.Scheduler mine r by
by_actor _ mine r by = tt

pub actors_are_fitting : ActorsAreFitting
actors_are_fitting [] all = tt
actors_are_fitting (e ∷ past) all = (actors_are_fitting past all.0, by_actor e.kind (own e.seat past) e.request all.1)

pub actors_give_enough : ActorsGiveEnough
actors_give_enough setup past run all = runs_get_enough setup past run (actors_are_fitting past all)
