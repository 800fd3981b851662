-- A call that is given, and its answer: what is known of the call of a task, of one of the start, and of a list or a watch.
use Rattle.std.proofs.Common.{◌≡◌, ◌∙◌, ℕ, ◌+◌, ◌≤◌, ◌<◌, List, ◌∷◌, Bool, true, false, true≢false, Option, Some, None, inl, inr, refl, sym, ap, subst, arith, if◌then◌else◌}
use Rattle.std.specs.Prelude.{option_map}
use Rattle.kube_parts.specs.declared.parts.Kind.{Kind}
use Rattle.kube_objects.specs.declared.objects.Object.{Object}
use Rattle.kube_objects.specs.declared.objects.Object.TheVariants.{Class, Node, Volume, Claim, Pod}
use Rattle.kube_objects.specs.Keys.{rows_of}
use Rattle.call_types.specs.declared.entry.Entry.{Entry}
use Rattle.call_types.specs.declared.reply.Refusal.TheVariants as refusals
use Rattle.call_types.specs.declared.reply.Reply.{Reply}
use Rattle.call_types.specs.declared.reply.Reply.TheVariants as replies
use Rattle.call_types.specs.declared.request.Request.{Request}
use Rattle.call_types.specs.declared.request.Request.TheVariants as requests
use Rattle.call_types.specs.declared.request.SeatKind.{SeatKind}
use Rattle.call_types.specs.declared.request.SeatKind.TheVariants as seats
use Rattle.call_types.specs.declared.setup.Setup.{Setup}
use Rattle.call_types.specs.Kinds.{reads_kind}
use Rattle.binder_model.specs.Answers.{list, outcome, reply_of}
use Rattle.binder_model.specs.Devices.{device_answer}
use Rattle.binder_model.specs.Reading.{Following, ListedAt, Unlisted, follows, following_of}
use Rattle.binder_model.specs.Told.{own}
use Rattle.binder_model.specs.Watching.{oldest, told_events}
use Rattle.binder_model.specs.World.{World, base, effect, on_devices, reply_to, world}
use Rattle.informer_cache.specs.Cache.{ask_from, watch_from}
use Rattle.model_laws.proofs.Lists.{IsIn, none_some, one}
use Rattle.node_agent.specs.Agents.{agent_call}
use Rattle.settle_slot.specs.Told.Exact.{reached_by}
use Rattle.settle_slot.proofs.Told.Allowed.{watches_on}
use Rattle.settle_slot.proofs.Told.Exact.{caught}
use Rattle.worker_core.specs.declared.task.Task.{Task}
use Rattle.worker_core.specs.declared.task.Task.TheVariants as tasks
use Rattle.worker_core.specs.declared.task.Under.{Under}
use Rattle.worker_core.specs.declared.turn.Given.{Given}
use Rattle.worker_core.specs.declared.turn.Given.TheVariants as givens
use Rattle.worker_core.specs.Memories.{Memory, memory_after}
use Rattle.worker_core.specs.declared.role.Role.{Role}
use Rattle.worker_core.specs.Roles.{kinds_of}
use Rattle.worker_core.specs.Stands.{AnyIsUnderWay, GivenStands}
use Rattle.worker_core.specs.States.{ActorState, asked, call_under, given_call, read_request, start_call}
use Rattle.worker_core.specs.Steps.Evidence.{task_kind}
use Rattle.worker_core.specs.Tasks.{task_call, under_after}
use Rattle.worker_core.specs.Turns.{passing}
use Rattle.worker_core.proofs.ByKind.{placed, start_reads_none}
use Rattle.worker_core.proofs.Machines.{KeepsUnder, keeps_under, task_reads_none}
use Rattle.worker_core.proofs.Owning.{stood}
use Rattle.actor_rounds.specs.Rounds.{told_entry}
use Rattle.settle_slot.proofs.Slot.Knowing.{watches_from}
use Rattle.settle_calls.specs.Tasks.Costs.{calls_for}
use Rattle.settle_calls.specs.Tasks.Tasks.{task_left, under_left}
use Rattle.settle_calls.proofs.Events.Calls.{IsGone, Stays, Tells, WatchSays, watch_says, world_moves}
use Rattle.settle_calls.proofs.Events.Points.{WritesLight}
use Rattle.settle_calls.proofs.Tasks.Starts.{agent_done, agent_takes_none, is_done, is_take, start_falls, start_less}
use Rattle.settle_calls.proofs.Tasks.Tasks.{under_goes}
use Rattle.settle_calls.specs.Events.Ahead.{from_of}
use Rattle.settle_calls.specs.Tasks.Ends.{done_by, start_left}
use Rattle.settle_calls.specs.Passes.Passes.{IsCallGiven}
pub use Rattle.settle_slot.proofs.Slot.Slots.{kind_in as in_place}

-- what was given is a task's call, a call of the start, or a read

pub data GivenSo (x : ActorState) : Type 0 where
  GivesTask : x.given ≡ Some givens.Task → GivenSo x
  GivesStart : x.given ≡ Some givens.Start → GivenSo x
  GivesRead : (kind : Kind) → x.given ≡ Some (givens.Read kind) → GivenSo x

pub given_so : (x : ActorState) (request : Request) → asked x ≡ Some request → GivenSo x
given_so x request ask = by x.given refl
  where
    by : (g : Option Given) → x.given ≡ g → GivenSo x
    by None e = none_some (ap (given_call x) (sym e) ∙ ask)
    by (Some givens.Task) e = GivesTask e
    by (Some givens.Start) e = GivesStart e
    by (Some (givens.Read kind)) e = GivesRead kind e

abbrev is_agent : SeatKind → Bool
is_agent seats.Agent = true
is_agent kind = false

light_unless : (kind : SeatKind) → is_agent kind ≡ false → (o : Object) → calls_for kind o ≤ 3
light_unless kind no_agent (Class x) = omega arith
light_unless kind no_agent (Node x) = omega arith
light_unless kind no_agent (Volume v) = omega arith
light_unless kind no_agent (Claim c) = omega arith
light_unless seats.Agent no_agent (Pod p) = absurd (true≢false no_agent)
light_unless seats.User no_agent (Pod p) = omega arith
light_unless seats.Binder no_agent (Pod p) = omega arith
light_unless seats.Ops no_agent (Pod p) = omega arith
light_unless seats.Scheduler no_agent (Pod p) = omega arith
light_unless seats.ClaimProtect no_agent (Pod p) = omega arith
light_unless seats.VolumeProtect no_agent (Pod p) = omega arith

agent_kind : (kind : SeatKind) → is_agent kind ≡ true → kind ≡ seats.Agent
agent_kind seats.Agent e = refl
agent_kind seats.User e = absurd (true≢false (sym e))
agent_kind seats.Binder e = absurd (true≢false (sym e))
agent_kind seats.Ops e = absurd (true≢false (sym e))
agent_kind seats.Scheduler e = absurd (true≢false (sym e))
agent_kind seats.ClaimProtect e = absurd (true≢false (sym e))
agent_kind seats.VolumeProtect e = absurd (true≢false (sym e))

no_start : (role : Role) (m : Memory) → is_agent role.kind ≡ false → start_left role m ≡ 0
no_start role m e = by role.kind e
  where
    zero_if : (b : Bool) → ◌≡◌ {A = ℕ} (if b then 0 else 0) 0
    zero_if true = refl
    zero_if false = refl

    by : (kind : SeatKind) → is_agent kind ≡ false → start_left (record { kind = kind; node = role.node }) m ≡ 0
    by seats.Agent no_agent = absurd (true≢false no_agent)
    by seats.User no_agent = zero_if m.stale
    by seats.Binder no_agent = zero_if m.stale
    by seats.Ops no_agent = zero_if m.stale
    by seats.Scheduler no_agent = zero_if m.stale
    by seats.ClaimProtect no_agent = zero_if m.stale
    by seats.VolumeProtect no_agent = zero_if m.stale

-- the call of a task

pub record TaskCalled (x : ActorState) (request : Request) (reply : Reply) : Type 0 where
  pub under : Under
  pub there : x.under ≡ Some under
  pub goes : under_left (under_after under reply) + 1 ≤ task_left under.task + done_by request reply
  pub unread : (kind : Kind) → reads_kind kind request ≡ false
  pub light : WritesLight x.role.kind reply
  pub start : start_left x.role (memory_after x.role request reply x.memory) ≤ start_left x.role x.memory

abbrev answers_done : Setup → World → SeatKind → Request → Bool
answers_done setup w kind request = is_done (reply_to (effect setup w kind request))

agent_call_kind : (setup : Setup) (w : World) (t : Task) (request : Request) → task_kind t ≡ seats.Agent → task_call t ≡ Some request
    → (is_take request ≡ false) × (answers_done setup w seats.Agent request ≡ false)
unfolding agent_call
agent_call_kind setup w (tasks.Agent op) request is call = (agent_takes_none op op.step request call, agent_done setup w op op.step request call)
agent_call_kind setup w (tasks.Binder m) request is call = absurd (true≢false (sym (ap is_agent is)))
agent_call_kind setup w (tasks.ClaimProtect op) request is call = absurd (true≢false (sym (ap is_agent is)))
agent_call_kind setup w (tasks.VolumeProtect op) request is call = absurd (true≢false (sym (ap is_agent is)))
agent_call_kind setup w (tasks.Provision op) request is call = absurd (true≢false (sym (ap is_agent is)))
agent_call_kind setup w (tasks.Erase op) request is call = absurd (true≢false (sym (ap is_agent is)))
agent_call_kind setup w (tasks.Schedule op) request is call = absurd (true≢false (sym (ap is_agent is)))

module _ (setup : Setup) (seat : ℕ) (x : ActorState) (request : Request) (reply : Reply) (h : List Entry) (given : IsCallGiven setup seat x request reply h) where
  pub task_called : x.given ≡ Some givens.Task → TaskCalled x request reply
  task_called eg = by x.under refl given.stands.under_way (ap (given_call x) (sym eg) ∙ given.ask)
    where
      by : (u : Option Under) → x.under ≡ u → AnyIsUnderWay x.role u (own seat h) → option_map call_under u ≡ Some request → TaskCalled x request reply
      by None eu way c = none_some c
      by (Some u) eu way c = record {
        under = u;
        there = eu;
        goes = subst (λ r. under_left (under_after u reply) + 1 ≤ task_left u.task + done_by r reply) asks_it (under_goes u reply kept.call);
        unread = λ kind. task_reads_none u.task request kind call;
        light = λ o done. light (is_agent x.role.kind) refl o done;
        start = started (is_agent x.role.kind) refl;
      }
        where
          kept : KeepsUnder x.role u (own seat h)
          kept = keeps_under x.role u (own seat h) (stood x (own seat h) given.stands) way

          asks_it : u.call ≡ request
          asks_it = one u.call request c

          call : task_call u.task ≡ Some request
          call = kept.call ∙ ap Some asks_it

          light : (b : Bool) → is_agent x.role.kind ≡ b → (o : Object) → reply ≡ replies.Done o → calls_for x.role.kind o ≤ 3
          light false no_agent o done = light_unless x.role.kind no_agent o
          light true agent o done =
              let kind = agent_kind x.role.kind agent in
              let never = (agent_call_kind setup (world setup h) u.task request (kept.of_kind ∙ kind) call).1 in
              absurd (true≢false (sym (ap is_done (sym given.history.1 ∙ done)) ∙ (ap (λ k. answers_done setup (world setup h) k request) kind ∙ never)))

          started : (b : Bool) → is_agent x.role.kind ≡ b → start_left x.role (memory_after x.role request reply x.memory) ≤ start_left x.role x.memory
          started false no_agent = let z = no_start x.role (memory_after x.role request reply x.memory) no_agent in omega (arith, z)
          started true agent = start_less x.role request reply x.memory (agent_call_kind setup (world setup h) u.task request (kept.of_kind ∙ agent_kind x.role.kind agent) call).0

-- the call of the start

pub record StartCalled (x : ActorState) (request : Request) (reply : Reply) : Type 0 where
  pub idle : x.under ≡ None
  pub less : start_left x.role (memory_after x.role request reply x.memory) + 1 ≤ start_left x.role x.memory
  pub unread : (kind : Kind) → reads_kind kind request ≡ false
  pub light : WritesLight x.role.kind reply

module _ (setup : Setup) (seat : ℕ) (x : ActorState) (request : Request) (reply : Reply) (h : List Entry) (given : IsCallGiven setup seat x request reply h) where
  pub start_called : x.given ≡ Some givens.Start → StartCalled x request reply
  start_called eg =
      let call : start_call x.role x.memory ≡ Some request = ap (given_call x) (sym eg) ∙ given.ask in
      let f = start_falls setup (world setup h) x.role x.memory request reply given.fresh call given.history.1 in
      record {
        idle = subst (λ g. GivenStands x.role x.memory g x.under) eg given.stands.given;
        less = f.less;
        unread = λ kind. start_reads_none x.role.kind x.role.node x.memory request kind call;
        light = λ o done. absurd (f.unwritten o done);
      }

-- a list, or a watch

pub data Reads (setup : Setup) (seat : ℕ) (x : ActorState) (kind : Kind) (request : Request) (reply : Reply) (h : List Entry) : Type 0 where
  Lists : from_of seat h kind ≡ None → request ≡ requests.List kind None
      → reply ≡ replies.Listed (rows_of kind (world setup h).store.rows) (world setup h).store.version → Reads setup seat x kind request reply h
  FindsGone : (from version : ℕ) → from_of seat h kind ≡ Some from → passing x ≡ Some kind → request ≡ requests.Watch kind from
      → from < oldest (base setup) (world setup h).store.version → reply ≡ replies.Refused (refusals.Gone version)
      → Reads setup seat x kind request reply h
  IsTold : (from : ℕ) → from_of seat h kind ≡ Some from → passing x ≡ Some kind → request ≡ requests.Watch kind from
      → from ≤ (world setup h).store.version → oldest (base setup) (world setup h).store.version ≤ from
      → reply ≡ replies.Events (told_events kind from (world setup h).store.version (world setup h).log) → Reads setup seat x kind request reply h

pub record ReadCalled (setup : Setup) (seat : ℕ) (x : ActorState) (kind : Kind) (request : Request) (reply : Reply) (h : List Entry) : Type 0 where
  pub idle : x.under ≡ None
  pub follows_it : follows x.role.kind kind ≡ true
  pub followed : IsIn kind (kinds_of x.role.kind)
  pub light : WritesLight x.role.kind reply
  pub start : start_left x.role (memory_after x.role request reply x.memory) ≤ start_left x.role x.memory
  pub reads : Reads setup seat x kind request reply h
  pub stays : Stays (world setup h) (world setup (told_entry seat x request reply ∷ h)) request reply

list_says : (setup : Setup) (w : World) (seat_kind : SeatKind) (kind : Kind)
    → reply_to (effect setup w seat_kind (requests.List kind None)) ≡ replies.Listed (rows_of kind w.store.rows) w.store.version
unfolding effect on_devices device_answer outcome list reply_to reply_of
list_says setup w seat_kind kind = refl

pub from_same : (f : Following) → watch_from f ≡ reached_by f
from_same Unlisted = refl
from_same (ListedAt version None) = refl
from_same (ListedAt version (Some upto)) = refl

abbrev tells_write : Reply → Bool
tells_write (replies.Done o) = true
tells_write (replies.Left o) = true
tells_write reply = false

pub unwritten : (setup : Setup) (e : Entry) (past : List Entry) → e.reply ≡ reply_to (effect setup (world setup past) e.kind e.request)
    → tells_write e.reply ≡ false → Stays (world setup past) (world setup (e ∷ past)) e.request e.reply
unwritten setup e past answered none = elim (world_moves setup e past answered) [
  | inl stays ↦ stays
  | inr wrote ↦ elim wrote.rows [
    | inl put ↦ absurd (true≢false (sym (ap tells_write put.0) ∙ none))
    | inr gone ↦ absurd (true≢false (sym (ap tells_write gone.0) ∙ none))
  ]
]

module _ (setup : Setup) (seat : ℕ) (x : ActorState) (request : Request) (reply : Reply) (h : List Entry) (given : IsCallGiven setup seat x request reply h) where
  pub low_from : (kind : Kind) (from : ℕ) → from_of seat h kind ≡ Some from → from ≤ (world setup h).store.version
  low_from kind from is =
      let on = watches_on setup h seat kind given.history.0 (watches_from x.role.kind (own seat h) kind given.built given.stands.licensed) in
      (caught setup h seat kind given.history.0 on from (sym (from_same (following_of (own seat h) kind)) ∙ is)).0

  pub read_called : (kind : Kind) → x.given ≡ Some (givens.Read kind) → ReadCalled setup seat x kind request reply h
  read_called kind eg =
      let g : GivenStands x.role x.memory (Some (givens.Read kind)) x.under = subst (λ g. GivenStands x.role x.memory g x.under) eg given.stands.given in
      let p = placed x.role.kind kind g.0 in
      let r = by (from_of seat h kind) refl in
      record {
        idle = g.1;
        follows_it = g.0;
        light = λ o done. absurd (true≢false (sym (ap tells_write done) ∙ told r));
        followed = in_place (kinds_of x.role.kind) p.place kind p.at;
        start = start_less x.role request reply x.memory (untaken r);
        reads = r;
        stays = unwritten setup (told_entry seat x request reply) h given.history.1 (told r);
      }
    where
      asks_it : (from : Option ℕ) → from_of seat h kind ≡ from → read_request kind (ask_from from) ≡ request
      asks_it from e = one (read_request kind (ask_from from)) request
          (ap (λ f. Some (read_request kind (ask_from f)))
          (sym ((given.stands.caches.each kind).from ∙ (ap (λ k. watch_from (following_of (own seat h) k)) (given.stands.caches.kinds kind) ∙ e))) ∙ (ap (given_call x) (sym eg) ∙ given.ask))

      watched : (from : ℕ) → from_of seat h kind ≡ Some from → request ≡ requests.Watch kind from → Reads setup seat x kind request reply h
      watched from e is = says (watch_says setup (world setup h) x.role.kind kind from (low_from kind from e))
        where
          answered : reply ≡ reply_to (effect setup (world setup h) x.role.kind (requests.Watch kind from))
          answered = given.history.1 ∙ ap (λ r. reply_to (effect setup (world setup h) x.role.kind r)) is

          says : WatchSays setup (world setup h) kind from (reply_to (effect setup (world setup h) x.role.kind (requests.Watch kind from))) → Reads setup seat x kind request reply h
          says (IsGone old version r) = FindsGone from version e (given.passes kind from eg is) is old (answered ∙ r)
          says (Tells within r) = IsTold from e (given.passes kind from eg is) is (low_from kind from e) within (answered ∙ r)

      by : (from : Option ℕ) → from_of seat h kind ≡ from → Reads setup seat x kind request reply h
      by None e =
          let is : request ≡ requests.List kind None = sym (asks_it None e) in
          Lists e is (given.history.1 ∙ (ap (λ r. reply_to (effect setup (world setup h) x.role.kind r)) is ∙ list_says setup (world setup h) x.role.kind kind))
      by (Some from) e = watched from e (sym (asks_it (Some from) e))

      untaken : Reads setup seat x kind request reply h → is_take request ≡ false
      untaken (Lists e is r) = ap is_take is
      untaken (FindsGone from version e p is old r) = ap is_take is
      untaken (IsTold from e p is low within r) = ap is_take is

      told : Reads setup seat x kind request reply h → tells_write reply ≡ false
      told (Lists e is r) = ap tells_write r
      told (FindsGone from version e p is old r) = ap tells_write r
      told (IsTold from e p is low within r) = ap tells_write r
