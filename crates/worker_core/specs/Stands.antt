-- What an actor stands for: the entries of its seat, the newest first.
-- A choice of this project: it is what ties caches, passes and what is under way to what the seat was told.
use Rattle.std.specs.Prelude.{ℕ, ◌≡◌, ◌<◌, ◌⊎◌, Bool, true, false, ◌&&◌, List, [], ◌∷◌, Option, Some, None, length, ⊤}
use Rattle.kube_parts.specs.declared.parts.Kind.{Kind}
use Rattle.kube_objects.specs.Keys.{AreRows}
use Rattle.call_types.specs.declared.entry.Entry.{Entry}
use Rattle.call_types.specs.declared.setup.Setup.{Setup}
use Rattle.call_types.specs.declared.request.Request.{Request}
use Rattle.call_types.specs.declared.request.Request.TheVariants as requests
use Rattle.call_types.specs.declared.request.SeatKind.{SeatKind}
use Rattle.call_types.specs.declared.request.SeatKind.TheVariants as seats
use Rattle.call_types.specs.declared.reply.Reply.{Reply}
use Rattle.call_types.specs.declared.reply.Reply.TheVariants as replies
use Rattle.binder_model.specs.Imports.{ImportsPass}
use Rattle.binder_model.specs.Licence.{Licensed}
use Rattle.binder_model.specs.Promises.{most_entries}
use Rattle.binder_model.specs.Reading.{follows}
use Rattle.binder_model.specs.Told.{own}
use Rattle.binder_model.specs.World.{IsHistory}
use Rattle.call_types.specs.Kinds.{reads_kind}
use Rattle.informer_cache.specs.All.{AllKnown, AllStandFor, all_objects}
use Rattle.node_agent.specs.HistoryLaw.{TakesFirst}
use Rattle.sync_queue.specs.Work.{no_work}
use Rattle.worker_core.specs.declared.role.Role.{Role}
use Rattle.worker_core.specs.declared.task.Under.{Under}
use Rattle.worker_core.specs.declared.turn.Given.{Given}
use Rattle.worker_core.specs.declared.turn.Given.TheVariants as givens
use Rattle.worker_core.specs.declared.turn.Next.{Next}
use Rattle.worker_core.specs.declared.turn.Next.TheVariants as nexts
use Rattle.worker_core.specs.declared.turn.Pass.{Pass}
use Rattle.worker_core.specs.Memories.{Memory, memory_of, no_memory}
use Rattle.worker_core.specs.Roles.{kind_in_order, kinds_of}
use Rattle.worker_core.specs.States.{ActorState, start_call}
use Rattle.worker_core.specs.Tasks.{GivesCall, under_after}
use Rattle.worker_core.specs.Turns.{first_unlisted}

-- what is under way began by a decision on caches and a memory that stood for the entries of then, with each kind that is
-- followed listed, and each entry since is its own call, which was told
pub data IsUnderWay (role : Role) : Under → List Entry → Type 0 where
  Begun : {u : Under} {mine : List Entry} (c : AllKnown) → AllStandFor c mine → AreRows (all_objects c)
      → first_unlisted c (kinds_of role.kind) ≡ None → GivesCall role (memory_of role mine) (all_objects c) u → IsUnderWay role u mine
  WentOn : {next : Under} {mine : List Entry} (u : Under) (e : Entry) (before : List Entry) → mine ≡ e ∷ before → IsUnderWay role u before
      → e.told ≡ true → e.request ≡ u.call → under_after u e.reply ≡ Some next → IsUnderWay role next mine

-- what is under way, if anything is, rests on the entries
abbrev pub AnyIsUnderWay : Role → Option Under → List Entry → Type 0
AnyIsUnderWay role None mine = ⊤
AnyIsUnderWay role (Some u) mine = IsUnderWay role u mine

-- the watch was answered with no event
abbrev pub IsEmptyWatch : Request → Reply → Type 0
IsEmptyWatch (requests.Watch kind from) (replies.Events events) = events.events ≡ []
IsEmptyWatch request reply = ⊥

-- the kind has no news: the last told list of the whole kind or watch of it is a watch without events
abbrev pub HasNoNews : Kind → List Entry → Type 0
HasNoNews kind [] = ⊥
HasNoNews kind (e ∷ mine) = by (e.told && reads_kind kind e.request) (HasNoNews kind mine)
  where
    by : Bool → Type 0 → Type 0
    by true before = IsEmptyWatch e.request e.reply
    by false before = before

-- where the pass had no event, the kinds that it has behind it have no news
abbrev pub PassStands : Role → Pass → List Entry → Type 0
PassStands role pass mine = pass.event ≡ false → (place : ℕ) (kind : Kind) → place < pass.behind → kind_in_order role place ≡ Some kind → HasNoNews kind mine

-- each entry is one of the kind, and was licensed after those before it
abbrev pub AreLicensed : SeatKind → List Entry → Type 0
AreLicensed kind [] = ⊤
AreLicensed kind (e ∷ mine) = AreLicensed kind mine × (e.kind ≡ kind) × Licensed kind mine e.request

-- the entries of one seat in some history, from imports that pass, with fewer entries than any machine can hold
pub record AreOwn (mine : List Entry) : Type 0 where
  pub setup : Setup
  pub past : List Entry
  pub seat : ℕ
  pub imports : ImportsPass setup.imports
  pub short : length past < most_entries
  pub history : IsHistory setup past
  pub own : mine ≡ own seat past

-- an agent takes its node first: each of its calls does so exactly as long as it was told no epoch. The other kinds have no start
abbrev pub StartsSo : SeatKind → List ℕ → List Entry → Type 0
StartsSo seats.Agent node mine = TakesFirst node mine
StartsSo _ node mine = ⊤

-- a read that was given is one of a kind that the actor follows, given once the calls of the start are made; and neither it
-- nor a call of the start is given with something under way
abbrev pub GivenStands : Role → Memory → Option Given → Option Under → Type 0
GivenStands role memory (Some (givens.Read kind)) under = (follows role.kind kind ≡ true) × (under ≡ None) × (start_call role memory ≡ None)
GivenStands role memory (Some givens.Start) under = under ≡ None
GivenStands role memory given under = ⊤

-- the actor's state is what the entries of its seat make of it
pub record StandsFor (s : ActorState) (mine : List Entry) : Type 0 where
  -- of each key the caches show the newest told, and they ask what the reads of the entries allow
  pub caches : AllStandFor s.caches mine
  pub under_way : AnyIsUnderWay s.role s.under mine
  pub pass : PassStands s.role s.pass mine
  pub memory : s.memory ≡ memory_of s.role mine
  pub licensed : AreLicensed s.role.kind mine
  pub own : AreOwn mine
  pub start : StartsSo s.role.kind s.role.node mine
  pub given : GivenStands s.role s.memory s.given s.under

-- an actor that was told nothing: nothing is queued, and its first pass is still to begin
pub record IsNew (role : Role) (s : ActorState) : Type 0 where
  pub is : s.role ≡ role
  pub caches : AllStandFor s.caches []
  pub work : s.work ≡ no_work
  pub pass : s.pass ≡ record { behind = length (kinds_of role.kind); event = true }
  pub memory : s.memory ≡ no_memory
  pub under : s.under ≡ None
  pub given : s.given ≡ None

-- the call is licensed by the entries
abbrev pub IsLicensedAnswer : SeatKind → List Entry → Next → Type 0
IsLicensedAnswer kind mine (nexts.Call request) = Licensed kind mine request
IsLicensedAnswer kind mine nexts.Idle = ⊤

-- an actor may be idle where none of its kinds has news, or where an agent was told StaleEpoch
abbrev pub MayBeIdle : Role → Memory → List Entry → Type 0
MayBeIdle role memory mine = (memory.stale ≡ true) ⊎ ((kind : Kind) → follows role.kind kind ≡ true → HasNoNews kind mine)
