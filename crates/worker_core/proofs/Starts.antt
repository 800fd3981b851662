-- An agent takes its node first: each of its calls does so exactly as long as it was told no epoch.
use Rattle.std.proofs.Common.{◌≡◌, ℕ, List, ◌∷◌, Bool, true, false, true≢false, Option, Some, None, refl, sym, ◌∙◌, ap, subst}
use Rattle.std.specs.Prelude.{is_none, is_some, option_map}
use Rattle.std.proofs.lemmas.Slice.Eq.{bytes_eq-Decides}
use Rattle.kube_parts.specs.declared.parts.Kind.{Kind}
use Rattle.kube_objects.specs.declared.objects.Object.{Object}
use Rattle.kube_objects.specs.Keys.{row_at}
use Rattle.call_types.specs.declared.entry.Entry.{Entry}
use Rattle.call_types.specs.declared.request.Request.{Request}
use Rattle.call_types.specs.declared.request.SeatKind.{SeatKind}
use Rattle.call_types.specs.declared.request.SeatKind.TheVariants as seats
use Rattle.call_types.specs.declared.reply.MountRow.{MountRow}
use Rattle.binder_model.specs.AgentLicence.{epoch_in, last_epoch}
use Rattle.binder_model.specs.Told.{first_some}
use Rattle.informer_cache.specs.declared.cache.NextRead.{NextRead}
use Rattle.informer_cache.specs.declared.cache.NextRead.TheVariants as asks
use Rattle.informer_cache.specs.All.{all_objects, cache_of}
use Rattle.informer_cache.specs.Cache.{ask_of}
use Rattle.model_laws.proofs.Lists.{one, none_some}
use Rattle.node_agent.specs.declared.agent.AgentOp.{AgentOp}
use Rattle.node_agent.specs.declared.step.AgentStep.{AgentStep}
use Rattle.node_agent.specs.declared.step.AgentStep.TheVariants as steps
use Rattle.node_agent.specs.Agents.{agent_call, agent_call_at}
use Rattle.node_agent.specs.HistoryLaw.{is_take_of}
use Rattle.worker_core.specs.declared.role.Role.{Role}
use Rattle.worker_core.specs.declared.task.First.{First}
use Rattle.worker_core.specs.declared.task.First.TheVariants as firsts
use Rattle.worker_core.specs.declared.task.Task.{Task}
use Rattle.worker_core.specs.declared.task.Task.TheVariants as tasks
use Rattle.worker_core.specs.declared.task.Under.{Under}
use Rattle.worker_core.specs.declared.turn.Given.{Given}
use Rattle.worker_core.specs.declared.turn.Given.TheVariants as givens
use Rattle.worker_core.specs.Memories.{Memory, memory_of}
use Rattle.worker_core.specs.Stands.{AnyIsUnderWay, Begun, GivenStands, IsUnderWay, StandsFor, StartsSo, WentOn}
use Rattle.worker_core.specs.States.{ActorState, agent_start, asked, call_under, given_call, read_request, start_of}
use Rattle.worker_core.specs.Steps.Evidence.{task_kind}
use Rattle.worker_core.specs.Tasks.{IsAgentFirst, IsFirstOf, task_call}
use Rattle.worker_core.proofs.ByKind.{EpochStands, epoch_stands}
use Rattle.worker_core.proofs.Machines.{keeps_under}
use Rattle.worker_core.proofs.Owning.{stood}

-- no call of a machine takes a node

pub step_takes_none : (node : List ℕ) (op : AgentOp) (step : AgentStep) (r : Request) → agent_call_at op step ≡ Some r → is_take_of node r ≡ false
step_takes_none node op (steps.ReadsClaim name) r e = ap (is_take_of node) (sym (one _ r e))
step_takes_none node op (steps.ReadsVolume name c) r e = ap (is_take_of node) (sym (one _ r e))
step_takes_none node op steps.MountsPod r e = ap (is_take_of node) (sym (one _ r e))
step_takes_none node op steps.Unmounts r e = ap (is_take_of node) (sym (one _ r e))
step_takes_none node op steps.ReadsMounts r e = ap (is_take_of node) (sym (one _ r e))
step_takes_none node op steps.Finishes r e = ap (is_take_of node) (sym (one _ r e))
step_takes_none node op steps.Done r e = none_some e
step_takes_none node op steps.Parked r e = none_some e

abbrev is_agent : SeatKind → Bool
is_agent seats.Agent = true
is_agent kind = false

pub task_takes_none : (node : List ℕ) (t : Task) (r : Request) → task_kind t ≡ seats.Agent → task_call t ≡ Some r → is_take_of node r ≡ false
unfolding agent_call
task_takes_none node (tasks.Agent op) r is e = step_takes_none node op op.step r e
task_takes_none node (tasks.Binder m) r is e = absurd (true≢false (sym (ap is_agent is)))
task_takes_none node (tasks.ClaimProtect op) r is e = absurd (true≢false (sym (ap is_agent is)))
task_takes_none node (tasks.VolumeProtect op) r is e = absurd (true≢false (sym (ap is_agent is)))
task_takes_none node (tasks.Provision op) r is e = absurd (true≢false (sym (ap is_agent is)))
task_takes_none node (tasks.Erase op) r is e = absurd (true≢false (sym (ap is_agent is)))
task_takes_none node (tasks.Schedule op) r is e = absurd (true≢false (sym (ap is_agent is)))

pub read_takes_none : (node : List ℕ) (kind : Kind) (ask : NextRead) → is_take_of node (read_request kind ask) ≡ false
read_takes_none node kind asks.List = refl
read_takes_none node kind (asks.Watch from) = refl

-- the start takes the node as long as no epoch was told

start_takes : (node : List ℕ) (epoch : Option ℕ) (told : Bool) (r : Request) → agent_start node epoch told ≡ Some r → is_take_of node r ≡ is_none epoch
start_takes node None told r e = ap (is_take_of node) (sym (one _ r e)) ∙ (bytes_eq-Decides node node).1 refl
start_takes node (Some epoch) false r e = ap (is_take_of node) (sym (one _ r e))
start_takes node (Some epoch) true r e = none_some e

started_took : (node : List ℕ) (epoch : Option ℕ) (told : Bool) → agent_start node epoch told ≡ None → is_none epoch ≡ false
started_took node None told e = none_some (sym e)
started_took node (Some epoch) told e = refl

-- what is under way began once an epoch was told

took_before : (x y : Option ℕ) → is_none y ≡ false → is_none (first_some x y) ≡ false
took_before None y h = h
took_before (Some epoch) y h = refl

decided_took : (node : List ℕ) (epoch : Option ℕ) (mounts : Option (List MountRow)) (row : Option Object) (first : First) → IsAgentFirst node epoch mounts row first → is_none epoch ≡ false
decided_took node None mounts row first d = absurd d
decided_took node (Some epoch) mounts row first d = refl

remembers_epoch : (role : Role) (mine : List Entry) → role.kind ≡ seats.Agent → (memory_of role mine).epoch ≡ last_epoch role.node mine
remembers_epoch role mine is = subst (λ kind. EpochStands kind role.node (memory_of role mine) mine) is (epoch_stands role mine)

under_took : (role : Role) (u : Under) (mine : List Entry) → role.kind ≡ seats.Agent → IsUnderWay role u mine → is_none (last_epoch role.node mine) ≡ false
under_took role u mine is (Begun c stand order listed gives) =
    ap is_none (sym (remembers_epoch role mine is))
    ∙ decided_took role.node (memory_of role mine).epoch (memory_of role mine).mounts (row_at u.key (all_objects c)) (firsts.Begins u.task)
    (subst (λ kind. IsFirstOf kind role.node (memory_of role mine) (all_objects c) u.key (firsts.Begins u.task)) is gives.decided)
under_took role u mine is (WentOn before e past split way told asked moves) =
    subst (λ m. is_none (last_epoch role.node m) ≡ false) (sym split) (took_before (epoch_in role.node e) (last_epoch role.node past) (under_took role before past is way))

-- the next entry of an agent

module _ (s : ActorState) (mine : List Entry) (e : Entry) (stands : StandsFor s mine) (ask : asked s ≡ Some e.request) where
  agent_on : s.role.kind ≡ seats.Agent → is_take_of s.role.node e.request ≡ is_none (last_epoch s.role.node mine)
  agent_on is = by s.given stands.given ask
    where
      epoch : s.memory.epoch ≡ last_epoch s.role.node mine
      epoch = ap (λ (m : Memory). m.epoch) stands.memory ∙ remembers_epoch s.role mine is

      task : (u : Option Under) → AnyIsUnderWay s.role u mine → option_map call_under u ≡ Some e.request → is_take_of s.role.node e.request ≡ is_none (last_epoch s.role.node mine)
      task None way c = none_some c
      task (Some u) way c =
          let k = keeps_under s.role u mine (stood s mine stands) way in
          task_takes_none s.role.node u.task e.request (k.of_kind ∙ is) (k.call ∙ c) ∙ sym (under_took s.role u mine is way)

      by : (g : Option Given) → GivenStands s.role s.memory g s.under → given_call s g ≡ Some e.request → is_take_of s.role.node e.request ≡ is_none (last_epoch s.role.node mine)
      by None f c = none_some c
      by (Some givens.Task) f c = task s.under stands.under_way c
      by (Some givens.Start) f c = start_takes s.role.node s.memory.epoch (is_some s.memory.mounts) e.request (subst
          (λ kind. start_of kind s.role.node s.memory ≡ Some e.request) is c) ∙ ap is_none epoch
      by (Some (givens.Read kind)) f c =
          ap (is_take_of s.role.node) (sym (one _ e.request c)) ∙ read_takes_none s.role.node kind (ask_of (cache_of kind s.caches))
          ∙ sym (started_took s.role.node s.memory.epoch (is_some s.memory.mounts) (subst (λ k. start_of k s.role.node s.memory ≡ None) is f.2)) ∙ ap is_none epoch

  pub starts_on : StartsSo s.role.kind s.role.node (e ∷ mine)
  starts_on = by s.role.kind refl stands.start
    where
      by : (kind : SeatKind) → s.role.kind ≡ kind → StartsSo kind s.role.node mine → StartsSo kind s.role.node (e ∷ mine)
      by seats.Agent is start = (agent_on is, start)
      by seats.User is start = tt
      by seats.Binder is start = tt
      by seats.Ops is start = tt
      by seats.Scheduler is start = tt
      by seats.ClaimProtect is start = tt
      by seats.VolumeProtect is start = tt
