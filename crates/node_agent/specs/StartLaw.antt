-- How what a decision stands on comes about and goes on: what an actor may rely on. A choice of this project.
use Rattle.std.specs.Prelude.{ℕ, ◌≡◌, Bool, true, false, List, [], ◌∷◌, None, is_some, ⊤}
use Rattle.std.specs.List.{list_any}
use Rattle.kube_parts.specs.declared.uid.Uid.{Uid}
use Rattle.call_types.specs.declared.entry.Entry.{Entry}
use Rattle.call_types.specs.declared.request.SeatKind.TheVariants.{Agent}
use Rattle.binder_model.specs.AgentLicence.{ListedPods, epoch_in, never_finished, since_epoch}
use Rattle.binder_model.specs.Licence.{Licensed}
use Rattle.binder_model.specs.Told.{ToldPod}
use Rattle.safety_law.specs.Pods.Deletion.{IsDeletingPod}
use Rattle.safety_law.specs.Pods.Tellings.{AreToldByReads, tells_pod}
use Rattle.node_agent.specs.declared.agent.AgentOp.{AgentOp}
use Rattle.node_agent.specs.Agents.{agent_call, agent_parks}
use Rattle.node_agent.specs.Evidence.{HasStarted}

-- a seat that was told no pod has started, whether it took the node or not
abbrev pub UntoldHasStarted : Type 0
UntoldHasStarted = (node : List ℕ) (mine : List Entry) → list_any tells_pod mine ≡ false → HasStarted node mine

-- an answer that takes no node leaves the start, where it tells no pod, is a list of all pods, or comes after one
abbrev pub StartGoesOn : Type 0
StartGoesOn =
    (node : List ℕ) (e : Entry) (mine : List Entry)
    → epoch_in node e ≡ None → (tells_pod e ≡ true → ListedPods (e ∷ since_epoch node mine)) → HasStarted node mine → HasStarted node (e ∷ mine)

-- each entry was licensed after those before it
abbrev pub AreLicensed : List Entry → Type 0
AreLicensed [] = ⊤
AreLicensed (e ∷ mine) = AreLicensed mine × Licensed Agent mine e.request

-- a seat that was never told the pod deleting never asked to finish it
abbrev pub UntoldIsUnfinished : Type 0
UntoldIsUnfinished = (uid : Uid) (mine : List Entry) → AreLicensed mine → (ToldPod (IsDeletingPod uid) mine → ⊥) → never_finished uid mine ≡ true

-- before the node was taken no pod was told, and no list of the pods
pub record IsUntold (mine : List Entry) : Type 0 where
  pub untold : list_any tells_pod mine ≡ false
  pub unlisted : ListedPods mine → ⊥

-- where this entry takes the node, nothing of its mounts was told yet
abbrev pub TakenBy : Bool → List Entry → Type 0 → Type 0
TakenBy true mine before = IsUntold mine
TakenBy false mine before = before

-- the agent took the node first
abbrev pub TookFirst : List ℕ → List Entry → Type 0
TookFirst node [] = ⊤
TookFirst node (e ∷ mine) = TakenBy (is_some (epoch_in node e)) (e ∷ mine) (TookFirst node mine)

-- an agent that took its node first has started, by the licence of its reads
abbrev pub LicensedHasStarted : Type 0
LicensedHasStarted = (node : List ℕ) (mine : List Entry) → AreLicensed mine → AreToldByReads mine → TookFirst node mine → HasStarted node mine

-- a machine whose key is parked has ended
abbrev pub ParkedAgentsHaveEnded : Type 0
ParkedAgentsHaveEnded = (op : AgentOp) → agent_parks op.step ≡ true → agent_call op ≡ None
