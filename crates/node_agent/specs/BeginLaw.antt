-- Each machine that begins has a next call; and no call lists or watches a whole kind, so that none
-- counts as a read of the actor's own. A choice of this project.
use Rattle.std.specs.Prelude.{ℕ, ◌≡◌, true, List, Option, Some, is_some}
use Rattle.kube_objects.specs.declared.objects.Object.{Object}
use Rattle.call_types.specs.declared.request.Request.{Request}
use Rattle.call_types.specs.Kinds.{ReadsNoKind}
use Rattle.call_types.specs.declared.reply.MountRow.{MountRow}
use Rattle.node_agent.specs.declared.agent.AgentOp.{AgentOp}
use Rattle.node_agent.specs.Agents.{agent_begins, agent_call}

-- what an agent begins has a call
abbrev pub BegunAgentsHaveCalls : Type 0
BegunAgentsHaveCalls = (node : List ℕ) (epoch : ℕ) (mounts : List MountRow) (row : Option Object) (op : AgentOp) → agent_begins node epoch mounts row ≡ Some op → is_some (agent_call op) ≡ true

-- an agent's calls for a pod are no lists and no watches
abbrev pub CallsReadNoKind : Type 0
CallsReadNoKind = (op : AgentOp) (request : Request) → agent_call op ≡ Some request → ReadsNoKind request
