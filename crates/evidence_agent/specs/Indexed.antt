-- What an agent's index is of the entries that it was given, newest first.
-- A choice of this project.
use Rattle.std.specs.Prelude.{List}
use Rattle.call_types.specs.declared.entry.Entry.{Entry}
use Rattle.evidence_agent.specs.Places.Rows.{AreLastsOf}
use Rattle.evidence_agent.specs.declared.index.AgentIndex.{AgentIndex}
use Rattle.evidence_agent.specs.Pods.{ArePods}

-- its places are those of the last entries, and its pods were told
pub record IsAgentIndexOf (x : AgentIndex) (mine : List Entry) : Type 0 where
  pub lasts : AreLastsOf x.lasts mine
  pub pods : ArePods x.pods mine
