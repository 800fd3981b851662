-- For proofs alone: what an agent's index is, where it is known.
use Rattle.std.specs.Prelude.{◌≡◌, true, List}
use Rattle.call_types.specs.declared.entry.Entry.{Entry}
use Rattle.evidence_agent.specs.Indexed.{IsAgentIndexOf}
use Rattle.evidence_judge.specs.declared.agents.Agents.{Agents}

-- where the index of an agent is kept, it is that of the entries
abbrev pub AreAgentsOf : Agents → List Entry → Type 0
AreAgentsOf x mine = x.known ≡ true → IsAgentIndexOf x.index mine
