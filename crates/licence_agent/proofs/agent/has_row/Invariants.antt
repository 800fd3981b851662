use Rattle.std.proofs.Common.{◌≡◌, drop}
use Rattle.binder_model.specs.AgentLicence.{has_row}
use Rattle.licence_agent.proofs.agent.has_row.Given as goal

-- what is to be found is still ahead
abbrev pub invariant-loop-row : goal.invariant-loop-row
invariant-loop-row l = has_row l.pod l.rows ≡ has_row l.pod (drop l.row-index l.rows)
