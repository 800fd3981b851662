use Rattle.claim_sync.proofs.Says.{read_off}
use Rattle.claim_sync.proofs.decision.claim_step.Goals as goal

pub returns : goal.returns
returns g c = read_off _ _ _ _ _ _ _ c.claim_table.ensures c.claim_conditions-conditions.ensures c.pick.ensures c.numbered.ensures
