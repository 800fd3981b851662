use Rattle.volume_sync.proofs.Says.{read_off}
use Rattle.volume_sync.proofs.decision.decide_volume.Goals as goal

pub returns : goal.returns
returns g c = read_off _ _ _ _ _ _ _ _ _ c.seen_claim-claim.ensures c.is_asked.ensures c.volume_table.ensures c.conditions_on-conditions.ensures c.pick.ensures c.numbered.ensures
