use Rattle.std.proofs.Common.{true, None}
use Rattle.claim_sync.proofs.Says.{found_read, found_shown}
use Rattle.claim_sync.proofs.conditions.claim_conditions.Goals as goal

pub returns-then-reads_live : goal.returns-then-reads_live
returns-then-reads_live g c = found_read _ _ _ _ _ _ _ _ true _ c.named_volume-named.ensures c.reads_live.ensures c.requires.matched
    c.requires.assignable c.if-reads_live.true c.live_volume.ensures c.conditions_on.ensures

pub returns-else-reads_live : goal.returns-else-reads_live
returns-else-reads_live g c = found_shown _ _ _ _ None _ _ _ _ _ c.named_volume-named.ensures c.reads_live.ensures c.requires.matched
    c.requires.assignable c.if-reads_live.false c.is_asked.ensures c.conditions_on-else-reads_live.ensures
