use Rattle.settle_check.proofs.ClaimSays.{read_off}
use Rattle.settle_check.proofs.claims.kept_due.Goals as goal

pub returns : goal.returns
returns c = read_off c.args.store.now.rows c.args.claim.now _ _ _ _ c.requires c.claim_conditions-conditions.ensures c.pick.ensures c.due_numbered.ensures
