use Rattle.licence_writes.proofs.ops.ops_update.Goals as goal

pub returns-in-Claim : goal.returns-in-Claim
returns-in-Claim g c = let row = rw c.deref.ensures at c.may_clear_node.ensures in rw c.in-Claim.is row
