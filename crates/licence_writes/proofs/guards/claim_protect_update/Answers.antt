use Rattle.licence_writes.proofs.guards.claim_protect_update.Goals as goal

pub returns-in-Claim : goal.returns-in-Claim
returns-in-Claim g c = let row = rw c.deref.ensures at c.protects_claim.ensures in rw c.in-Claim.is row
