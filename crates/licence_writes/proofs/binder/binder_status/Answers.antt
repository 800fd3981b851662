use Rattle.licence_writes.proofs.binder.binder_status.Goals as goal

pub returns-in-Claim : goal.returns-in-Claim
returns-in-Claim g c = rw c.in-Claim.is c.binder_claim_phase.ensures
