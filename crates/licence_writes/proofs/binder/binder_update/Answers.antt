use Rattle.licence_writes.proofs.binder.binder_update.Goals as goal

pub returns-in-Volume : goal.returns-in-Volume
returns-in-Volume g c = let row = rw c.deref.ensures at c.binder_volume.ensures in rw c.in-Volume.is row

pub returns-in-Claim : goal.returns-in-Claim
returns-in-Claim g c = let row = rw c.deref-in-Claim.ensures at c.binder_claim.ensures in rw c.in-Claim.is row
