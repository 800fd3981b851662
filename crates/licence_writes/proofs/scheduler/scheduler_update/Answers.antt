use Rattle.licence_writes.proofs.scheduler.scheduler_update.Goals as goal

pub returns-in-Volume : goal.returns-in-Volume
returns-in-Volume g c = let row = rw c.deref.ensures at c.takes.ensures in rw c.in-Volume.is row

pub returns-in-Claim : goal.returns-in-Claim
returns-in-Claim g c = let row = rw c.deref-in-Claim.ensures at c.may_select.ensures in rw c.in-Claim.is row
