use Rattle.licence_writes.proofs.guards.volume_protect_update.Goals as goal

pub returns-in-Volume : goal.returns-in-Volume
returns-in-Volume g c = let row = rw c.deref.ensures at c.protects_volume.ensures in rw c.in-Volume.is row
