use Rattle.licence_writes.proofs.NoRow.{no_volume}
use Rattle.licence_writes.proofs.binder.binder_phase.Goals as goal

pub returns-in-Available : goal.returns-in-Available
returns-in-Available g c = rw c.in-Available.is c.frees.ensures

pub returns-in-Bound : goal.returns-in-Bound
returns-in-Bound g c = rw c.in-Bound.is c.binds.ensures

pub returns-in-Released : goal.returns-in-Released
returns-in-Released g c = rw c.in-Released.is c.releases.ensures

pub returns-in-Pending : goal.returns-in-Pending
returns-in-Pending g c = rw c.in-Pending.is (no_volume (g.R.Record.whole c.args.seat.now) (g.R.Record.told c.args.seat.now) c.args.key.now c.args.given)

pub returns-in-Failed : goal.returns-in-Failed
returns-in-Failed g c = rw c.in-Failed.is (no_volume (g.R.Record.whole c.args.seat.now) (g.R.Record.told c.args.seat.now) c.args.key.now c.args.given)
