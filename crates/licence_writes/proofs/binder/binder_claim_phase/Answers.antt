use Rattle.licence_writes.proofs.NoRow.{no_claim}
use Rattle.licence_writes.proofs.binder.binder_claim_phase.Goals as goal

pub returns-in-Bound : goal.returns-in-Bound
returns-in-Bound g c = rw c.in-Bound.is c.shows_bound.ensures

pub returns-in-Lost : goal.returns-in-Lost
returns-in-Lost g c = rw c.in-Lost.is c.loses.ensures

pub returns-in-Pending : goal.returns-in-Pending
returns-in-Pending g c = rw c.in-Pending.is (no_claim (g.R.Record.whole c.args.seat.now) (g.R.Record.told c.args.seat.now) c.args.key.now c.args.given)
