use Rattle.shared_work.proofs.Computed.{seats}
use Rattle.shared_work.proofs.examples.seat_examples.Goals as goal

pub returns : goal.returns
returns c = seats
