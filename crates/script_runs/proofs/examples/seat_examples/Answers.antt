use Rattle.script_runs.proofs.Computed.{seats}
use Rattle.script_runs.proofs.examples.seat_examples.Goals as goal

pub returns : goal.returns
returns c = seats
