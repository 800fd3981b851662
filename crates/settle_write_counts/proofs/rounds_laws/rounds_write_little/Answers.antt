use Rattle.settle_write_counts.proofs.Rounds.Rounds.{rounds_write_little}
use Rattle.settle_write_counts.proofs.rounds_laws.rounds_write_little.Goals as goal

-- a round does few writes
pub returns : goal.returns
returns c = rounds_write_little
