use Rattle.settle_progress.proofs.Epochs.Epochs.{rounds_keep_epochs}
use Rattle.settle_progress.proofs.epochs_laws.rounds_keep_epochs.Goals as goal

-- a round leaves an agent its epoch
pub returns : goal.returns
returns c = rounds_keep_epochs
