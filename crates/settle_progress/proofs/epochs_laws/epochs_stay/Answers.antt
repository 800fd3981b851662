use Rattle.settle_progress.proofs.Epochs.Epochs.{epochs_stay}
use Rattle.settle_progress.proofs.epochs_laws.epochs_stay.Goals as goal

-- the epoch stays
pub returns : goal.returns
returns c = epochs_stay
