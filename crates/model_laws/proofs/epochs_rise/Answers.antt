use Rattle.model_laws.proofs.Epochs.{epochs_rise}
use Rattle.model_laws.proofs.epochs_rise.Goals as goal

pub returns : goal.returns
returns c = epochs_rise
