use Rattle.settle_progress.proofs.Epochs.Silent.{current_are_awake}
use Rattle.settle_progress.proofs.epochs_laws.current_are_awake.Goals as goal

-- an epoch that is current was not overtaken
pub returns : goal.returns
returns c = current_are_awake
