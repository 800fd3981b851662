use Rattle.settle_progress.proofs.Epochs.Silent.{rounds_silence_the_overtaken}
use Rattle.settle_progress.proofs.epochs_laws.rounds_silence_the_overtaken.Goals as goal

-- by each actor, one after the other
pub returns : goal.returns
returns c = rounds_silence_the_overtaken
