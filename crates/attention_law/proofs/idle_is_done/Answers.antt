use Rattle.attention_law.proofs.Resting.{idle_is_done}
use Rattle.attention_law.proofs.idle_is_done.Goals as goal

pub returns : goal.returns
returns c = idle_is_done
