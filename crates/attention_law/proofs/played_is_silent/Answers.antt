use Rattle.attention_law.proofs.Silent.{played_is_silent}
use Rattle.attention_law.proofs.played_is_silent.Goals as goal

pub returns : goal.returns
returns c = played_is_silent
