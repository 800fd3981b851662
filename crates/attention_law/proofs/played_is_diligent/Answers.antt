use Rattle.attention_law.proofs.Following.{played_is_diligent}
use Rattle.attention_law.proofs.played_is_diligent.Goals as goal

pub returns : goal.returns
returns c = played_is_diligent
