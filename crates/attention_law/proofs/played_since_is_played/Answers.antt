use Rattle.attention_law.proofs.Needed.{played_on}
use Rattle.attention_law.proofs.played_since_is_played.Goals as goal

pub returns : goal.returns
returns c = played_on
