use Rattle.attention_law.proofs.Needed.{played_is_needed}
use Rattle.attention_law.proofs.played_is_needed.Goals as goal

pub returns : goal.returns
returns c = played_is_needed
