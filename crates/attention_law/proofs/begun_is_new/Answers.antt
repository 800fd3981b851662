use Rattle.attention_law.proofs.Begun.{begun_is_new}
use Rattle.attention_law.proofs.begun_is_new.Goals as goal

pub returns : goal.returns
returns c = begun_is_new
