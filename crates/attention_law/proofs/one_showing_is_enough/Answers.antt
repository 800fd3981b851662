use Rattle.attention_law.proofs.Showings.{one_showing}
use Rattle.attention_law.proofs.one_showing_is_enough.Goals as goal

pub returns : goal.returns
returns c = one_showing
