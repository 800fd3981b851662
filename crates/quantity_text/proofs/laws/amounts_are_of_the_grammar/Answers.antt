use Rattle.quantity_text.proofs.Accepted.{amounts_are_of_the_grammar}
use Rattle.quantity_text.proofs.laws.amounts_are_of_the_grammar.Goals as goal

pub returns : goal.returns
returns c = amounts_are_of_the_grammar
