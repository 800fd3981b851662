use Rattle.quantity_text.proofs.Endings.{suffixes_are_of_the_grammar}
use Rattle.quantity_text.proofs.laws.suffixes_are_of_the_grammar.Goals as goal

pub returns : goal.returns
returns c = suffixes_are_of_the_grammar
