use Rattle.text_examples.proofs.Printable.Given.{given_examples}
use Rattle.text_examples.proofs.printed.given_examples.Goals as goal

pub returns : goal.returns
returns c = given_examples
