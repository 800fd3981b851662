use Rattle.side_examples.proofs.Sides.{reply_examples}
use Rattle.side_examples.proofs.reply_examples.Goals as goal

pub returns : goal.returns
returns c = reply_examples
