use Rattle.shared_work.proofs.Computed.{users}
use Rattle.shared_work.proofs.examples.user_examples.Goals as goal

pub returns : goal.returns
returns c = users
