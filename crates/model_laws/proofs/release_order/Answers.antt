use Rattle.model_laws.proofs.Releases.{release_order}
use Rattle.model_laws.proofs.release_order.Goals as goal

pub returns : goal.returns
returns c = release_order
