use Rattle.settle_measure.proofs.Left.Bounds.{left_is_bounded}
use Rattle.settle_measure.proofs.left_laws.left_is_bounded.Goals as goal

-- What is left is bounded by the kinds of the objects
pub returns : goal.returns
returns c = left_is_bounded
