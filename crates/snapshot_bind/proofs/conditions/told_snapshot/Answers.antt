use Rattle.snapshot_bind.proofs.Somes.{some_reverse, some_forward}
use Rattle.snapshot_bind.proofs.conditions.told_snapshot.Goals as goal

pub returns : goal.returns
returns g c = (λ t. some_reverse _ _ (c.some_of.ensures.0 t), λ some. c.some_of.ensures.1 (some_forward _ _ some))
