use Rattle.std.proofs.Common.{refl}
use Rattle.volume_sync.specs.Conditions.{conditions_on}
use Rattle.settle_check.proofs.volumes.volume_conditions.Goals as goal

pub returns : goal.returns
unfolding conditions_on
returns c = rw (c.conditions_on-on.ensures, c.is_delete.ensures, c.is_deleting.ensures, c.is_protected_volume.ensures) refl
