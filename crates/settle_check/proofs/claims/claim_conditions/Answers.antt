use Rattle.std.proofs.Common.{refl}
use Rattle.claim_sync.specs.Conditions.{conditions_on}
use Rattle.settle_check.proofs.claims.claim_conditions.Goals as goal

pub returns : goal.returns
unfolding conditions_on
returns c =
    rw (c.is_guarded-guarded.ensures, c.conditions_on-on.ensures, c.has_best-matched.ensures, c.is_some-assignable.ensures, c.class_place.ensures.some, c.named_volume-volume.ensures) refl
