use Rattle.std.proofs.Common.{◌≡◌, arith, ◌∙◌}
use Rattle.volume_match.proofs.Scans.{whole}
use Rattle.volume_match.proofs.choice.best_outside.Goals as goal

pub loop-place-init : goal.loop-place-init
loop-place-init g c = λ place below v k. absurd (omega arith)

pub returns : goal.returns
returns g c =
    let same : c.loop-place.place ≡ c.count-place-end.result = omega arith in
    whole _ _ _ _ _ _ _ (same ∙ c.count-place-end.ensures.count) c.loop-place.invariant
