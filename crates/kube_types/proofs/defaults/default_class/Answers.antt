use Rattle.std.proofs.Common.{◌≡◌, arith, ◌∙◌}
use Rattle.kube_types.proofs.DefaultScan.{whole}
use Rattle.kube_types.proofs.defaults.default_class.Goals as goal

pub loop-place-init : goal.loop-place-init
loop-place-init g c = λ place below v k. absurd (omega arith)

pub returns : goal.returns
returns g c =
    let same : c.loop-place.place ≡ c.count-place-end.result = omega arith in
    whole (g.L.Lookup.rows c.args.lookup.now) c.count-place-end.ensures.order _ (same ∙ c.count-place-end.ensures.count) _ c.loop-place.invariant
