use Rattle.std.proofs.Common.{◌≡◌, ◌∙◌, sym, arith}
use Rattle.delayed_binding.proofs.Alike.{alike_all, alike_next}
use Rattle.delayed_binding.proofs.volumes.are_alike.Goals as goal

pub loop-place-preserved : goal.loop-place-preserved
loop-place-preserved g c =
    alike_next (g.L.Lookup.rows c.args.lookup.now) c.args.one.now c.args.other.now c.loop-place.place c.loop-place.invariant (sym c.alike_at.ensures ∙ c.if-not-alike_at.false)

pub returns : goal.returns
returns g c =
    let same : c.loop-place.place ≡ c.count-place-end.result = omega arith in
    alike_all (g.L.Lookup.rows c.args.lookup.now) c.args.one.now c.args.other.now c.loop-place.place (same ∙ c.count-place-end.ensures.count) c.loop-place.invariant
