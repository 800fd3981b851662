use Rattle.std.proofs.Common.{◌∙◌, arith, ap}
use Rattle.kube_parts.specs.declared.parts.Kind.TheVariants as kinds
use Rattle.kube_objects.specs.Keys.{rows_of}
use Rattle.delayed_binding.specs.Steps.Counts.{one_less}
use Rattle.delayed_binding.proofs.Enough.{count_next}
use Rattle.delayed_binding.proofs.counts.are_fewer.Goals as goal

pub loop-place-preserved : goal.loop-place-preserved
loop-place-preserved g c =
    count_next c.args.one.now c.args.node.now
    (rows_of kinds.PersistentVolume (g.L.Lookup.rows c.args.lookup.now)) c.loop-place.place c.loop-place.left c.one_less-left.result
    c.args.wanted (omega (arith, c.if-left-eq0.false)) (c.one_less-left.ensures ∙ ap (λ b. one_less b c.loop-place.left) c.gives_at.ensures) c.loop-place.invariant
