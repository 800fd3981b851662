use Rattle.std.proofs.Common.{◌∙◌, sym}
use Rattle.kube_parts.specs.declared.parts.Kind.TheVariants as kinds
use Rattle.kube_objects.specs.Keys.{rows_of}
use Rattle.delayed_binding.proofs.Scanning.{admission_failed, admission_passed, admitting_are_volumes}
use Rattle.delayed_binding.proofs.volumes.all_admit.Goals as goal

pub loop-place-init : goal.loop-place-init
loop-place-init g c = admitting_are_volumes c.args.node.now c.args.claim.now (g.L.Lookup.rows c.args.lookup.now)

pub returns-then-not-admits_at : goal.returns-then-not-admits_at
returns-then-not-admits_at g c =
    let here = sym c.admits_at.ensures ∙ c.if-not-admits_at.true in
    sym (sym c.loop-place.invariant ∙ admission_failed c.args.node.now c.args.claim.now (rows_of kinds.PersistentVolume (g.L.Lookup.rows c.args.lookup.now)) c.loop-place.place here)

pub loop-place-preserved : goal.loop-place-preserved
loop-place-preserved g c =
    let here = sym c.admits_at.ensures ∙ c.if-not-admits_at.false in
    admission_passed c.args.node.now c.args.claim.now (rows_of kinds.PersistentVolume (g.L.Lookup.rows c.args.lookup.now)) c.loop-place.place here ∙ c.loop-place.invariant
