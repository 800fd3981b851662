use Rattle.std.proofs.Common.{◌∙◌, sym}
use Rattle.kube_parts.specs.declared.parts.Kind.TheVariants as kinds
use Rattle.kube_objects.specs.Keys.{rows_of}
use Rattle.delayed_binding.proofs.Scanning.{carrier_found, carrier_passed, carriers_are_volumes}
use Rattle.delayed_binding.proofs.volumes.is_carried_at_all.Goals as goal

pub loop-place-init : goal.loop-place-init
loop-place-init g c = carriers_are_volumes c.args.claim.now (g.L.Lookup.rows c.args.lookup.now)

pub returns-then-carries_at : goal.returns-then-carries_at
returns-then-carries_at g c =
    let here = sym c.carries_at.ensures ∙ c.if-carries_at.true in
    sym (sym c.loop-place.invariant ∙ carrier_found c.args.claim.now (rows_of kinds.PersistentVolume (g.L.Lookup.rows c.args.lookup.now)) c.loop-place.place here)

pub loop-place-preserved : goal.loop-place-preserved
loop-place-preserved g c =
    let here = sym c.carries_at.ensures ∙ c.if-carries_at.false in
    carrier_passed c.args.claim.now (rows_of kinds.PersistentVolume (g.L.Lookup.rows c.args.lookup.now)) c.loop-place.place here ∙ c.loop-place.invariant
