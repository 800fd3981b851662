use Rattle.std.proofs.Common.{◌≡◌, ◌∙◌, ◌∷◌, ap, arith, subst, if◌then◌else◌}
use Rattle.kube_parts.specs.declared.parts.Kind.TheVariants as kinds
use Rattle.kube_objects.specs.Keys.{rows_of}
use Rattle.delayed_binding.specs.Steps.Places.{is_in_namespace}
use Rattle.delayed_binding.specs.Steps.Sharing.{AreSame}
use Rattle.delayed_binding.proofs.Scanning.{aside_end, aside_step}
use Rattle.delayed_binding.proofs.volumes.set_aside.Goals as goal

pub loop-place-preserved : goal.loop-place-preserved
loop-place-preserved g c =
    let os = rows_of kinds.PersistentVolume (g.L.Lookup.rows c.args.lookup.now) in
    let i = c.loop-place.place in
    let xs = c.loop-place.places in
    let aside = c.is_in_namespace-aside.ensures ∙ ap is_in_namespace c.at.ensures.object in
    let after = c.note_if.new.places in
    let more = subst (λ b. AreSame after (if b then i ∷ xs else xs)) aside c.in_ok-note_if.ensures in
    λ k. aside_step os i xs after more k ∙ c.loop-place.invariant k

pub returns-clause-places : goal.returns-clause-places
returns-clause-places g c =
    let os = rows_of kinds.PersistentVolume (g.L.Lookup.rows c.args.lookup.now) in
    let same : c.loop-place.place ≡ c.count-place-end.result = omega arith in
    aside_end os c.loop-place.place c.loop-place.places _ (same ∙ c.count-place-end.ensures.count) c.loop-place.invariant
