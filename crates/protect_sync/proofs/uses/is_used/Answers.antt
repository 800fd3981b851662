use Rattle.std.proofs.Common.{◌∙◌, Option, sym, ap}
use Rattle.kube_parts.specs.declared.parts.Kind.TheVariants as kinds
use Rattle.kube_objects.specs.declared.objects.Object.{Object}
use Rattle.kube_objects.specs.Keys.{rows_of}
use Rattle.protect_sync.specs.Steps.Pods.{is_used_by}
use Rattle.protect_sync.proofs.Scanning.{found_at, of_pods, passed_at}
use Rattle.protect_sync.proofs.uses.is_used.Goals as goal

pub loop-place-init : goal.loop-place-init
loop-place-init g c = of_pods c.args.claim.now (g.L.Lookup.rows c.args.lookup.now)

pub returns-then-is_used_by : goal.returns-then-is_used_by
returns-then-is_used_by g c =
    let here = sym (ap (λ (o : Option Object). is_used_by c.args.claim.now o) c.at.ensures.object) ∙ (sym c.is_used_by.ensures ∙ c.if-is_used_by.true) in
    sym (sym c.loop-place.invariant ∙ found_at c.args.claim.now (rows_of kinds.Pod (g.L.Lookup.rows c.args.lookup.now)) c.loop-place.place here)

pub loop-place-preserved : goal.loop-place-preserved
loop-place-preserved g c =
    let here = sym (ap (λ (o : Option Object). is_used_by c.args.claim.now o) c.at.ensures.object) ∙ (sym c.is_used_by.ensures ∙ c.if-is_used_by.false) in
    passed_at c.args.claim.now (rows_of kinds.Pod (g.L.Lookup.rows c.args.lookup.now)) c.loop-place.place here ∙ c.loop-place.invariant
