use Rattle.std.proofs.Common.{◌≡◌, ◌∙◌, arith, subst}
use Rattle.std.specs.Option.{option_copied}
use Rattle.delayed_binding.specs.Choices.{AreAdmitted}
use Rattle.delayed_binding.specs.Steps.Scans.{IsNodeAt}
use Rattle.delayed_binding.proofs.Rounds.{found_first, none_found}
use Rattle.delayed_binding.proofs.nodes.first_admitted.Goals as goal

pub returns-in-Some : goal.returns-in-Some
returns-in-Some g c =
    let rows = g.L.Lookup.rows c.args.lookup.now in
    let here = subst (λ o. IsNodeAt rows (AreAdmitted rows c.args.claims.now) c.loop-place.place (option_copied o)) c.in-Some.is c.admitted_at.ensures in
    found_first rows c.count-place-end.ensures.order (AreAdmitted rows c.args.claims.now) c.loop-place.place c.in-Some.node.now here.0 here.1 c.loop-place.invariant

pub returns : goal.returns
returns g c =
    let same : c.loop-place.place ≡ c.count-place-end.result = omega arith in
    none_found (g.L.Lookup.rows c.args.lookup.now) c.count-place-end.ensures.order
    (AreAdmitted (g.L.Lookup.rows c.args.lookup.now) c.args.claims.now) c.loop-place.place (same ∙ c.count-place-end.ensures.count) c.loop-place.invariant
