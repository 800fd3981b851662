use Rattle.std.proofs.Common.{ℕ, ◌∙◌, Option, is_some, ap, subst, sym}
use Rattle.kube_objects.specs.Bindings.{is_empty}
use Rattle.claim_sync.specs.ClaimDecision.{IsVolumeFor}
use Rattle.claim_sync.proofs.Assigned.{no_class}
use Rattle.claim_sync.proofs.Says.{bound_there, choice_matches, no_choice}
use Rattle.claim_sync.proofs.decision.decide_claim.Goals as goal

pub claim_step-requires-clause-matched : goal.claim_step-requires-clause-matched
claim_step-requires-clause-matched g c = c.is_match.ensures ∙ choice_matches _ _ _ c.bind_place-place.ensures

pub returns-in-None-clause-step : goal.returns-in-None-clause-step
returns-in-None-clause-step g c =
    let rows = g.L.Lookup.rows c.args.lookup.now in
    let claim = c.args.claim.now in
    absurd (no_choice rows claim c.args.live
    (subst (λ (o : Option ℕ). IsVolumeFor (is_empty claim.volume_name) rows claim o) c.in-None.is c.bind_place-place.ensures) (sym c.claim_step.ensures ∙ c.in-Bind.is))

pub returns-in-None-class-clause-step : goal.returns-in-None-class-clause-step
returns-in-None-class-clause-step g c =
    let rows = g.L.Lookup.rows c.args.lookup.now in
    let claim = c.args.claim.now in
    absurd (no_class rows claim c.args.live (sym c.class_place-class.ensures.some ∙ ap is_some c.in-None-class.is) (sym c.claim_step.ensures ∙ c.in-AssignClass.is))

pub returns-in-Some-clause-volume : goal.returns-in-Some-clause-volume
returns-in-Some-clause-volume g c =
    let rows = g.L.Lookup.rows c.args.lookup.now in
    let claim = c.args.claim.now in
    bound_there rows claim c.args.live c.in-Some.place
    (subst (λ (o : Option ℕ). IsVolumeFor (is_empty claim.volume_name) rows claim o) c.in-Some.is c.bind_place-place.ensures) (sym c.claim_step.ensures ∙ c.in-Bind.is)
