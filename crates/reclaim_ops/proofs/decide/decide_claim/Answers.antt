use Rattle.std.proofs.Common.{◌≡◌, ◌∙◌, IfOk, Option, Some, ap, subst, sym}
use Rattle.kube_objects.specs.declared.objects.Claim.{Claim as ClaimData}
use Rattle.kube_objects.specs.declared.objects.Object.{Object}
use Rattle.reclaim_ops.specs.Decisions.{claim_begins, claim_for}
use Rattle.reclaim_ops.proofs.decide.decide_claim.Goals as goal

pub returns-in-Some-Claim : goal.returns-in-Some-Claim
returns-in-Some-Claim g c =
    let rows = g.L.Lookup.rows c.args.lookup.now in
    subst (λ (row : Option Object). IfOk c.first_for.result (λ op. op ≡ claim_begins rows row)) (sym (ap Some c.in-Some-Claim.field-0-is) ∙ c.in-Some-Claim.ensures.object)
    (subst (λ (claim : ClaimData). IfOk c.first_for.result (λ op. op ≡ claim_for rows claim)) c.deref.ensures c.first_for.ensures)
