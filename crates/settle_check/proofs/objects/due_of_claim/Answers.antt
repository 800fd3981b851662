use Rattle.std.proofs.Common.{◌≡◌, ◌∙◌, Option, ap}
use Rattle.std.proofs.lemmas.Result.{IfOk-weaker}
use Rattle.kube_parts.specs.declared.names.Due.{Due}
use Rattle.kube_objects.specs.declared.objects.Object.TheVariants.{Claim}
use Rattle.binder_model.specs.BinderDue.{claim_due}
use Rattle.binder_model.specs.Due.{IsDue, claim_guard_due, or_due, provision_due}
use Rattle.binder_model.specs.Store.{State}
use Rattle.settle_check.specs.WorldOf.{world_of}
use Rattle.settle_check.proofs.ClaimSays.{found_first, found_last}
use Rattle.settle_check.proofs.objects.due_of_claim.Goals as goal

pub returns-in-Some : goal.returns-in-Some
returns-in-Some c =
    let claim = c.args.claim.now in
    found_first _ _ _ _ c.in-Some.action (c.kept_due.ensures ∙ ap (λ (s : State). or_due (claim_guard_due s.rows claim) (claim_due s.rows claim)) c.store.ensures) c.in-Some.is

pub returns-in-None : goal.returns-in-None
returns-in-None c =
    let w = c.args.world.now in
    let claim = c.args.claim.now in
    IfOk-weaker c.provision_due.result (λ (action : Option Due). action ≡ provision_due w.setup (world_of w) claim) (IsDue w.setup (world_of w) (Claim claim))
    (λ action is. is ∙ found_last _ _ _ _ (c.kept_due.ensures ∙ ap (λ (s : State). or_due (claim_guard_due s.rows claim) (claim_due s.rows claim))
    c.store.ensures) c.in-None.is) c.provision_due.ensures
