use Rattle.std.proofs.Common.{rules, subst}
use Rattle.kube_objects.specs.declared.objects.Object.TheVariants.{Claim}
use Rattle.binder_model.specs.ObjectKeys.{claim_key}
use Rattle.binder_model.specs.Told.{IsNewest}
use Rattle.licence_record.proofs.Judging.{lift}
use Rattle.licence_writes.proofs.Scheduling.{ready_row}
use Rattle.licence_writes.proofs.scheduler.is_ready_on.Goals as goal

pub returns-else-not-is_completed : goal.returns-else-not-is_completed
returns-else-not-is_completed g c =
    let mine = g.R.Record.told c.args.seat.now in
    let claim = c.in-Some.claim.now in
    let newest : IsNewest mine (claim_key c.args.namespace.now c.args.name.now) (Claim claim) =
    subst (λ x. IsNewest mine (claim_key c.args.namespace.now x) (Claim claim)) c.as_str-2.ensures
    (subst (λ x. IsNewest mine (claim_key x c.as_str-2.result.now) (Claim claim)) c.as_str.ensures c.in-Some.ensures.some) in
    lift _ _ _ _ (λ b is. ready_row mine c.args.node.now c.args.namespace.now c.args.name.now claim b newest (search rules) is) c.is_admitted.ensures
