use Rattle.std.proofs.Common.{subst}
use Rattle.kube_objects.specs.declared.objects.Object.TheVariants.{Class}
use Rattle.binder_model.specs.ObjectKeys.{class_key}
use Rattle.binder_model.specs.Told.{IsNewest}
use Rattle.licence_writes.proofs.OpsRows.Providing.{provided_row}
use Rattle.licence_record.proofs.Judging.{lift}
use Rattle.licence_writes.proofs.provision.is_provided.Goals as goal

pub returns-in-Some : goal.returns-in-Some
returns-in-Some g c =
    let mine = g.R.Record.told c.args.seat.now in
    let newest = subst (λ n. IsNewest mine (class_key n) (Class c.in-Some.class.now)) c.class_of_claim.ensures c.in-Some.ensures.some in
    lift _ _ _ _ (λ b is. provided_row mine c.args.claim.now c.args.provisioner.now c.args.labels.now c.in-Some.class.now b newest is) c.is_provided_by.ensures
