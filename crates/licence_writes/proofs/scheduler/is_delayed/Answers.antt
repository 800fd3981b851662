use Rattle.std.proofs.Common.{subst}
use Rattle.kube_objects.specs.declared.objects.Object.TheVariants.{Class}
use Rattle.binder_model.specs.ObjectKeys.{class_key}
use Rattle.binder_model.specs.Told.{IsNewest}
use Rattle.licence_record.proofs.Judging.{exact}
use Rattle.licence_writes.proofs.Scheduling.{delayed_row}
use Rattle.licence_writes.proofs.scheduler.is_delayed.Goals as goal

pub returns-in-Some : goal.returns-in-Some
returns-in-Some g c =
    let mine = g.R.Record.told c.args.seat.now in
    exact _ _ _ (delayed_row mine c.args.claim.now c.in-Some.class.now (subst (λ n. IsNewest mine (class_key n) (Class c.in-Some.class.now)) c.class_of_claim.ensures c.in-Some.ensures.some))
