use Rattle.std.proofs.Common.{subst}
use Rattle.kube_objects.specs.declared.objects.Object.TheVariants.{Node}
use Rattle.binder_model.specs.ObjectKeys.{node_key}
use Rattle.binder_model.specs.Told.{IsNewest}
use Rattle.licence_record.proofs.Judging.{exact}
use Rattle.licence_writes.proofs.Scheduling.{node_row}
use Rattle.licence_writes.proofs.scheduler.is_node_told.Goals as goal

pub returns-in-Some : goal.returns-in-Some
returns-in-Some g c =
    let mine = g.R.Record.told c.args.seat.now in
    exact _ _ _ (node_row mine c.args.name.now c.in-Some.node.now _ (subst (λ n. IsNewest mine (node_key n) (Node c.in-Some.node.now)) c.as_str.ensures c.in-Some.ensures.some) c.same.ensures)
