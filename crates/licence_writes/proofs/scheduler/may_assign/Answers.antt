use Rattle.std.proofs.Common.{subst}
use Rattle.kube_objects.specs.declared.objects.Object.TheVariants.{Node}
use Rattle.binder_model.specs.ObjectKeys.{node_key}
use Rattle.binder_model.specs.Told.{IsNewest}
use Rattle.licence_record.proofs.Judging.{lift}
use Rattle.licence_rows.proofs.Picks.{assign_row}
use Rattle.licence_writes.proofs.scheduler.may_assign.Goals as goal

pub returns-in-Some-newest_node : goal.returns-in-Some-newest_node
returns-in-Some-newest_node g c =
    let mine = g.R.Record.told c.args.seat.now in
    let on = c.in-Some-newest_node.on.now in
    let node_newest = subst (λ n. IsNewest mine (node_key n) (Node on)) c.as_str.ensures c.in-Some-newest_node.ensures.some in
    lift _ _ _ _ (λ b is. assign_row mine c.args.key.now c.args.uid c.args.node.now c.in-Some.pod.now on b c.in-Some.ensures.some node_newest is) c.is_assignable.ensures
