use Rattle.std.proofs.Common.{ap, not, filter, ◌∙◌}
use Rattle.binder_model.specs.Same.{same_uid}
use Rattle.device_model.specs.declared.mounts.NodeRows.{NodeRows}
use Rattle.device_model.proofs.NodeLists.{without_at_node, without_gap, rising_set}
use Rattle.device_model.proofs.mounts.take_out.Goals as goal

pub returns-in-Ok-clause-rows : goal.returns-in-Ok-clause-rows
returns-in-Ok-clause-rows c =
    let at = rw c.deref.ensures.value at c.in-Ok.ensures.at in
    let was = c.index_mut.ensures.value in
    without_at_node c.args.node.now c.args.pod c.args.nodes.now.items c.in-Ok.at c.index_mut.result.now _ c.requires at
    (ap (λ (n : NodeRows). n.node) was) (c.drop_pod.ensures ∙ ap (λ (n : NodeRows). filter (λ r. not (same_uid r.pod c.args.pod)) n.rows.items) was)

pub returns-in-Ok-clause-rising : goal.returns-in-Ok-clause-rising
returns-in-Ok-clause-rising c = rising_set c.args.nodes.now.items c.in-Ok.at c.index_mut.result.now _ (ap (λ (n : NodeRows). n.node) c.index_mut.ensures.value) c.requires

pub returns-in-Err-clause-rows : goal.returns-in-Err-clause-rows
returns-in-Err-clause-rows c =
    let gap = rw c.deref.ensures.value at c.in-Err.ensures.gap in
    without_gap c.args.node.now c.args.pod c.args.nodes.now.items _ c.requires gap
