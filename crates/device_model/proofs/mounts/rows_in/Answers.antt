use Rattle.std.proofs.Common.{sym, ◌∙◌}
use Rattle.device_model.proofs.NodeLists.{rows_at, rows_gap}
use Rattle.device_model.proofs.mounts.rows_in.Goals as goal

pub returns-in-Ok : goal.returns-in-Ok
returns-in-Ok c = c.deref.ensures.value ∙ sym (rows_at c.args.node.now c.args.nodes.now c.in-Ok.at _ c.requires c.in-Ok.ensures.at)

pub returns-in-Err : goal.returns-in-Err
returns-in-Err c = sym (rows_gap c.args.node.now c.args.nodes.now _ c.requires c.in-Err.ensures.gap)
