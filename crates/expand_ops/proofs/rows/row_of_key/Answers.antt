use Rattle.std.proofs.Common.{Some, sym, ap, ◌∙◌}
use Rattle.kube_objects.proofs.KeyOrder.{key_cmp_total}
use Rattle.plain_data.proofs.RowFacts.{find_at, find_gap}
use Rattle.expand_ops.specs.Sizes.{size_key}
use Rattle.expand_ops.proofs.rows.row_of_key.Goals as goal

pub returns-in-Ok : goal.returns-in-Ok
returns-in-Ok c = ap Some c.index-rows-at.is ∙ sym (find_at key_cmp_total size_key c.args.key.now _ _ c.index-rows-at.result c.in-Ok.ensures.at)

pub returns-in-Err : goal.returns-in-Err
returns-in-Err c = sym (find_gap key_cmp_total size_key c.args.key.now _ _ c.requires c.in-Err.ensures.gap)
