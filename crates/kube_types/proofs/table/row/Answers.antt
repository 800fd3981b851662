use Rattle.std.proofs.Common.{sym, ap, Some, ◌∙◌}
use Rattle.plain_data.proofs.RowFacts.{find_at, find_gap}
use Rattle.kube_objects.specs.Keys.{key_of}
use Rattle.kube_objects.proofs.KeyOrder.{key_cmp_total}
use Rattle.kube_types.proofs.table.row.Goals as goal

pub returns-in-Ok : goal.returns-in-Ok
returns-in-Ok c = ap Some c.index-rows-at.is ∙ sym (find_at key_cmp_total key_of _ _ _ c.index-rows-at.result c.in-Ok.ensures.at)

pub returns-in-Err : goal.returns-in-Err
returns-in-Err c = sym (find_gap key_cmp_total key_of _ _ _ c.requires c.in-Err.ensures.gap)
