use Rattle.std.proofs.Common.{sym, ap, Some, ◌∙◌}
use Rattle.snapshot_bind.proofs.Orders.{snap_cmp_total}
use Rattle.snapshot_bind.specs.SideStore.{snapshot_key}
use Rattle.plain_data.proofs.RowFacts.{find_at, find_gap}
use Rattle.snapshot_bind.proofs.table.snapshot_in.Goals as goal

pub returns-in-Ok : goal.returns-in-Ok
returns-in-Ok c = ap Some c.index-rows-at.is ∙ sym (find_at snap_cmp_total snapshot_key _ _ _ c.index-rows-at.result c.in-Ok.ensures.at)

pub returns-in-Err : goal.returns-in-Err
returns-in-Err c = sym (find_gap snap_cmp_total snapshot_key _ _ _ c.requires c.in-Err.ensures.gap)
