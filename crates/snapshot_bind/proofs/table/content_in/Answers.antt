use Rattle.std.proofs.Common.{sym, ap, Some, ◌∙◌}
use Rattle.std.proofs.lemmas.Cmp.{nat_list_cmp_total}
use Rattle.snapshot_bind.specs.SideStore.{content_key}
use Rattle.plain_data.proofs.RowFacts.{find_at, find_gap}
use Rattle.snapshot_bind.proofs.table.content_in.Goals as goal

pub returns-in-Ok : goal.returns-in-Ok
returns-in-Ok c = ap Some c.index-rows-at.is ∙ sym (find_at nat_list_cmp_total content_key _ _ _ c.index-rows-at.result c.in-Ok.ensures.at)

pub returns-in-Err : goal.returns-in-Err
returns-in-Err c = sym (find_gap nat_list_cmp_total content_key _ _ _ c.requires c.in-Err.ensures.gap)
