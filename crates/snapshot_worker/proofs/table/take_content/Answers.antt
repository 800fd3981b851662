use Rattle.std.proofs.Common.{sym, subst, ◌∙◌}
use Rattle.std.proofs.lemmas.Cmp.{nat_list_cmp_total}
use Rattle.plain_data.proofs.RowFacts.{rising_without, without_at, without_gap}
use Rattle.snapshot_worker.specs.Steps.Kept.{AreSeenContents}
use Rattle.snapshot_worker.specs.Workers.{seen_name}
use Rattle.snapshot_worker.proofs.table.take_content.Goals as goal

pub returns-in-Ok-clause-without : goal.returns-in-Ok-clause-without
returns-in-Ok-clause-without c =
    let at = rw c.deref.ensures.value at c.in-Ok.ensures.at in
    c.remove.ensures.items ∙ sym (without_at nat_list_cmp_total seen_name _ _ _ at)

pub returns-in-Ok-clause-rising : goal.returns-in-Ok-clause-rising
returns-in-Ok-clause-rising c =
    let at = rw c.deref.ensures.value at c.in-Ok.ensures.at in
    rw c.remove.ensures.items (subst AreSeenContents (without_at nat_list_cmp_total seen_name _ _ _ at) (rising_without nat_list_cmp_total seen_name c.args.name.now _ c.requires))

pub returns-in-Err-clause-without : goal.returns-in-Err-clause-without
returns-in-Err-clause-without c =
    let gap = rw c.deref.ensures.value at c.in-Err.ensures.gap in
    sym (without_gap nat_list_cmp_total seen_name _ _ _ c.requires gap)
