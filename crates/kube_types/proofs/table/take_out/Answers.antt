use Rattle.std.proofs.Common.{sym, subst, ap, Some, ◌∙◌}
use Rattle.plain_data.proofs.RowFacts.{find_at, find_gap, without_at, without_gap, rising_without}
use Rattle.kube_objects.specs.Keys.{key_of, AreRows}
use Rattle.kube_objects.proofs.KeyOrder.{key_cmp_total}
use Rattle.kube_types.proofs.table.take_out.Goals as goal

pub returns-in-Ok-clause-taken : goal.returns-in-Ok-clause-taken
returns-in-Ok-clause-taken c =
    let at = rw c.deref.ensures.value at c.in-Ok.ensures.at in
    ap Some c.remove.ensures.value ∙ sym (find_at key_cmp_total key_of _ _ _ c.remove.result at)

pub returns-in-Ok-clause-without : goal.returns-in-Ok-clause-without
returns-in-Ok-clause-without c =
    let at = rw c.deref.ensures.value at c.in-Ok.ensures.at in
    c.remove.ensures.items ∙ sym (without_at key_cmp_total key_of _ _ _ at)

pub returns-in-Ok-clause-rising : goal.returns-in-Ok-clause-rising
returns-in-Ok-clause-rising c =
    let at = rw c.deref.ensures.value at c.in-Ok.ensures.at in
    rw c.remove.ensures.items (subst AreRows (without_at key_cmp_total key_of _ _ _ at) (rising_without key_cmp_total key_of c.args.key.now _ c.requires))

pub returns-in-Err-clause-taken : goal.returns-in-Err-clause-taken
returns-in-Err-clause-taken c =
    let gap = rw c.deref.ensures.value at c.in-Err.ensures.gap in
    sym (find_gap key_cmp_total key_of _ _ _ c.requires gap)

pub returns-in-Err-clause-without : goal.returns-in-Err-clause-without
returns-in-Err-clause-without c =
    let gap = rw c.deref.ensures.value at c.in-Err.ensures.gap in
    sym (without_gap key_cmp_total key_of _ _ _ c.requires gap)
