use Rattle.std.proofs.Common.{sym, subst, ◌∙◌}
use Rattle.plain_data.proofs.RowFacts.{rising_without, without_at, without_gap}
use Rattle.volume_index.specs.VolumeOrders.{AreInOrder, by_owner}
use Rattle.volume_index.proofs.VolumeOrders.{by_owner_total}
use Rattle.volume_index.proofs.lists.take_by_owner.Goals as goal

pub returns-in-Ok-clause-without : goal.returns-in-Ok-clause-without
returns-in-Ok-clause-without c =
    let at = rw c.deref.ensures.value at c.in-Ok.ensures.at in
    c.remove.ensures.items ∙ sym (without_at by_owner_total (λ v. v) c.args.volume.now _ c.in-Ok.at at)

pub returns-in-Ok-clause-order : goal.returns-in-Ok-clause-order
returns-in-Ok-clause-order c =
    let at = rw c.deref.ensures.value at c.in-Ok.ensures.at in
    rw c.remove.ensures.items (subst (AreInOrder by_owner) (without_at by_owner_total (λ v. v) c.args.volume.now _ c.in-Ok.at at)
    (rising_without by_owner_total (λ v. v) c.args.volume.now _ c.requires))

pub returns-in-Err-clause-without : goal.returns-in-Err-clause-without
returns-in-Err-clause-without c =
    let gap = rw c.deref.ensures.value at c.in-Err.ensures.gap in
    sym (without_gap by_owner_total (λ v. v) c.args.volume.now _ c.in-Err.field-0 c.requires gap)
