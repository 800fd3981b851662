use Rattle.std.proofs.Common.{sym, ◌∙◌}
use Rattle.kube_objects.specs.declared.objects.Object.TheVariants.{Claim}
use Rattle.kube_objects.specs.Keys.{key_of}
use Rattle.kube_objects.proofs.KeyOrder.{key_cmp_total}
use Rattle.plain_data.proofs.RowFacts.{without_at, without_gap}
use Rattle.expand_ops.specs.Sizes.{size_key}
use Rattle.expand_ops.proofs.rows.drop_row.Goals as goal

pub returns-in-Ok : goal.returns-in-Ok
returns-in-Ok c =
    let at = rw c.deref.ensures.value at c.in-Ok.ensures.at in
    c.remove.ensures.items ∙ sym (without_at key_cmp_total size_key (key_of (Claim c.args.claim.now)) _ _ at)

pub returns-in-Err : goal.returns-in-Err
returns-in-Err c =
    let gap = rw c.deref.ensures.value at c.in-Err.ensures.gap in
    sym (without_gap key_cmp_total size_key (key_of (Claim c.args.claim.now)) _ _ c.requires gap)
