use Rattle.std.proofs.Common.{refl, sym, ap, ◌∙◌, slice_set}
use Rattle.kube_objects.proofs.KeyOrder.{key_cmp_total}
use Rattle.plain_data.proofs.RowFacts.{find_gap, put_gap}
use Rattle.side_calls.specs.declared.sizes.SizeRow.{SizeRow}
use Rattle.expand_ops.specs.Growing.{grown_row, grown_rows}
use Rattle.expand_ops.specs.Sizes.{size_key}
use Rattle.std.specs.Prelude.{Option}
use Rattle.expand_ops.proofs.Grown.{grown_at}
use Rattle.expand_ops.proofs.rows.put_grown.Goals as goal

pub returns-in-Ok-clause-ok : goal.returns-in-Ok-clause-ok
returns-in-Ok-clause-ok c =
    let at = rw c.deref.ensures.value at c.in-Ok.ensures.at in
    ap (λ (y : SizeRow). slice_set c.args.rows.now.items c.in-Ok.at (record y { asked = c.args.first.asked })) c.index_mut.ensures.value
    ∙ sym (grown_at c.args.first c.args.rows.now.items c.in-Ok.at c.index_mut.result.now at)

pub returns-in_ok-insert-in-Err-clause-ok : goal.returns-in_ok-insert-in-Err-clause-ok
returns-in_ok-insert-in-Err-clause-ok c =
    let gap = rw c.deref.ensures.value at c.in-Err.ensures.gap in
    let none = find_gap key_cmp_total size_key c.args.first.key _ _ c.requires gap in
    c.in_ok-insert-in-Err.ensures.items ∙ sym (put_gap key_cmp_total size_key c.args.first.key c.args.first refl _ _ gap)
    ∙ sym (ap (λ (o : Option SizeRow). grown_rows (grown_row o c.args.first c.args.first.asked) c.args.rows.now.items) none)
