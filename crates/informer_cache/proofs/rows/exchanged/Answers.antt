use Rattle.std.proofs.Common.{Some, ap, sym, ◌∙◌}
use Rattle.kube_objects.specs.Keys.{key_of}
use Rattle.kube_objects.proofs.KeyOrder.{key_cmp_total}
use Rattle.plain_data.proofs.RowFacts.{find_at, find_gap, put_at, put_gap}
use Rattle.informer_cache.proofs.rows.exchanged.Goals as goal

pub returns-in-Ok-clause-before : goal.returns-in-Ok-clause-before
returns-in-Ok-clause-before c =
    let at = rw c.deref.ensures.value at c.in-Ok.ensures.at in
    ap (λ o. Some o) (c.replace.ensures.value ∙ c.index_mut.ensures.value) ∙ sym (find_at key_cmp_total key_of c.args.key.now c.args.objects.now.items _ _ at)

pub returns-in-Ok-clause-ok : goal.returns-in-Ok-clause-ok
returns-in-Ok-clause-ok c =
    let at = rw c.deref.ensures.value at c.in-Ok.ensures.at in
    rw c.replace.ensures.after (sym (put_at key_cmp_total key_of c.args.key.now c.args.object c.requires.key _ _ at))

pub returns-in_ok-insert-in-Err-clause-before : goal.returns-in_ok-insert-in-Err-clause-before
returns-in_ok-insert-in-Err-clause-before c =
    let gap = rw c.deref.ensures.value at c.in-Err.ensures.gap in
    sym (find_gap key_cmp_total key_of c.args.key.now c.args.objects.now.items _ c.requires.rows gap)

pub returns-in_ok-insert-in-Err-clause-ok : goal.returns-in_ok-insert-in-Err-clause-ok
returns-in_ok-insert-in-Err-clause-ok c =
    let gap = rw c.deref.ensures.value at c.in-Err.ensures.gap in
    c.in_ok-insert-in-Err.ensures.items ∙ sym (put_gap key_cmp_total key_of c.args.key.now c.args.object c.requires.key _ _ gap)
