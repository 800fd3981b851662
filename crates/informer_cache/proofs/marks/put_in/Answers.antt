use Rattle.std.proofs.Common.{sym, refl, subst, ◌∙◌}
use Rattle.kube_objects.proofs.KeyOrder.{key_cmp_total}
use Rattle.informer_cache.specs.Marks.{mark_key, AreMarks}
use Rattle.plain_data.proofs.RowFacts.{put_at, put_gap, rising_put}
use Rattle.informer_cache.proofs.marks.put_in.Goals as goal

pub returns-in-Ok-clause-ok : goal.returns-in-Ok-clause-ok
returns-in-Ok-clause-ok c =
    let at = rw c.deref.ensures.value at c.in-Ok.ensures.at in
    sym (put_at key_cmp_total mark_key _ c.args.mark refl _ _ at)

pub returns-in-Ok-clause-rising : goal.returns-in-Ok-clause-rising
returns-in-Ok-clause-rising c =
    let at = rw c.deref.ensures.value at c.in-Ok.ensures.at in
    subst AreMarks (put_at key_cmp_total mark_key _ c.args.mark refl _ _ at) (rising_put key_cmp_total mark_key c.args.mark _ c.requires)

pub returns-in_ok-insert-in-Err-clause-ok : goal.returns-in_ok-insert-in-Err-clause-ok
returns-in_ok-insert-in-Err-clause-ok c =
    let gap = rw c.deref.ensures.value at c.in-Err.ensures.gap in
    c.in_ok-insert-in-Err.ensures.items ∙ sym (put_gap key_cmp_total mark_key _ c.args.mark refl _ _ gap)

pub returns-in_ok-insert-in-Err-clause-rising : goal.returns-in_ok-insert-in-Err-clause-rising
returns-in_ok-insert-in-Err-clause-rising c =
    let gap = rw c.deref.ensures.value at c.in-Err.ensures.gap in
    rw (c.in_ok-insert-in-Err.ensures.items) (subst AreMarks (put_gap key_cmp_total mark_key _ c.args.mark refl _ _ gap) (rising_put key_cmp_total mark_key c.args.mark _ c.requires))
