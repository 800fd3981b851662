use Rattle.std.proofs.Common.{sym, refl, subst, ◌∙◌}
use Rattle.std.proofs.lemmas.Cmp.{nat_list_cmp_total}
use Rattle.informer_cache.specs.Marks.{space_name, AreSpaces}
use Rattle.plain_data.proofs.RowFacts.{put_at, put_gap, rising_put}
use Rattle.informer_cache.proofs.lists.put_in.Goals as goal

pub returns-in-Ok-clause-ok : goal.returns-in-Ok-clause-ok
returns-in-Ok-clause-ok c =
    let at = rw c.deref.ensures.value at c.in-Ok.ensures.at in
    sym (put_at nat_list_cmp_total space_name _ c.args.space refl _ _ at)

pub returns-in-Ok-clause-rising : goal.returns-in-Ok-clause-rising
returns-in-Ok-clause-rising c =
    let at = rw c.deref.ensures.value at c.in-Ok.ensures.at in
    subst AreSpaces (put_at nat_list_cmp_total space_name _ c.args.space refl _ _ at) (rising_put nat_list_cmp_total space_name c.args.space _ c.requires)

pub returns-in_ok-insert-in-Err-clause-ok : goal.returns-in_ok-insert-in-Err-clause-ok
returns-in_ok-insert-in-Err-clause-ok c =
    let gap = rw c.deref.ensures.value at c.in-Err.ensures.gap in
    c.in_ok-insert-in-Err.ensures.items ∙ sym (put_gap nat_list_cmp_total space_name _ c.args.space refl _ _ gap)

pub returns-in_ok-insert-in-Err-clause-rising : goal.returns-in_ok-insert-in-Err-clause-rising
returns-in_ok-insert-in-Err-clause-rising c =
    let gap = rw c.deref.ensures.value at c.in-Err.ensures.gap in
    rw (c.in_ok-insert-in-Err.ensures.items) (subst AreSpaces (put_gap nat_list_cmp_total space_name _ c.args.space refl _ _ gap) (rising_put nat_list_cmp_total space_name c.args.space _ c.requires))
