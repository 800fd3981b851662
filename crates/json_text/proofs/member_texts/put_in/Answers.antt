use Rattle.std.proofs.Common.{sym, refl, subst, ◌∙◌}
use Rattle.std.proofs.lemmas.Cmp.{nat_list_cmp_total}
use Rattle.plain_data.specs.Pairs.{pair_key, ArePairs}
use Rattle.plain_data.proofs.RowFacts.{put_at, put_gap, rising_put}
use Rattle.json_text.proofs.member_texts.put_in.Goals as goal

pub returns-in-Ok-clause-ok : goal.returns-in-Ok-clause-ok
returns-in-Ok-clause-ok c =
    let at = rw (c.deref.ensures.value, c.name.ensures) at c.in-Ok.ensures.at in
    sym (put_at nat_list_cmp_total pair_key _ c.args.row refl _ _ at)

pub returns-in-Ok-clause-rising : goal.returns-in-Ok-clause-rising
returns-in-Ok-clause-rising c =
    let at = rw (c.deref.ensures.value, c.name.ensures) at c.in-Ok.ensures.at in
    subst ArePairs (put_at nat_list_cmp_total pair_key _ c.args.row refl _ _ at) (rising_put nat_list_cmp_total pair_key c.args.row _ c.requires)

pub returns-in_ok-insert-in-Err-clause-ok : goal.returns-in_ok-insert-in-Err-clause-ok
returns-in_ok-insert-in-Err-clause-ok c =
    let gap = rw (c.deref.ensures.value, c.name.ensures) at c.in-Err.ensures.gap in
    c.in_ok-insert-in-Err.ensures.items ∙ sym (put_gap nat_list_cmp_total pair_key _ c.args.row refl _ _ gap)

pub returns-in_ok-insert-in-Err-clause-rising : goal.returns-in_ok-insert-in-Err-clause-rising
returns-in_ok-insert-in-Err-clause-rising c =
    let gap = rw (c.deref.ensures.value, c.name.ensures) at c.in-Err.ensures.gap in
    rw (c.in_ok-insert-in-Err.ensures.items) (subst ArePairs (put_gap nat_list_cmp_total pair_key _ c.args.row refl _ _ gap) (rising_put nat_list_cmp_total pair_key c.args.row _ c.requires))
