use Rattle.std.proofs.Common.{◌∙◌, sym, subst}
use Rattle.std.proofs.lemmas.Cmp.{nat_list_cmp_total}
use Rattle.plain_data.proofs.RowFacts.{rising_put}
use Rattle.script_text.specs.Steps.Numbers.{row_name, AreNumbers}
use Rattle.script_text.proofs.NumberRows.{put_found, put_absent}
use Rattle.script_text.proofs.numbers.put_number.Goals as goal

pub returns-in_ok-push-in-Ok-clause-ok : goal.returns-in_ok-push-in-Ok-clause-ok
returns-in_ok-push-in-Ok-clause-ok c =
    let at = rw (c.deref.ensures.value, c.as_str.ensures) at c.in-Ok.ensures.at in
    put_found c.args.rows.now.items c.args.name.now c.args.number c.in-Ok.at c.index_mut.result.now _ at c.index_mut.ensures.value c.in_ok-push-in-Ok.ensures.ok

pub returns-in_ok-push-in-Ok-clause-rising : goal.returns-in_ok-push-in-Ok-clause-rising
returns-in_ok-push-in-Ok-clause-rising c =
    let at = rw (c.deref.ensures.value, c.as_str.ensures) at c.in-Ok.ensures.at in
    subst AreNumbers (sym (put_found c.args.rows.now.items c.args.name.now c.args.number c.in-Ok.at c.index_mut.result.now _ at
    c.index_mut.ensures.value c.in_ok-push-in-Ok.ensures.ok)) (rising_put nat_list_cmp_total row_name _ _ c.requires)

pub returns-in_ok-insert-in-Err-clause-ok : goal.returns-in_ok-insert-in-Err-clause-ok
returns-in_ok-insert-in-Err-clause-ok c =
    let gap = rw (c.deref.ensures.value, c.as_str.ensures) at c.in-Err.ensures.gap in
    c.in_ok-insert-in-Err.ensures.items ∙ put_absent c.args.rows.now.items c.args.name.now c.args.number c.in-Err.at _ c.requires gap
    c.in_ok-name-in-Err.ensures (rw c.new-numbers.ensures at c.in_ok-push-in-Err.ensures.ok)

pub returns-in_ok-insert-in-Err-clause-rising : goal.returns-in_ok-insert-in-Err-clause-rising
returns-in_ok-insert-in-Err-clause-rising c =
    let gap = rw (c.deref.ensures.value, c.as_str.ensures) at c.in-Err.ensures.gap in
    subst AreNumbers (sym (c.in_ok-insert-in-Err.ensures.items ∙ put_absent c.args.rows.now.items c.args.name.now c.args.number c.in-Err.at _
    c.requires gap c.in_ok-name-in-Err.ensures (rw c.new-numbers.ensures at c.in_ok-push-in-Err.ensures.ok))) (rising_put nat_list_cmp_total row_name _ _ c.requires)
