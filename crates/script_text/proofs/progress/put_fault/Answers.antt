use Rattle.std.proofs.Common.{◌∙◌, sym, refl, subst}
use Rattle.std.proofs.lemmas.Cmp.{nat_cmp_total}
use Rattle.plain_data.proofs.RowFacts.{put_gap, rising_put}
use Rattle.script_text.specs.Steps.Indexed.{AreFaults}
use Rattle.script_text.proofs.Faults.{put_same}
use Rattle.script_text.proofs.progress.put_fault.Goals as goal

pub returns-in-Ok-clause-ok : goal.returns-in-Ok-clause-ok
returns-in-Ok-clause-ok c =
    let at = rw c.deref.ensures.value at c.in-Ok.ensures.at in
    sym (put_same c.args.call _ _ at)

pub returns-in_ok-insert-in-Err-clause-ok : goal.returns-in_ok-insert-in-Err-clause-ok
returns-in_ok-insert-in-Err-clause-ok c =
    let gap = rw c.deref.ensures.value at c.in-Err.ensures.gap in
    c.in_ok-insert-in-Err.ensures.items ∙ sym (put_gap nat_cmp_total (λ n. n) _ c.args.call refl _ _ gap)

pub returns-in_ok-insert-in-Err-clause-rising : goal.returns-in_ok-insert-in-Err-clause-rising
returns-in_ok-insert-in-Err-clause-rising c =
    let gap = rw c.deref.ensures.value at c.in-Err.ensures.gap in
    rw (c.in_ok-insert-in-Err.ensures.items) (subst AreFaults (put_gap nat_cmp_total (λ n. n) _ c.args.call refl _ _ gap) (rising_put nat_cmp_total (λ n. n) c.args.call _ c.requires))
