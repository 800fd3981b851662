use Rattle.std.proofs.Common.{◌≡◌, ◌∷◌, [], ◌++◌, false, subst, ap, ◌∙◌, append-nil}
use Rattle.plain_data.specs.Pairs.{Pair}
use Rattle.json_text.specs.Splitting.{RowsThen}
use Rattle.json_text.proofs.CanonicalParts.{rows_end, rows_more, rows_step, none_left}
use Rattle.json_text.proofs.member_texts.split_rows.Goals as goal

pub loop-preserved : goal.loop-preserved
loop-preserved c = λ rest more h.
    let row : Pair = (c.in-Some-split_member.name.now, c.in-Some-split_member.value.now) in
    let whole = c.loop.invariant rest (row ∷ more) (rows_more _ _ _ _ _ _ _ _ more c.in-Some-split_member.ensures h) in
    let is_row : c.in-Some-2.row ≡ row = rw c.in-Some-2.is at c.in_ok-row.ensures in
    let pushed : c.push.new.self.items ≡ c.loop.rows.items ++ row ∷ [] = c.in_ok-push.ensures.items ∙ ap (λ (r : Pair). c.loop.rows.items ++ r ∷ []) is_row in
    rows_step c.loop.rows.items more c.push.new.self.items row (λ rows. RowsThen 32 false [] rows rest c.args.text.now) pushed whole

pub returns-then-is_empty : goal.returns-then-is_empty
returns-then-is_empty c =
    let none : c.in-Some.rest.now ≡ [] = none_left c.in-Some.rest.now c.is_empty.result c.is_empty.ensures c.if-is_empty.true in
    let ended = c.loop.invariant [] [] (rows_end _ _ _ [] _ (c.in-Some.ensures ∙ ap (λ s. 125 ∷ s) none)) in
    subst (λ rows. RowsThen 32 false [] rows [] c.args.text.now) (append-nil c.loop.rows.items) ended
