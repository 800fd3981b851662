use Rattle.std.proofs.Common.{◌≡◌, ◌∙◌, ◌++◌, ◌==◌, ap, map, rules, tests}
use Rattle.std.specs.Slice.Iter as slice
use Rattle.std.proofs.lemmas.Iterator.Adapters.{fact_from_extend}
use Rattle.std.proofs.lemmas.Iterator.Splits.{YieldsList-from_slice_split}
use Rattle.script_text.proofs.reading.lines_of.Goals as goal

pub returns : goal.returns
returns c =
    let all =
    fact_from_extend {steps = slice.split_steps _} (λ line. line.now) c.extend.result c.extend.ensures.ran
    (λ it same. YieldsList-from_slice_split {s = it} _ (λ b. b == 10) c.args.text.now (ap slice.split_rest same ∙ c.split.ensures.rest)
    (ap slice.split_done same ∙ c.split.ensures.done) (ap slice.split_callee same ∙ c.split.ensures.closure) (λ x r q k. search (rules, tests)))
    (λ xs e h. ap (map (λ line. line.now)) (h.0 ∙ ap (λ lines. lines ++ xs) c.in_ok-lines.ensures.items) ∙ e) in
    rw c.in_ok-extend.was at all
