use Rattle.std.proofs.Common.{rules, ap₂, ◌≡◌, ◌∙◌}
use Rattle.std.proofs.lemmas.Result.{IfOk-weaker}
use Rattle.clap.specs.Words.{app_of, rule_of, with_rule}
use Rattle.command_words.specs.Steps.Line.{bare_line, command_rule}
use Rattle.command_words.proofs.reading.line.Goals as goal

pub returns : goal.returns
returns c =
    let command_is : rule_of c.action-command.result ≡ command_rule = search rules in
    let one : app_of c.in_ok-arg.field-0 ≡ with_rule bare_line command_rule = c.in_ok-arg.ensures.shape (search rules) ∙ ap₂ with_rule c.bare_line.ensures command_is in
    let two = c.in_ok-arg-2.ensures.shape c.option.ensures.local ∙ ap₂ with_rule one c.option.ensures.rule in
    let three = c.in_ok-arg-3.ensures.shape c.option-2.ensures.local ∙ ap₂ with_rule two c.option-2.ensures.rule in
    let four = c.in_ok-arg-4.ensures.shape c.option-3.ensures.local ∙ ap₂ with_rule three c.option-3.ensures.rule in
    IfOk-weaker c.arg-5.result _ _ (λ l h. h.shape c.option-4.ensures.local ∙ ap₂ with_rule four c.option-4.ensures.rule) c.arg-5.ensures
