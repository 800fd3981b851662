use Rattle.std.proofs.Common.{◌≡◌, ◌∙◌, List, [], Ok, length, reverse, ap, sym, subst}
use Rattle.binder_model.specs.Safe.{Safe}
use Rattle.history_read.specs.Grammar.{history_of}
use Rattle.history_text.specs.Output.{with_line}
use Rattle.audit_check.specs.declared.verdict.Verdict.TheVariants.{Yes}
use Rattle.binder_console.specs.declared.commands.Task.TheVariants.{Audit}
use Rattle.binder_console.specs.Audits.{verdict_line, verdict_text}
use Rattle.binder_console.specs.Outcomes.{IsAnswer}
use Rattle.binder_console.proofs.Audited.{audit_answers}
use Rattle.binder_console.proofs.auditing.audited.Goals as goal

pub returns-clause-ok : goal.returns-clause-ok
returns-clause-ok c =
    let h = c.in_ok-history.history in
    let v = c.in_ok-verdict.verdict in
    let read : history_of c.args.input.now ≡ Ok h = c.in_ok-history.ensures.gives in
    let safe : v ≡ Yes → Safe h.setup (reverse h.entries) = λ e. c.in_ok-verdict.ensures.safe (ap Ok e) in
    let printed : c.in_ok-text.text ≡ verdict_text v (length h.entries) =
    c.in_ok-text.ensures ∙ ap (with_line []) (c.as_str.ensures.value ∙ c.in_ok-line.ensures ∙ ap (λ (es : List _). verdict_line v (length es)) c.as_slice.ensures) in
    subst (IsAnswer Audit c.args.input.now) (sym c.answer_judged.ensures) (audit_answers c.args.input.now c.in_ok-text.text h v read c.in_ok-verdict.ensures.verdict safe printed)
