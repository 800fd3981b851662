-- What an audit answers.
use Rattle.std.proofs.Common.{◌≡◌, ℕ, List, Ok, length, reverse, refl}
use Rattle.binder_model.specs.Safe.{Safe}
use Rattle.call_types.specs.declared.histories.History.{History}
use Rattle.history_read.specs.Grammar.{history_of}
use Rattle.history_laws.proofs.Read.ReadGives.{read_is_only}
use Rattle.audit_check.specs.declared.verdict.Verdict.{Verdict}
use Rattle.audit_check.specs.declared.verdict.Verdict.TheVariants.{Yes, No}
use Rattle.audit_check.specs.Verdicts.{IsVerdict}
use Rattle.binder_console.specs.declared.commands.Task.TheVariants.{Audit}
use Rattle.binder_console.specs.Audits.{Audits, verdict_status, verdict_text}
use Rattle.binder_console.specs.Outcomes.{IsAnswer, answer_judged}

by_verdict : (verdict : Verdict) (input text : List ℕ) → Audits (verdict_status verdict) input text → IsAnswer Audit input (answer_judged verdict text)
by_verdict Yes input text h = h
by_verdict (No number rule) input text h = h

pub audit_answers : (input text : List ℕ) (history : History) (verdict : Verdict)
    → history_of input ≡ Ok history → IsVerdict history.setup history.entries verdict
    → (verdict ≡ Yes → Safe history.setup (reverse history.entries)) → text ≡ verdict_text verdict (length history.entries)
    → IsAnswer Audit input (answer_judged verdict text)
audit_answers input text history verdict read judged safe printed = by_verdict verdict input text (record {
  history = history;
  verdict = verdict;
  read = read;
  only = λ setup entries given has. read_is_only input history setup entries read given has;
  judged = judged;
  safe = safe;
  printed = printed;
  ends = refl;
})
