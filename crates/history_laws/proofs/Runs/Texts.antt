-- What is printed of a history that a text can give has it alone.
use Rattle.std.proofs.Common.{sym, subst}
use Rattle.std.specs.Prelude.{ℕ, List}
use Rattle.call_types.specs.declared.entry.Entry.{Entry}
use Rattle.call_types.specs.declared.setup.Setup.{Setup}
use Rattle.history_text.specs.Output.{with_lines, history_text}
use Rattle.history_laws.specs.Read.Given.{IsTextHistory}
use Rattle.history_laws.specs.Read.Texts.{IsTextOf}
use Rattle.history_text.proofs.Joined.{joined, with_joined}
use Rattle.history_laws.proofs.Read.TextsRead.{printed_text}
use Rattle.history_laws.proofs.Read.OneHistory.{one_history}
use Rattle.history_laws.specs.Runs.Laws.{HasOneHistory}

pub has_one : (s : Setup) (es : List Entry) (lines : List (List ℕ)) → IsTextHistory s es → HasOneHistory (with_lines (history_text s es) lines) s es
has_one s es lines is =
    let has = subst (λ (text : List ℕ). IsTextOf text s es) (sym (with_joined (history_text s es) lines)) (printed_text s es (joined lines)) in
    record { given = is; has = has; only = λ other others also has_too. one_history (with_lines (history_text s es) lines) other s others es also is has_too has }
