-- The lines of a history among the answers.
use Rattle.std.proofs.Common.{◌≡◌, ℕ, List, [], ◌∷◌, ◌++◌, Bool, Option, Some, None, Result, Ok, Err, refl, sym, ap, subst, ◌∙◌, append_assoc, append-nil, map, reverse}
use Rattle.std.specs.Prelude.{IfSome, codes}
use Rattle.std.proofs.lemmas.List.{map-append, reverse-append}
use Rattle.call_types.specs.declared.entry.Entry.{Entry}
use Rattle.history_text.specs.Entries.{entry_line, setup_line}
use Rattle.history_text.specs.Output.{history_lines}
use Rattle.store_lines.specs.declared.faults.LineFault.{LineFault}
use Rattle.store_lines.specs.declared.reading.StoreLine.{StoreLine}
use Rattle.store_lines.specs.declared.reading.StoreLine.TheVariants as lines
use Rattle.store_lines.specs.Lines.{line_of}
use Rattle.store_server.specs.Answers.{StepAnswer, Begins, Enters, Refuses, Faults}
use Rattle.store_server.specs.Serving.{Opened, Served, AreAnswered, ComesTo, opened_after, served_after, with_entry}
use Rattle.store_serving.specs.Serving.{unserved}
use Rattle.store_serving.specs.Laws.{OneHistoryIsWritten, kept_line, kept_lines}

-- the lines of what has begun
abbrev begun_lines : Option Opened → List (List ℕ)
begun_lines None = []
begun_lines (Some o) = setup_line o.setup ∷ map entry_line (reverse o.past)

-- one entry more is one line more
entry_more : (o : Opened) (e : Entry) → begun_lines (Some (with_entry o e)) ≡ begun_lines (Some o) ++ entry_line e ∷ []
entry_more o e =
    ap (λ (xs : List Entry). setup_line o.setup ∷ map entry_line xs) (reverse-append (e ∷ []) o.past)
    ∙ ap (λ (l : List (List ℕ)). setup_line o.setup ∷ l) (map-append entry_line (reverse o.past) (e ∷ []))

-- the lines after an answer
abbrev Goes : Option Opened → StepAnswer → Type 0
Goes opened answer = begun_lines (opened_after opened answer) ≡ begun_lines opened ++ kept_line answer

goes : (fenced : Bool) (opened : Option Opened) (read : Result StoreLine LineFault) (answer : StepAnswer) → ComesTo fenced opened read answer → Goes opened answer
goes fenced opened (Err fault) answer is = subst (Goes opened) (sym is) (sym (append-nil (begun_lines opened)))
goes fenced None (Ok (lines.Setup s)) answer is = subst (Goes None) (sym is) refl
goes fenced (Some o) (Ok (lines.Setup s)) answer is = subst (Goes (Some o)) (sym is) (sym (append-nil (begun_lines (Some o))))
goes fenced None (Ok (lines.Ask a)) answer is = subst (Goes None) (sym is) refl
goes fenced (Some o) (Ok (lines.Ask a)) (Enters e) is = entry_more o e
goes fenced (Some o) (Ok (lines.Ask a)) (Refuses seat rule) is = sym (append-nil (begun_lines (Some o)))
goes fenced (Some o) (Ok (lines.Ask a)) (Begins s) is = absurd is
goes fenced (Some o) (Ok (lines.Ask a)) (Faults fault) is = absurd is

written : (asked : List (List ℕ)) (answers : List StepAnswer) (s t : Served) → AreAnswered s asked answers t
    → begun_lines t.opened ≡ begun_lines s.opened ++ kept_lines answers
written [] [] s t is = sym (ap (λ (u : Served). begun_lines u.opened) is) ∙ sym (append-nil (begun_lines s.opened))
written [] (a ∷ answers) s t is = absurd is
written (line ∷ asked) [] s t is = absurd is
written (line ∷ asked) (a ∷ answers) s t is =
    written asked answers (served_after s a) t is.1
    ∙ ap (λ (l : List (List ℕ)). l ++ kept_lines answers) (goes s.fenced s.opened (line_of line) a is.0)
    ∙ append_assoc (begun_lines s.opened) (kept_line a) (kept_lines answers)

whole : (opened : Option Opened) (kept : List (List ℕ)) → begun_lines opened ≡ kept → IfSome opened (λ o. kept ++ codes "end" ∷ [] ≡ history_lines o.setup (reverse o.past))
unfolding history_lines
whole None kept is = tt
whole (Some o) kept is = ap (λ (l : List (List ℕ)). l ++ codes "end" ∷ []) (sym is)

pub one_history_is_written : OneHistoryIsWritten
one_history_is_written fenced asked answers s is = whole s.opened (kept_lines answers) (written asked answers (unserved fenced) s is)
