-- The text of a history is read, line by line, as the history.
use Rattle.std.proofs.Common.{◌≡◌, ℕ, ◌+◌, List, [], ◌∷◌, ◌++◌, map, false, Ok, codes, bytes_eq, refl, sym, ap, ◌∙◌, append_assoc, append-nil, arith}
use Rattle.std.specs.List.{All}
use Rattle.std.proofs.lemmas.List.Elements.{All-nil, All-cons, All-head, All-tail}
use Rattle.json_text.specs.Canonical.{IsLine}
use Rattle.json_text.proofs.Lines.{text_line}
use Rattle.call_types.specs.declared.entry.Entry.{Entry}
use Rattle.call_types.specs.declared.setup.Setup.{Setup}
use Rattle.history_text.specs.Entries.{entry_data, entry_line, setup_data, setup_line}
use Rattle.history_text.specs.Output.{with_lines, history_lines, history_text}
use Rattle.history_text.proofs.LineLists.{with_lines_append}
use Rattle.history_lines.specs.Entries.{entry_of, setup_of}
use Rattle.history_read.specs.Grammar.{lines_of, at_line, entries_from, with_setup, history_in}
use Rattle.history_laws.specs.Read.Given.{IsEntry, IsShallow, IsTextHistory}
use Rattle.history_laws.specs.Read.Texts.{lines_before_end, IsRest, IsTextOf, IsLineToRead}
use Rattle.history_laws.specs.Read.Laws.{TextIsRead, PrintedIsRead}
use Rattle.history_laws.proofs.Read.GoodLines.{entry_good, setup_good}
use Rattle.history_laws.proofs.Read.LinesRead.{entry_read, setup_read, line_in}
use Rattle.history_text.proofs.Joined.{with_joined}
use Rattle.history_laws.proofs.Read.Texts.{line_first, lines_first}

-- ---- lines

pub entry_is_line : (e : Entry) → IsEntry e → IsLine (entry_line e)
unfolding entry_line
entry_is_line e is = let good = entry_good e is in text_line (entry_data e) good.canonical

pub entry_lines : (es : List Entry) → All IsEntry es → All IsLine (map entry_line es)
entry_lines [] is = All-nil IsLine
entry_lines (e ∷ es) is = All-cons IsLine (entry_line e) (map entry_line es) (entry_is_line e (All-head IsEntry e es is)) (entry_lines es (All-tail IsEntry e es is))

pub all_lines : (s : Setup) (es : List Entry) → IsTextHistory s es → All IsLine (lines_before_end s es)
unfolding setup_line
all_lines s es is = let good = setup_good s is.setup in All-cons IsLine (setup_line s) (map entry_line es) (text_line (setup_data s) good.canonical) (entry_lines es is.entries)

-- the line of an entry begins with a brace
pub not_end : (e : Entry) → bytes_eq (entry_line e) (codes "end") ≡ false
unfolding entry_line entry_data
not_end e = refl

end_is_line : IsLine (codes "end")
unfolding IsLine
end_is_line = (λ e. absurd (omega (arith, e)), (λ e. absurd (omega (arith, e)), (λ e. absurd (omega (arith, e)), tt)))

-- the line `end` is the first of these, whatever stands behind it
pub end_first : (rest : List ℕ) → IsRest rest → (lines : List (List ℕ)) × (lines_of (codes "end" ++ rest) ≡ codes "end" ∷ lines)
unfolding lines_of
end_first [] is = ([], refl)
end_first (b ∷ bs) is =
    (lines_of bs, ap (λ c. lines_of (codes "end" ++ c ∷ bs)) is ∙ line_first (codes "end") bs end_is_line)

-- the lines of a text of the history
pub lines_are : (text : List ℕ) (s : Setup) (es : List Entry) → IsTextHistory s es → (h : IsTextOf text s es) → lines_of text ≡ setup_line s ∷ (map entry_line es ++ lines_of (codes "end" ++ h.0))
lines_are text s es is h =
    ap lines_of (h.2 ∙ ap (λ l. l ++ (codes "end" ++ h.0)) (with_joined [] (lines_before_end s es)))
    ∙ lines_first (lines_before_end s es) (codes "end" ++ h.0) (all_lines s es is)

-- ---- entries

go_on : (n : ℕ) (e : Entry) (lines : List (List ℕ)) (found : List Entry) → IsEntry e → IsShallow e → IsLineToRead (entry_line e)
    → entries_from n (entry_line e ∷ lines) found ≡ entries_from (n + 1) lines (found ++ e ∷ [])
go_on n e lines found is shallow fine =
    rw (not_end e) (ap (λ r. at_line n r (λ x. entries_from (n + 1) lines (found ++ x ∷ []))) (line_in entry_of (entry_line e) e fine.short (entry_read e is shallow fine.utf8)))

entries_read : (n : ℕ) (es : List Entry) (lines : List (List ℕ)) (found : List Entry) → All IsEntry es → All IsShallow es
    → All IsLineToRead (map entry_line es) → entries_from n (map entry_line es ++ codes "end" ∷ lines) found ≡ Ok (found ++ es)
entries_read n [] lines found is shallow fine = ap Ok (sym (append-nil found))
entries_read n (e ∷ es) lines found is shallow fine =
    go_on n e (map entry_line es ++ codes "end" ∷ lines) found (All-head IsEntry e es is) (All-head IsShallow e es shallow) (All-head IsLineToRead (entry_line e) (map entry_line es) fine)
    ∙ entries_read (n + 1) es lines (found ++ e ∷ []) (All-tail IsEntry e es is) (All-tail IsShallow e es shallow) (All-tail IsLineToRead (entry_line e) (map entry_line es) fine)
    ∙ ap Ok (append_assoc found (e ∷ []) es)

-- ---- the text

pub text_is_read : TextIsRead
text_is_read text s es is shallow fine h =
    let own : IsLineToRead (setup_line s) = All-head IsLineToRead (setup_line s) (map entry_line es) fine in
    let others : All IsLineToRead (map entry_line es) = All-tail IsLineToRead (setup_line s) (map entry_line es) fine in
    let last = end_first h.0 h.1 in
    ap history_in (lines_are text s es is h ∙ ap (λ l. setup_line s ∷ (map entry_line es ++ l)) last.1)
    ∙ ap (λ r. at_line 1 r (λ x. with_setup x (entries_from 2 (map entry_line es ++ codes "end" ∷ last.0) [])))
    (line_in setup_of (setup_line s) s own.short (setup_read s is.setup shallow.setup own.utf8))
    ∙ ap (with_setup s) (entries_read 2 es last.0 [] is.entries shallow.entries others)

pub printed_text : (s : Setup) (es : List Entry) (more : List ℕ) → IsTextOf (history_text s es ++ more) s es
unfolding history_lines
printed_text s es more =
    let before : List ℕ = with_lines [] (lines_before_end s es) in
    (10 ∷ more, refl, ap (λ t. t ++ more) (with_lines_append [] (lines_before_end s es) (codes "end" ∷ [])) ∙ append_assoc before (codes "end" ++ 10 ∷ []) more)

pub printed_is_read : PrintedIsRead
printed_is_read s es more is shallow fine = text_is_read (history_text s es ++ more) s es is shallow fine (printed_text s es more)
