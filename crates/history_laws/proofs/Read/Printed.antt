-- What is read of a text is what the text has.
use Rattle.std.proofs.Common.{◌≡◌, ℕ, ◌+◌, List, [], ◌∷◌, ◌++◌, map, Bool, true, false, Result, Ok, Err, codes, bytes_eq, if◌then◌else◌, refl, sym, ap, ◌∙◌, append_assoc, append-nil, subst}
use Rattle.std.specs.List.{slice_split, join_with_byte}
use Rattle.std.proofs.lemmas.List.Splits.{join_with_byte-slice_split}
use Rattle.std.proofs.lemmas.Slice.Eq.{bytes_eq-Decides}
use Rattle.call_types.specs.declared.entry.Entry.{Entry}
use Rattle.call_types.specs.declared.setup.Setup.{Setup}
use Rattle.history_text.specs.Entries.{entry_line, setup_line}
use Rattle.history_lines.specs.Entries.{entry_of, setup_of}
use Rattle.history_read.specs.declared.errors.HistoryReason.{HistoryReason}
use Rattle.history_read.specs.declared.errors.HistoryReason.TheVariants.{MissingEnd}
use Rattle.history_read.specs.declared.errors.BadHistoryLine.{BadHistoryLine}
use Rattle.call_types.specs.declared.histories.History.{History}
use Rattle.history_read.specs.Grammar.{lines_in, lines_of, in_line, refused_line, at_line, entries_from, with_setup, history_in}
use Rattle.history_laws.specs.Read.Texts.{lines_before_end, IsRest}
use Rattle.history_laws.specs.Read.Laws.{ReadIsPrinted}
use Rattle.history_laws.proofs.Read.LinesRead.{entry_printed, setup_printed, in_line_gives}
use Rattle.history_text.proofs.Joined.{joined, with_joined, is_feed}

-- ---- entries

-- behind those that were found these were read, and the parts are their lines and the line `end`
record AreRead (parts : List (List ℕ)) (found all : List Entry) : Type 0 where
  pub entries : List Entry
  pub rest : List ℕ
  pub ends : IsRest rest
  pub grown : all ≡ found ++ entries
  pub text : join_with_byte 10 parts ≡ joined (map entry_line entries) ++ (codes "end" ++ rest)

ends_here : (part : List ℕ) (parts : List (List ℕ)) (found all : List Entry) → bytes_eq part (codes "end") ≡ true → all ≡ found
    → (rest : List ℕ) → IsRest rest → join_with_byte 10 (part ∷ parts) ≡ part ++ rest → AreRead (part ∷ parts) found all
ends_here part parts found all is same rest ends joins = record {
  entries = [];
  rest = rest;
  ends = ends;
  grown = same ∙ sym (append-nil found);
  text = joins ∙ ap (λ p. p ++ rest) ((bytes_eq-Decides part (codes "end")).0 is);
}

one_more : (part next : List ℕ) (parts : List (List ℕ)) (found all : List Entry) (e : Entry) → in_line entry_of part ≡ Ok e
    → AreRead (next ∷ parts) (found ++ e ∷ []) all → AreRead (part ∷ next ∷ parts) found all
one_more part next parts found all e is r = record {
  entries = e ∷ r.entries;
  rest = r.rest;
  ends = r.ends;
  grown = r.grown ∙ append_assoc found (e ∷ []) r.entries;
  text =
      ap (λ t. part ++ 10 ∷ t) r.text
      ∙ ap (λ p. p ++ 10 ∷ (joined (map entry_line r.entries) ++ (codes "end" ++ r.rest))) (sym (entry_printed part e (in_line_gives entry_of part e is)))
      ∙ sym (append_assoc (entry_line e) (10 ∷ joined (map entry_line r.entries)) (codes "end" ++ r.rest));
}

same_ok : {X : Type 0} (a b : X) → ◌≡◌ {A = Result X BadHistoryLine} (Ok a) (Ok b) → b ≡ a
same_ok a b h = cc

no_end : (n : ℕ) (r : Result Entry HistoryReason) (all : List Entry) → at_line n r (λ e. refused_line (n + 1) MissingEnd) ≡ Ok all → ⊥
no_end n (Ok e) all h = cc
no_end n (Err reason) all h = cc

entries_are : (n : ℕ) (parts : List (List ℕ)) (found all : List Entry) → entries_from n (lines_in parts) found ≡ Ok all → AreRead parts found all
entries_are n [] found all h = absurd (cc)
entries_are n ([] ∷ []) found all h = absurd (cc)
entries_are n ((b ∷ bs) ∷ []) found all h = by (bytes_eq (b ∷ bs) (codes "end")) refl h
  where
    by : (t : Bool) → bytes_eq (b ∷ bs) (codes "end") ≡ t
        → (if t then Ok found else at_line n (in_line entry_of (b ∷ bs)) (λ e. refused_line (n + 1) MissingEnd)) ≡ Ok all → AreRead ((b ∷ bs) ∷ []) found all
    by true is same = ends_here (b ∷ bs) [] found all is (same_ok found all same) [] tt (sym (append-nil (b ∷ bs)))
    by false is same = absurd (no_end n (in_line entry_of (b ∷ bs)) all same)
entries_are n (part ∷ next ∷ parts) found all h = by (bytes_eq part (codes "end")) (in_line entry_of part) refl refl (λ e k. entries_are (n + 1) (next ∷ parts) (found ++ e ∷ []) all k) h
  where
    by : (t : Bool) (r : Result Entry HistoryReason) → bytes_eq part (codes "end") ≡ t → in_line entry_of part ≡ r
        → ((e : Entry) → entries_from (n + 1) (lines_in (next ∷ parts)) (found ++ e ∷ []) ≡ Ok all → AreRead (next ∷ parts) (found ++ e ∷ []) all)
        → (if t then Ok found else at_line n r (λ e. entries_from (n + 1) (lines_in (next ∷ parts)) (found ++ e ∷ []))) ≡ Ok all → AreRead (part ∷ next ∷ parts) found all
    by true r is read more same = ends_here part (next ∷ parts) found all is (same_ok found all same) (10 ∷ join_with_byte 10 (next ∷ parts)) refl refl
    by false (Ok e) is read more same = one_more part next parts found all e read (more e same)
    by false (Err reason) is read more same = absurd (cc)

-- ---- the text

record HasRead (parts : List (List ℕ)) (h : History) : Type 0 where
  pub rest : List ℕ
  pub ends : IsRest rest
  pub text : join_with_byte 10 parts ≡ joined (lines_before_end h.setup h.entries) ++ (codes "end" ++ rest)

setup_step : (line next : List ℕ) (parts : List (List ℕ)) (s : Setup) (es : List Entry) → in_line setup_of line ≡ Ok s → AreRead (next ∷ parts) [] es
    → HasRead (line ∷ next ∷ parts) (record { setup = s; entries = es })
setup_step line next parts s es is r = record {
  rest = r.rest;
  ends = r.ends;
  text =
      ap (λ t. line ++ 10 ∷ t) (r.text ∙ ap (λ xs. joined (map entry_line xs) ++ (codes "end" ++ r.rest)) (sym r.grown))
      ∙ ap (λ p. p ++ 10 ∷ (joined (map entry_line es) ++ (codes "end" ++ r.rest))) (sym (setup_printed line s (in_line_gives setup_of line s is)))
      ∙ sym (append_assoc (setup_line s) (10 ∷ joined (map entry_line es)) (codes "end" ++ r.rest));
}

same_history : (s : Setup) (r : Result (List Entry) BadHistoryLine) (h : History) → with_setup s r ≡ Ok h → (es : List Entry) × (r ≡ Ok es) × (record { setup = s; entries = es } ≡ h)
same_history s (Ok es) h is = (es, refl, sym (same_ok (record { setup = s; entries = es }) h is))
same_history s (Err b) h is = absurd (cc)

alone : (r : Result Setup HistoryReason) (h : History) → at_line 1 r (λ x. with_setup x (refused_line 2 MissingEnd)) ≡ Ok h → ⊥
alone (Ok x) h is = cc
alone (Err reason) h is = cc

history_is : (parts : List (List ℕ)) (h : History) → history_in (lines_in parts) ≡ Ok h → HasRead parts h
history_is [] h is = absurd (cc)
history_is ([] ∷ []) h is = absurd (cc)
history_is ((b ∷ bs) ∷ []) h is = absurd (alone (in_line setup_of (b ∷ bs)) h is)
history_is (line ∷ next ∷ parts) h is = by (in_line setup_of line) refl is
  where
    go : (s : Setup) → in_line setup_of line ≡ Ok s → (es : List Entry) → entries_from 2 (lines_in (next ∷ parts)) [] ≡ Ok es → (k : History)
        → record { setup = s; entries = es } ≡ k → HasRead (line ∷ next ∷ parts) k
    go s read es entries k same = subst (λ x. HasRead (line ∷ next ∷ parts) x) same (setup_step line next parts s es read (entries_are 2 (next ∷ parts) [] es entries))

    by : (r : Result Setup HistoryReason) → in_line setup_of line ≡ r → at_line 1 r (λ s. with_setup s (entries_from 2 (lines_in (next ∷ parts)) [])) ≡ Ok h → HasRead (line ∷ next ∷ parts) h
    by (Ok s) read same = let k = same_history s (entries_from 2 (lines_in (next ∷ parts)) []) h same in go s read k.0 k.1 h k.2
    by (Err reason) read same = absurd (cc)

pub read_is_printed : ReadIsPrinted
unfolding lines_of
read_is_printed text h is =
    let r = history_is (slice_split is_feed text) h is in
    (r.rest, r.ends, sym (join_with_byte-slice_split 10 text) ∙ r.text ∙ ap (λ l. l ++ (codes "end" ++ r.rest)) (sym (with_joined [] (lines_before_end h.setup h.entries))))
