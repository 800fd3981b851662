-- The first line of a text, and what follows it.
use Rattle.std.proofs.Common.{◌≡◌, ℕ, ◌+◌, ◌-◌, ◌<◌, List, [], ◌∷◌, length, take, drop, Bool, true, false, eqb, refl, sym, ap, ◌∙◌, arith}
use Rattle.std.specs.Prelude.{slice_index}
use Rattle.std.specs.List.{slice_split, position_or_len, All}
use Rattle.std.proofs.lemmas.List.{take_rest}
use Rattle.std.proofs.lemmas.List.Splits.{slice_split_first, slice_split_none, length-slice_split}
use Rattle.std.proofs.lemmas.List.Elements.{All-from_get_or}
use Rattle.std.proofs.lemmas.List.Sums.{position_or_len_is}
use Rattle.std.proofs.Math.Seq.{drop-length}
use Rattle.memchr.specs.Find.{NoneBefore, Nowhere, Passes, is_byte}
use Rattle.history_read.specs.Grammar.{last_line, lines_in, lines_of}

abbrev is_feed : ℕ → Bool
is_feed b = eqb b 10

-- parts behind a first one stay as they are
pub lines_more : (line : List ℕ) (parts : List (List ℕ)) (n : ℕ) → length parts ≡ n + 1 → lines_in (line ∷ parts) ≡ line ∷ lines_in parts
lines_more line [] n h = absurd (omega arith)
lines_more line (part ∷ parts) n h = refl

not_true : (b : Bool) → ¬ (b ≡ true) → b ≡ false
not_true true h = absurd (h refl)
not_true false h = refl

abbrev FoundAt : List ℕ → ℕ → Type 0
FoundAt text place = NoneBefore (Passes (is_byte 10) text) 0 (length text) place

place_is : (text : List ℕ) (place : ℕ) → FoundAt text place → Passes (is_byte 10) text place → position_or_len is_feed text ≡ place
place_is text place h found = position_or_len_is is_feed text place 0 (let low = h.high in omega arith) (λ k less. not_true
    (is_feed (slice_index text k)) (h.before k (omega arith) less)) (λ below. found)

-- the rest as a part of the text, as a slice to its end is one
abbrev rest_from : ℕ → List ℕ → List ℕ
rest_from n text = take (length text - n) (drop n text)

pub line_found : (text : List ℕ) (place : ℕ) → FoundAt text place → Passes (is_byte 10) text place → lines_of text ≡ take place text ∷ lines_of (rest_from (place + 1) text)
unfolding lines_of
line_found text place h found =
    let at = place_is text place h found in
    let less : position_or_len is_feed text < length text = let high = h.high in omega (arith, at) in
    ap lines_in (slice_split_first is_feed text 0 less ∙ ap (λ n. take n text ∷ slice_split is_feed (drop (n + 1) text)) at)
    ∙ lines_more (take place text) (slice_split is_feed (drop (place + 1) text)) _ (length-slice_split is_feed (drop (place + 1) text))
    ∙ ap (λ rest. take place text ∷ lines_in (slice_split is_feed rest)) (sym (take_rest text (place + 1)))

alone : (text : List ℕ) → 0 < length text → last_line text ≡ text ∷ []
alone [] h = absurd (omega arith)
alone (b ∷ bs) h = refl

pub line_alone : (text : List ℕ) → 0 < length text → Nowhere (Passes (is_byte 10) text) 0 (length text) → lines_of text ≡ text ∷ lines_of (rest_from (length text) text)
unfolding lines_of
line_alone text filled h =
    let none : All (λ b. is_feed b ≡ false) text = All-from_get_or (λ b. is_feed b ≡ false) text 0 (λ k less. not_true (is_feed (slice_index text k)) (h k (omega arith) less)) in
    ap lines_in (slice_split_none is_feed text none) ∙ alone text filled ∙ ap (λ rest. text ∷ lines_in (slice_split is_feed rest)) (sym (take_rest text (length text) ∙ drop-length text))

pub no_lines : (text : List ℕ) → length text ≡ 0 → lines_of text ≡ []
unfolding lines_of
no_lines [] h = refl
no_lines (b ∷ bs) h = absurd (omega arith)
