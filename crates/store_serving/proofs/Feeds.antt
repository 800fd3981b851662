-- Line feeds, and the lines that they end.
use Rattle.std.proofs.Common.{◌≡◌, ℕ, suc, ◌+◌, ◌<◌, ◌==◌, List, [], ◌∷◌, ◌++◌, true, false, Option, Some}
use Rattle.std.proofs.Common.{None, length, take, drop, get_or, refl, sym, ap, subst, ◌∙◌, arith, append_assoc, append-nil, drop-cons}
use Rattle.std.specs.Prelude.{IfSome, IfNone}
use Rattle.std.proofs.lemmas.Bool.{eqb-true}
use Rattle.std.proofs.lemmas.List.{take-append-drop, get_or-take, length-take-le}
use Rattle.std.proofs.lemmas.List.Splits.{slice_split_none}
use Rattle.memchr.specs.Find.{IsFirstByte, Nowhere, NoneBefore, Passes, is_byte}
use Rattle.fault_io.specs.Reading.{IsLeft, Takes}
use Rattle.json_text.specs.Canonical.{IsLine}
use Rattle.json_text.proofs.Lines.{line_append}
use Rattle.history_text.proofs.Joined.{is_feed, no_feed}
use Rattle.history_read.specs.Grammar.{last_line, lines_in, lines_of}
use Rattle.history_read.proofs.FirstLine.{no_lines}
use Rattle.history_laws.proofs.Read.Texts.{line_first}
use Rattle.store_serving.specs.Lines.{IsFeedAt, ReadsLine, pending}

-- ---- where the first line feed stands

is_line : (xs : List ℕ) → ((k : ℕ) → k < length xs → get_or xs k 0 ≡ 10 → ⊥) → IsLine xs
unfolding IsLine
is_line [] h = tt
is_line (x ∷ xs) h = (h 0 (omega arith), is_line xs (λ k less is. h (suc k) (omega (arith, less)) is))

fed : (n : ℕ) → n ≡ 10 → (n == 10) ≡ true
fed n is = ap (λ m. m == 10) is

feeds : (n : ℕ) → (n == 10) ≡ true → n ≡ 10
feeds n is = eqb-true n 10 is

pub no_feed_in : (bytes : List ℕ) → Nowhere (Passes (is_byte 10) bytes) 0 (length bytes) → IsLine bytes
no_feed_in bytes h = is_line bytes (λ k less is. h k (omega arith) less (fed (get_or bytes k 0) is))

-- what stands before a byte, the byte, and what stands behind it
parted : (bytes : List ℕ) (place : ℕ) → place < length bytes → bytes ≡ take place bytes ++ get_or bytes place 0 ∷ drop (place + 1) bytes
parted bytes place less =
    let one : suc place ≡ place + 1 = omega arith in
    sym (take-append-drop place bytes) ∙ ap (λ rest. take place bytes ++ rest) (drop-cons bytes place 0 less)
    ∙ ap (λ n. take place bytes ++ get_or bytes place 0 ∷ drop n bytes) one

pub feed_at : (bytes : List ℕ) (place : ℕ) → NoneBefore (Passes (is_byte 10) bytes) 0 (length bytes) place → Passes (is_byte 10) bytes place → IsFeedAt bytes place
feed_at bytes place before found =
    let less : place < length bytes = before.high in
    let short : length (take place bytes) ≡ place = length-take-le place bytes (omega (arith, less)) in
    record {
      within = less;
      line =
          is_line (take place bytes)
          (λ k within is. before.before k (omega arith) (omega (arith, within, short)) (fed (get_or bytes k 0) (sym (get_or-take place bytes k 0 (omega (arith, within, short))) ∙ is)));
      feed = parted bytes place less ∙ ap (λ b. take place bytes ++ b ∷ drop (place + 1) bytes) (feeds (get_or bytes place 0) found);
    }

pub first_feed : (bytes : List ℕ) (found : Option ℕ) → IsFirstByte (is_byte 10) bytes found → IfSome found (IsFeedAt bytes)
first_feed bytes None h = tt
first_feed bytes (Some place) h = feed_at bytes place h.0 h.1

pub first_none : (bytes : List ℕ) (found : Option ℕ) → IsFirstByte (is_byte 10) bytes found → IfNone found (IsLine bytes)
first_none bytes None h = no_feed_in bytes h
first_none bytes (Some place) h = tt

no_feed_there : (xs ys : List ℕ) → IsLine (xs ++ 10 ∷ ys) → ⊥
unfolding IsLine
no_feed_there [] ys h = h.0 refl
no_feed_there (x ∷ xs) ys h = no_feed_there xs ys h.1

-- a place of a line feed is one of no line
pub feed_is_held : (bytes : List ℕ) (place : ℕ) → IsFeedAt bytes place → IsLine bytes → ⊥
feed_is_held bytes place at line = no_feed_there (take place bytes) (drop (place + 1) bytes) (subst IsLine at.feed line)

-- ---- lines

-- a whole line is held
pub held_read : (left : Option (List ℕ)) (held line rest : List ℕ) → IsLine line → held ≡ line ++ 10 ∷ rest → ReadsLine (pending held left) (pending rest left) (Some line)
held_read None held line rest is parts = tt
held_read (Some bytes) held line rest is parts =
    ap (λ xs. lines_of (xs ++ bytes)) parts ∙ ap lines_of (append_assoc line (10 ∷ rest) bytes) ∙ line_first line (rest ++ bytes) is

pub front_read : (left : Option (List ℕ)) (all held rest line : List ℕ) (place : ℕ) → all ≡ held → IsFeedAt held place
    → (line ≡ take place held) × (rest ≡ drop (place + 1) held) → ReadsLine (pending all left) (pending rest left) (Some line)
front_read left all held rest line place same at parts =
    let parted : held ≡ line ++ 10 ∷ rest = at.feed ∙ (λ i. sym parts.0 i ++ 10 ∷ sym parts.1 i) in
    held_read left all line rest (subst IsLine (sym parts.0) at.line) (same ∙ parted)

-- bytes that were read are held
pub pending_more : (a b : Option (List ℕ)) (held bytes : List ℕ) → Takes a b bytes → pending held a ≡ pending (held ++ bytes) b
pending_more None None held bytes takes = refl
pending_more None (Some y) held bytes takes = absurd takes
pending_more (Some x) None held bytes takes = absurd takes
pending_more (Some x) (Some y) held bytes takes = ap (λ l. Some (held ++ l)) takes ∙ ap Some (sym (append_assoc held bytes y))

-- the line feed stands in what was read last
pub piece_read : (a b : Option (List ℕ)) (held piece : List ℕ) (place : ℕ) → IsLine held → IsFeedAt piece place → Takes a b piece
    → ReadsLine (pending held a) (pending (drop (place + 1) piece) b) (Some (held ++ take place piece))
piece_read a b held piece place line at takes =
    let parts : held ++ piece ≡ (held ++ take place piece) ++ 10 ∷ drop (place + 1) piece =
    ap (λ l. held ++ l) at.feed ∙ sym (append_assoc held (take place piece) (10 ∷ drop (place + 1) piece)) in
    subst (λ (p : Option (List ℕ)). ReadsLine p (pending (drop (place + 1) piece) b) (Some (held ++ take place piece))) (sym (pending_more a b held piece takes))
    (held_read b (held ++ piece) (held ++ take place piece) (drop (place + 1) piece) (line_append held (take place piece) line at.line) parts)

pub line_read : (first a b : Option (List ℕ)) (before held piece rest line : List ℕ) (place : ℕ)
    → IsLine held → pending held a ≡ pending before first → IsFeedAt piece place → Takes a b piece
    → (line ≡ held ++ take place piece) × (rest ≡ drop (place + 1) piece) → ReadsLine (pending before first) (pending rest b) (Some line)
line_read first a b before held piece rest line place is kept at takes parts =
    subst (λ (p : Option (List ℕ)). ReadsLine p (pending rest b) (Some line)) kept
    (subst (λ (l : List ℕ). ReadsLine (pending held a) (pending rest b) (Some l)) (sym parts.0)
    (subst (λ (l : List ℕ). ReadsLine (pending held a) (pending l b) (Some (held ++ take place piece))) (sym parts.1) (piece_read a b held piece place is at takes)))

pub more_held : (first a b : Option (List ℕ)) (before held piece after : List ℕ) → after ≡ held ++ piece → pending held a ≡ pending before first → Takes a b piece
    → pending after b ≡ pending before first
more_held first a b before held piece after is kept takes = ap (λ (l : List ℕ). pending l b) is ∙ sym (pending_more a b held piece takes) ∙ kept

-- ---- the end

filled : (text : List ℕ) → 0 < length text → last_line text ≡ text ∷ []
filled [] h = absurd (omega (arith, h))
filled (b ∷ bs) h = refl

pub none_read : (text : List ℕ) → (length text == 0) ≡ true → lines_of text ≡ []
none_read text none = no_lines text (eqb-true (length text) 0 none)

-- a line that lacks its line feed
pub alone_read : (text : List ℕ) → IsLine text → 0 < length text → lines_of text ≡ text ∷ lines_of []
unfolding lines_of
alone_read text line some = ap lines_in (slice_split_none is_feed text (no_feed text line)) ∙ filled text some

some_in : (text : List ℕ) → (length text == 0) ≡ false → 0 < length text
some_in [] none = absurd (cc)
some_in (b ∷ bs) none = omega arith

-- what was held is the line, and nothing is held then
pub alone_left : (held left line : List ℕ) → IsLine held → (length held == 0) ≡ false → left ≡ [] → line ≡ held → lines_of held ≡ line ∷ lines_of left
alone_left held left line is some none same = alone_read held is (some_in held some) ∙ (λ i. sym same i ∷ lines_of (sym none i))

pub end_read : (a b : Option (List ℕ)) (held rest : List ℕ) (line : Option (List ℕ)) → Takes a b [] → IsLeft b [] → ReadsLine (Some held) (Some rest) line
    → ReadsLine (pending held a) (pending rest b) line
end_read None None held rest line takes left reads = tt
end_read None (Some y) held rest line takes left reads = absurd takes
end_read (Some x) None held rest line takes left reads = absurd takes
end_read (Some x) (Some y) held rest line takes left reads =
    let none : x ≡ [] = takes ∙ left in
    subst (λ (p : List ℕ). ReadsLine (Some p) (Some (rest ++ y)) line) (sym (ap (λ l. held ++ l) none ∙ append-nil held))
    (subst (λ (p : List ℕ). ReadsLine (Some held) (Some p) line) (sym (ap (λ l. rest ++ l) left ∙ append-nil rest)) reads)
