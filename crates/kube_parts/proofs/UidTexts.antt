-- The text of an id gives it back.
use Rattle.std.proofs.Common.{◌≡◌, ℕ, zero, suc, ◌+◌, ◌-◌, ◌^◌, ◌%◌, ◌<◌, List, get_or, length, Result, Ok, Err, IsOk, IfOk, ◌↔◌, Option, Some, None, true≢false, inl, refl, sym, ap, ◌∙◌, arith}
use Rattle.std.specs.Prelude.{option_map}
use Rattle.std.specs.Int.{byte_at, bytes_high_first, from_be_bytes, to_be_bytes, w128}
use Rattle.uuid.specs.Text.{hyphenated_text, lower, parsed}
use Rattle.uuid.proofs.OrderLemmas.{from_be_bytes-to_be_bytes_16}
use Rattle.uuid.proofs.RoundTrips.{parses_hyphenated}
use Rattle.kube_parts.specs.declared.uid.Uid.{Uid}
use Rattle.kube_parts.specs.Uids.{uid_text, uid_of_text, SerialsAreApart, UidReadsBack}

pub serials_apart : SerialsAreApart
serials_apart m n e = let same = ap (λ (u : Uid). u.0 - (2 ^ 79 + 2 ^ 63)) e in omega (arith, same)

abbrev uid_at : ℕ → Uid
uid_at n = record { 0 = n }

abbrev of_bytes : List ℕ → Uid
of_bytes bytes = record { 0 = from_be_bytes w128 bytes }

-- what is read where the bytes are known, and where there are none
pub read_some : (n : ℕ) (bytes text : List ℕ) → n ≡ from_be_bytes w128 bytes → Some bytes ≡ parsed text → Some (uid_at n) ≡ uid_of_text text
unfolding uid_of_text
read_some n bytes text is e = ap (λ k. Some (uid_at k)) is ∙ ap (option_map of_bytes) e

pub read_none : {E : Type 0} (r : Result (List ℕ) E) (e : E) (text : List ℕ) → r ≡ Err e → (IsOk r ↔ ((u : List ℕ) × (parsed text ≡ Some u))) → None ≡ uid_of_text text
unfolding uid_of_text
read_none (Ok u) e text is ok = cc
read_none (Err x) e text is ok = by (parsed text) refl
  where
    by : (p : Option (List ℕ)) → parsed text ≡ p → None ≡ option_map of_bytes p
    by None none = refl
    by (Some u) some = absurd (true≢false (sym (ok.1 (u, some))))

-- the text that is written
pub text_is : {E : Type 0} (r : Result (List ℕ) E) (u : Uid) (written bytes : List ℕ) → IfOk r (λ t. t ≡ written)
    → written ≡ hyphenated_text lower bytes → bytes ≡ to_be_bytes w128 u.0 → IfOk r (λ t. t ≡ uid_text u)
unfolding uid_text
text_is (Ok t) u written bytes copied is of = copied ∙ is ∙ ap (hyphenated_text lower) of
text_is (Err x) u written bytes copied is of = tt

below_256 : (m : ℕ) → m % 256 < 256
below_256 m = omega arith

byte_small : (k n : ℕ) → byte_at k n < 256
byte_small zero n = below_256 n
byte_small (suc k) n = below_256 _

bytes_small : (k n i d : ℕ) → i < length (bytes_high_first k n) → get_or (bytes_high_first k n) i d < 256
bytes_small zero n i d lt = absurd (omega arith)
bytes_small (suc k) n zero d lt = byte_small k n
bytes_small (suc k) n (suc i) d lt = bytes_small k n i d (omega arith)

pub reads_back : UidReadsBack
unfolding uid_text
reads_back u fits =
    let bytes = to_be_bytes w128 u.0 in
    sym (read_some u.0 bytes (hyphenated_text lower bytes) (sym (from_be_bytes-to_be_bytes_16 u.0 fits)) (parses_hyphenated lower bytes (inl refl) refl (bytes_small 16 u.0)))
