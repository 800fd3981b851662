-- The id of a text has 128 bits.
use Rattle.std.proofs.Common.{◌≡◌, ℕ, ◌+◌, ◌*◌, ◌^◌, ◌<◌, ◌==◌, ◌&&◌, List, length, slice_index, take, drop, Bool, true, false, if◌then◌else◌, Option, Some, None, IfSome, option_map, refl, arith}
use Rattle.std.specs.List.{list_all}
use Rattle.std.specs.Int.{from_be_bytes, w128}
use Rattle.std.proofs.lemmas.Bool.{and_parts, eqb-true}
use Rattle.std.proofs.lemmas.Bool.Decides.{nat_tests}
use Rattle.std.proofs.lemmas.List.Sums.{AllPass-from_list_all}
use Rattle.uuid.specs.Text.{by_index, is_hex_digit, value_of, byte_of_digits, parsed_simple, parsed_hyphenated, parsed_braced, parsed_urn, parsed, digits_of, has_hyphens}
use Rattle.uuid.proofs.TextLemmas.{by_index_at}
use Rattle.kube_parts.specs.Uids.{uid_of_text}
use Rattle.kube_parts.specs.declared.uid.Uid.{Uid}

if_some : {A : Type 0} (P : A → Type 0) (b : Bool) (x y : Option A) → (b ≡ true → IfSome x P) → IfSome y P → IfSome (if b then x else y) P
if_some P true x y h k = h refl
if_some P false x y h k = k

abbrev FitsUid : List ℕ → Type 0
FitsUid bytes = from_be_bytes w128 bytes < 2 ^ 128

digit_small : (c : ℕ) → is_hex_digit c ≡ true → value_of c < 16
digit_small c hex = grind (arith, nat_tests)

byte_small : (hex : List ℕ) (i : ℕ) → length hex ≡ 32 → list_all is_hex_digit hex ≡ true → i < 16 → slice_index (by_index 16 (byte_of_digits hex)) i < 256
byte_small hex i long all within =
    let high : value_of (slice_index hex (2 * i)) < 16 = digit_small (slice_index hex (2 * i)) (AllPass-from_list_all is_hex_digit hex all (2 * i) 0 (omega arith)) in
    let low : value_of (slice_index hex (2 * i + 1)) < 16 = digit_small (slice_index hex (2 * i + 1)) (AllPass-from_list_all is_hex_digit hex all (2 * i + 1) 0 (omega arith)) in
    rw (by_index_at 16 (byte_of_digits hex) i 0 within) (omega arith)

bytes_fit : (bytes : List ℕ) → ((i : ℕ) → i < 16 → slice_index bytes i < 256) → FitsUid bytes
bytes_fit bytes h =
    omega (
      arith,
      h 0 (omega arith),
      h 1 (omega arith),
      h 2 (omega arith),
      h 3 (omega arith),
      h 4 (omega arith),
      h 5 (omega arith),
      h 6 (omega arith),
      h 7 (omega arith),
      h 8 (omega arith),
      h 9 (omega arith),
      h 10 (omega arith),
      h 11 (omega arith),
      h 12 (omega arith),
      h 13 (omega arith),
      h 14 (omega arith),
      h 15 (omega arith),
    )

simple_fits : (hex : List ℕ) → IfSome (parsed_simple hex) FitsUid
simple_fits hex =
    if_some FitsUid ((length hex == 32) && list_all is_hex_digit hex) (Some (by_index 16 (byte_of_digits hex))) None (λ e.
    let parts = and_parts _ _ e in
    bytes_fit (by_index 16 (byte_of_digits hex)) (λ i within. byte_small hex i (eqb-true _ _ parts.0) parts.1 within)) tt

hyphenated_fits : (s : List ℕ) → IfSome (parsed_hyphenated s) FitsUid
hyphenated_fits s = if_some FitsUid ((length s == 36) && has_hyphens s) (parsed_simple (digits_of s)) None (λ e. simple_fits (digits_of s)) tt

braced_fits : (s : List ℕ) → IfSome (parsed_braced s) FitsUid
braced_fits s = if_some FitsUid _ (parsed_hyphenated (take 36 (drop 1 s))) None (λ e. hyphenated_fits (take 36 (drop 1 s))) tt

urn_fits : (s : List ℕ) → IfSome (parsed_urn s) FitsUid
urn_fits s = if_some FitsUid _ (parsed_hyphenated (drop 9 s)) None (λ e. hyphenated_fits (drop 9 s)) tt

parsed_fits : (s : List ℕ) → IfSome (parsed s) FitsUid
parsed_fits s =
    if_some FitsUid (length s == 32) (parsed_simple s) _ (λ e. simple_fits s)
    (if_some FitsUid (length s == 36) (parsed_hyphenated s) _ (λ e. hyphenated_fits s)
    (if_some FitsUid (length s == 38) (parsed_braced s) _ (λ e. braced_fits s)
    (if_some FitsUid (length s == 45) (parsed_urn s) None (λ e. urn_fits s) tt)))

abbrev uid_of_bytes : List ℕ → Uid
uid_of_bytes bytes = record { 0 = from_be_bytes w128 bytes }

pub uid_fits : (s : List ℕ) → IfSome (uid_of_text s) (λ u. u.0 < 2 ^ 128)
unfolding uid_of_text
uid_fits s = by (parsed s) (parsed_fits s)
  where
    by : (o : Option (List ℕ)) → IfSome o FitsUid → IfSome (option_map uid_of_bytes o) (λ u. u.0 < 2 ^ 128)
    by None h = tt
    by (Some bytes) h = h
