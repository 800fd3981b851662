-- The text of a value whose numbers are all whole has exactly the bytes that are counted.
use Rattle.std.proofs.Common.{◌≡◌, ℕ, suc, ◌+◌, List, [], ◌∷◌, ◌++◌, false, length, length-append, true≢false, refl, ap, arith}
use Rattle.std.proofs.lemmas.Bool.{or_parts}
use Rattle.json.specs.Print.{escape, quoted}
use Rattle.serde_json.specs.Data.{unsigned, negative, float, Data, null, boolean, number, string, array, object, Items, no_items, item, Members, no_members, member}
use Rattle.serde_json.specs.Written.{has_float, items_have_float, members_have_float, compact_text}
use Rattle.json_text.specs.Sizes.{float_bytes, items_float_bytes, members_float_bytes, least_bytes}

both_zero : {m n : ℕ} → m ≡ 0 → n ≡ 0 → m + n ≡ 0
both_zero hm hn = rw (hm, hn) refl

mutual
  no_bytes : (d : Data) → has_float d ≡ false → float_bytes d ≡ 0
  no_bytes null h = refl
  no_bytes (boolean b) h = refl
  no_bytes (number (unsigned n)) h = refl
  no_bytes (number (negative z)) h = refl
  no_bytes (number (float x)) h = absurd (true≢false h)
  no_bytes (string s) h = refl
  no_bytes (array ds) h = no_item_bytes ds h
  no_bytes (object ms) h = no_member_bytes ms h

  no_item_bytes : (ds : Items) → items_have_float ds ≡ false → items_float_bytes ds ≡ 0
  no_item_bytes no_items h = refl
  no_item_bytes (item d ds) h = let parts = or_parts (has_float d) (items_have_float ds) h in both_zero (no_bytes d parts.0) (no_item_bytes ds parts.1)

  no_member_bytes : (ms : Members) → members_have_float ms ≡ false → members_float_bytes ms ≡ 0
  no_member_bytes no_members h = refl
  no_member_bytes (member k d ms) h = let parts = or_parts (has_float d) (members_have_float ms) h in both_zero (no_bytes d parts.0) (no_member_bytes ms parts.1)

pub least_whole : (d : Data) → has_float d ≡ false → least_bytes d ≡ length (compact_text d)
least_whole d h = let none : float_bytes d ≡ 0 = no_bytes d h in omega (arith, none)

-- a text that stands between quotes as it is
pub plain_bytes : (text : List ℕ) → escape text ≡ text → length (quoted text) ≡ length text + 2
plain_bytes text e =
    let whole : length (quoted text) ≡ suc (length (text ++ 34 ∷ [])) = ap (λ s. suc (length (s ++ 34 ∷ []))) e in
    omega (arith, length-append text (34 ∷ []))
