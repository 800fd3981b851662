-- Texts of JSON, which are UTF-8.
use Rattle.std.proofs.Common.{◌≡◌, ℕ, List, Bool, true, false, Option, None, if◌then◌else◌, Err, refl, sym, ap, ◌∙◌}
use Rattle.std.specs.Str.{IsUtf8, is_utf8}
use Rattle.std.proofs.lemmas.Str.{IsUtf8-from_is_utf8, is_utf8-from_IsUtf8}
use Rattle.serde_json.specs.Data.{Data}
use Rattle.serde_json.specs.Read.{read}
use Rattle.object_text.specs.declared.errors.ObjectError.TheVariants.{NotJson}
use Rattle.object_text.specs.Reading.{value_in, value_of}

-- of the text that the bytes are
pub value_of_text : (bytes text : List ℕ) (value : Option Data) → text ≡ bytes → IsUtf8 bytes → read text ≡ value → value_of bytes ≡ value_in value
value_of_text bytes text value same utf8 given =
    ap value_in (ap (λ b. if b then read bytes else None) (is_utf8-from_IsUtf8 bytes utf8) ∙ ap read (sym same) ∙ given)

-- of bytes that are no text
pub value_of_bytes : (bytes : List ℕ) → (IsUtf8 bytes → ⊥) → value_of bytes ≡ Err NotJson
value_of_bytes bytes not_utf8 = split (is_utf8 bytes) refl
  where
    split : (b : Bool) → is_utf8 bytes ≡ b → value_in (if b then read bytes else None) ≡ Err NotJson
    split true e = absurd (not_utf8 (IsUtf8-from_is_utf8 bytes e))
    split false e = refl
