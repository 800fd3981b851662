-- A printed line is read as what it says.
use Rattle.std.proofs.Common.{◌≡◌, ℕ, ◌≤◌, List, [], ◌∷◌, length, Bool, true, false, Option, None, Ok, Err, if◌then◌else◌, ◌==◌, ◌||◌, nat_lt, option_and_then, refl, ap, ◌∙◌}
use Rattle.std.specs.List.{list_all}
use Rattle.std.specs.Str.{is_utf8}
use Rattle.std.proofs.lemmas.Bool.{le-ltb, and_parts, eqb-true}
use Rattle.serde_json.specs.Data.{Data, null, boolean, number, string, array, object}
use Rattle.serde_json.specs.Written.{compact_text}
use Rattle.json.specs.Token.{Token}
use Rattle.json.specs.Lex.{space, class, between, lex, fresh, punctuate}
use Rattle.json.specs.Json as json
use Rattle.serde_json.specs.Read.{read, of_json, max_depth}
use Rattle.serde_json.proofs.OnLiterals.{serde_json_on_literals}
use Rattle.json_text.specs.Build.{Good}
use Rattle.json_text.proofs.ReadBack.{read-compact_text}
use Rattle.plain_data.specs.Pairs.{Pair}
use Rattle.object_text.specs.Reading.{is_object, value_in}
use Rattle.script_lines.specs.declared.errors.Reason.TheVariants.{TooLong, NotJson}
use Rattle.script_lines.specs.Answers.{◌>>=◌, taken_in_line}
use Rattle.script_text.specs.declared.script.Meaning.{Meaning}
use Rattle.script_text.specs.Said.{Said, and_said}
use Rattle.script_text.specs.LineReaders.{verb_at, meaning_of}
use Rattle.script_text.specs.Grammar.{most_line_bytes, most_lines, is_blank, object_value, line_value, limit_of, and_filled, and_line, object_by, own_object, node_from}

-- the text of a value is a line that is read as the value
pub record IsRead (d : Data) : Type 0 where
  pub members : is_object d ≡ true
  pub good : Good 127 d
  pub utf8 : is_utf8 (compact_text d) ≡ true
  pub short : length (compact_text d) ≤ most_line_bytes

not_blank : (d : Data) → is_object d ≡ true → list_all is_blank (compact_text d) ≡ false
not_blank null h = absurd (cc)
not_blank (boolean b) h = absurd (cc)
not_blank (number n) h = absurd (cc)
not_blank (string s) h = absurd (cc)
not_blank (array ds) h = absurd (cc)
not_blank (object ms) h = refl

value_read : (d : Data) → IsRead d → line_value (compact_text d) ≡ Ok d
value_read d h = rw (h.utf8, read-compact_text d h.good.canonical h.good.shallow, h.members) refl

pub line_read : (agents : List Pair) (said : Said) (n : ℕ) (d : Data) (meaning : Meaning) → IsRead d → n ≤ most_lines
    → meaning_of agents said d ≡ Ok meaning → limit_of (and_said said n meaning) meaning ≡ None
    → and_line agents said n (compact_text d) ≡ Ok (and_said said n meaning)
unfolding and_line and_filled
line_read agents said n d meaning h few means limit =
    rw (le-ltb most_line_bytes (length (compact_text d)) h.short, not_blank d h.members, value_read d h, means, le-ltb most_lines n few, limit) refl

-- what a line creates or imports, by its own members
pub own_read : (d : Data) → IsRead d → own_object (compact_text d) ≡ (verb_at d >>= λ verb. object_by verb d)
unfolding own_object
own_read d h = rw (le-ltb most_line_bytes (length (compact_text d)) h.short, value_read d h) refl

-- the text that is empty says nothing
pub none_read : (agents : List Pair) (said : Said) (n : ℕ) → and_line agents said n [] ≡ Ok said
unfolding and_line
none_read agents said n = refl

-- ---- a line of blanks creates nothing

blank_space : (x : ℕ) → is_blank x ≡ true → class x ≡ space
blank_space x e = by (x == 32) (x == 9) refl refl e
  where
    by : (a b : Bool) → (x == 32) ≡ a → (x == 9) ≡ b → (a || b) ≡ true → class x ≡ space
    by true b p q f = let is : x ≡ 32 = eqb-true x 32 p in rw is refl
    by false true p q f = let is : x ≡ 9 = eqb-true x 9 q in rw is refl
    by false false p q f = absurd (cc)

blank_lexemes : (xs : List ℕ) → list_all is_blank xs ≡ true → lex between xs ≡ []
unfolding lex
blank_lexemes [] e = refl
blank_lexemes (x ∷ xs) e =
    let parts = and_parts (is_blank x) (list_all is_blank xs) e in
    rw (blank_space x parts.0) (blank_lexemes xs parts.1)

no_tokens : option_and_then of_json (option_and_then (λ (p : json.Json × List Token). json.if_last p.0 p.1) (json.value max_depth (punctuate fresh []))) ≡ None
unfolding serde_json_on_literals
no_tokens = refl

blank_value : (xs : List ℕ) → list_all is_blank xs ≡ true → read xs ≡ None
blank_value xs e = ap (λ ls. option_and_then of_json
    (option_and_then (λ (p : json.Json × List Token). json.if_last p.0 p.1) (json.value max_depth (punctuate fresh ls)))) (blank_lexemes xs e) ∙ no_tokens

blank_line_value : (line : List ℕ) → list_all is_blank line ≡ true → line_value line ≡ Err NotJson
blank_line_value line e = by (is_utf8 line) (read line) (blank_value line e)
  where
    by : (u : Bool) (o : Option Data) → o ≡ None → (taken_in_line (value_in (if u then o else None)) >>= λ d. object_value d) ≡ Err NotJson
    by true o none = rw none refl
    by false o none = refl

pub blank_node : (line : List ℕ) → list_all is_blank line ≡ true → node_from (own_object line) ≡ None
unfolding own_object
blank_node line e = by (nat_lt most_line_bytes (length line))
  where
    by : (long : Bool) → node_from ((if long then Err TooLong else Ok line) >>= λ short. line_value short >>= λ value. verb_at value >>= λ verb. object_by verb value) ≡ None
    by true = refl
    by false = ap (λ r. node_from (r >>= λ value. verb_at value >>= λ verb. object_by verb value)) (blank_line_value line e)
