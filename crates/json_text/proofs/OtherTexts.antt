-- The members of a map whose names are not known, written as they come, are those that are put one after another.
use Rattle.std.proofs.Common.{
  ◌≡◌,
  ℕ,
  suc,
  ◌≤◌,
  List,
  [],
  ◌∷◌,
  ◌++◌,
  length,
  drop,
  String,
  Global,
  string_bytes,
  string_cmp,
  Less,
  Bool,
  true,
  false,
  ◌==◌,
  if◌then◌else◌,
  refl,
  sym,
  ap,
  ◌∙◌,
  arith,
  length-append,
}
use Rattle.std.proofs.Math.ListN.{drop_of_length-le}
use Rattle.std.proofs.lemmas.Bool.{eqb-true}
use Rattle.std.specs.Bool.{⊤}
use Rattle.std.specs.List.{AllByRecursion}
use Rattle.std.specs.List.Sorted.{IsStrictlySortedBy}
use Rattle.std.specs.Map.{keys_of}
use Rattle.json.specs.Print.{escape}
use Rattle.serde_json.specs.Data.{array, object, Members, no_members, member, put}
use Rattle.serde_json.specs.Written.{compact_text, members_text}
use Rattle.serde_json.specs.View.{items_view, members_view}
use Rattle.serde_json.specs.declared.value.Value.{Value}
use Rattle.serde_json.proofs.Views.{Entry}
use Rattle.json_text.specs.Canonical.{IsBefore}
use Rattle.json_text.specs.Members.{extra_text, member_texts}
use Rattle.json_text.specs.Trees.{others, others_from, unknown}
use Rattle.json_text.specs.Writing.{Writing, opened, closed, with_texts, with_value, items_after}
use Rattle.json_text.proofs.Closing.{closes_texts, closes_array, alone}
use Rattle.json_text.proofs.ReadBack.{join, join-nil, join-one, Parted, parted_more, parted_none, put-join}

-- each name comes before those that follow
abbrev pub NamesRise : Members → Type 0
NamesRise no_members = ⊤
NamesRise (member k d ms) = IsBefore k ms × NamesRise ms

unknown_from : (known : List ℕ → Bool) (ms done : Members) → NamesRise ms → Parted done ms → others_from known ms done ≡ join done (unknown known ms)
unfolding Parted
unknown_from known no_members done h p = sym (join-nil done)
unknown_from known (member k d ms) done h p = by (known k) (unknown_from known ms done h.1 p.1) (unknown_from known ms (join done (member k d no_members)) h.1 (parted_more ms done k d h.0 p.1))
  where
    by : (b : Bool) → others_from known ms done ≡ join done (unknown known ms)
        → others_from known ms (join done (member k d no_members)) ≡ join (join done (member k d no_members)) (unknown known ms)
        → (if b then others_from known ms done else others_from known ms (put k d done)) ≡ join done (if b then unknown known ms else member k d (unknown known ms))
    by true skipped kept = skipped
    by false skipped kept = ap (others_from known ms) (put-join done k d p.0) ∙ kept ∙ join-one done k d (unknown known ms)

others_unknown : (known : List ℕ → Bool) (ms : Members) → NamesRise ms → others known ms ≡ unknown known ms
unfolding join
others_unknown known ms h = unknown_from known ms no_members h (parted_none ms)

-- an object with no member has two bytes, and any other has more
filled : (ms : Members) (text : List ℕ) → text ≡ compact_text (object ms) → (if length text == 2 then [] else text) ≡ extra_text ms
filled no_members text e = ap (λ (s : List ℕ). if length s == 2 then [] else s) e
filled (member k d ms) text e = by (length text == 2) refl
  where
    long : length text ≡ 2 → ⊥
    long two =
        let whole : length text ≡ suc (suc (length ((escape k ++ 34 ∷ []) ++ 58 ∷ (compact_text d ++ members_text true ms)))) = ap length e in
        omega (arith, length-append (escape k ++ 34 ∷ []) (58 ∷ (compact_text d ++ members_text true ms)))

    by : (b : Bool) → (length text == 2) ≡ b → (if b then [] else text) ≡ compact_text (object (member k d ms))
    by true two = absurd (long (eqb-true (length text) 2 two))
    by false more = e

pub others_closed : (ms : Members) (w : Writing) (text : List ℕ) → w ≡ closed 125 (with_texts (member_texts ms) (opened 123 ([], false))) → text ≡ w.0
    → (if length text == 2 then [] else text) ≡ extra_text ms
others_closed ms w text e is = filled ms text (is ∙ alone w (object ms) (e ∙ closes_texts ms ([], false)))

-- ---- the names in a map rise

names_before : (k : String Global) (es : List Entry) → AllByRecursion (λ l. string_cmp k l ≡ Less) (keys_of es) → IsBefore (string_bytes k) (members_view es)
names_before k [] h = tt
names_before k (e ∷ es) h = (h.0, names_before k es h.1)

names_rise : (es : List Entry) → IsStrictlySortedBy string_cmp (keys_of es) → NamesRise (members_view es)
unfolding IsStrictlySortedBy
names_rise [] h = tt
names_rise (e ∷ es) h = (names_before e.0 es h.0, names_rise es h.1)

pub others_rising : (known : List ℕ → Bool) (es : List Entry) → IsStrictlySortedBy string_cmp (keys_of es) → unknown known (members_view es) ≡ others known (members_view es)
others_rising known es h = sym (others_unknown known (members_view es) (names_rise es h))

-- ---- items that were written, closed

pub items_closed : (vs : List Value) (i : ℕ) (now before : Writing) → length vs ≤ i
    → items_after (items_view (drop i vs)) now ≡ items_after (items_view vs) (opened 91 before) → closed 93 now ≡ with_value (array (items_view vs)) before
items_closed vs i now before le e =
    let none : drop i vs ≡ [] = drop_of_length-le vs le in
    ap (closed 93) (sym (ap (λ (us : List Value). items_after (items_view us) now) none) ∙ e) ∙ closes_array (items_view vs) before
