-- A canonical text that was taken apart from its front is put together from its end.
use Rattle.std.proofs.Common.{
  ◌≡◌,
  ℕ,
  suc,
  ◌<◌,
  ◌≤◌,
  ◌-◌,
  ◌^◌,
  List,
  [],
  ◌∷◌,
  ◌++◌,
  length,
  take,
  Bool,
  true,
  false,
  Option,
  Some,
  None,
  MatchOption,
  IfSome,
  decimal,
  ◌==◌,
  ℤ,
  pos,
  negsuc,
  FitsSigned,
  w64,
  refl,
  sym,
  ap,
  ◌∙◌,
  arith,
  append_assoc,
  append-nil,
  subst,
  ◌+◌,
  length-append,
}
use Rattle.std.specs.Fmt.{signed_decimal}
use Rattle.std.proofs.Math.Seq.{take-append_seam}
use Rattle.std.proofs.lemmas.List.{nil_from_length}
use Rattle.std.proofs.lemmas.Bool.{eqb-true}
use Rattle.std.specs.declared.cmp.Ordering.TheVariants.{Less}
use Rattle.std.specs.Ordering.{nat_cmp}
use Rattle.std.specs.Cmp.Lexicographic.{slice_cmp}
use Rattle.json.specs.Print.{quoted}
use Rattle.serde_json.specs.Data.{unsigned, negative, null, boolean, number, string, array, object, no_items, item, Members, no_members, member}
use Rattle.serde_json.specs.Written.{comma_if, compact_text, items_text, members_text}
use Rattle.plain_data.specs.Pairs.{Pair, ArePairs}
use Rattle.json_text.specs.Build.{Good}
use Rattle.json_text.specs.Members.{member_texts, extra_members, extra_from, members_unless}
use Rattle.json_text.specs.Splitting.{ValueThen, ItemsThen, MemberThen, MembersThen, RowsThen}
use Rattle.serde_json.specs.Read.{read}
use Rattle.json_text.proofs.ReadBack.{read-compact_text}
use Rattle.json_text.proofs.MemberTexts.{texts_rise}
use Rattle.json_text.proofs.Closing.{no_extra}
use Rattle.json_text.proofs.Good.{before_less, good_string, good_item, good_items, good_none, good_object, no_float_good}

pub if_some : {X : Type 0} (P : Type 0) (Q : X → Type 0) (r : Option X) → MatchOption r P Q → IfSome r Q
if_some P Q None h = tt
if_some P Q (Some x) h = h

-- ---- values

pub string_then : (s rest text : List ℕ) → text ≡ quoted s ++ rest → ValueThen 0 rest text
string_then s rest text e = record { value = string s; good = good_string; parts = e }

pub number_then : (n : ℕ) (rest text : List ℕ) → n < 2 ^ 64 → text ≡ decimal n ++ rest → ValueThen 0 rest text
number_then n rest text few e = record { value = number (unsigned n); good = record { canonical = few; shallow = omega arith }; parts = e }

pub signed_then : (z : ℤ) (rest text : List ℕ) → FitsSigned w64 z → text ≡ signed_decimal z ++ rest → ValueThen 0 rest text
signed_then (pos n) rest text few e = number_then n rest text (omega (arith, few)) e
signed_then (negsuc n) rest text few e = record { value = number (negative (negsuc n)); good = record { canonical = omega (arith, few); shallow = omega arith }; parts = e }

pub true_then : (rest text : List ℕ) → text ≡ compact_text (boolean true) ++ rest → ValueThen 0 rest text
true_then rest text e = record { value = boolean true; good = record { canonical = tt; shallow = omega arith }; parts = e }

pub false_then : (rest text : List ℕ) → text ≡ compact_text (boolean false) ++ rest → ValueThen 0 rest text
false_then rest text e = record { value = boolean false; good = record { canonical = tt; shallow = omega arith }; parts = e }

pub null_then : (rest text : List ℕ) → text ≡ compact_text null ++ rest → ValueThen 0 rest text
null_then rest text e = record { value = null; good = record { canonical = tt; shallow = omega arith }; parts = e }

-- what does not nest is no deeper than any bound
pub leaf_then : (n : ℕ) (rest text : List ℕ) → ValueThen 0 rest text → ValueThen n rest text
leaf_then n rest text h = record { value = h.value; good = record { canonical = h.good.canonical; shallow = omega (arith, h.good.shallow) }; parts = h.parts }

pub array_then : (n : ℕ) (rest behind text : List ℕ) → 0 < n → text ≡ 91 ∷ behind → ItemsThen (n - 1) false rest behind → ValueThen n rest text
array_then n rest behind text some e h = record {
  value = array h.items;
  good = record { canonical = h.good.canonical; shallow = omega (arith, h.good.shallow) };
  parts = e ∙ ap (λ s. 91 ∷ s) h.parts;
}

pub object_then : (n : ℕ) (rest behind text : List ℕ) → 0 < n → text ≡ 123 ∷ behind → MembersThen (n - 1) false [] rest behind → ValueThen n rest text
object_then n rest behind text some e h = record {
  value = object h.members;
  good = record { canonical = h.good.canonical; shallow = omega (arith, h.good.shallow) };
  parts = e ∙ ap (λ s. 123 ∷ s) h.parts;
}

-- ---- items

pub items_end : (n : ℕ) (later : Bool) (rest text : List ℕ) → text ≡ 93 ∷ rest → ItemsThen n later rest text
items_end n later rest text e = record { items = no_items; good = good_items; parts = e }

regroup_item : (a c d m : List ℕ) → a ++ (c ++ (d ++ m)) ≡ (a ++ (c ++ d)) ++ m
regroup_item a c d m = simp append_assoc

pub items_more : (n : ℕ) (later : Bool) (rest mid at text : List ℕ) → text ≡ comma_if later ++ at → ValueThen n mid at → ItemsThen n true rest mid → ItemsThen n later rest text
items_more n later rest mid at text e v h = record {
  items = item v.value h.items;
  good = good_item v.good h.good;
  parts = e ∙ ap (λ s. comma_if later ++ s) (v.parts ∙ ap (λ s. compact_text v.value ++ s) h.parts) ∙ regroup_item (comma_if later) (compact_text v.value) (items_text true h.items) rest;
}

-- ---- members

pub members_end : (n : ℕ) (later : Bool) (last rest text : List ℕ) → text ≡ 125 ∷ rest → MembersThen n later last rest text
members_end n later last rest text e = record { members = no_members; good = good_none; rises = λ _. tt; parts = e }

regroup_member : (a k d m rest : List ℕ) → a ++ (k ++ 58 ∷ (d ++ (m ++ rest))) ≡ (a ++ (k ++ 58 ∷ (d ++ m))) ++ rest
regroup_member a k d m rest = simp append_assoc

-- the text of a value is what stands before its rest
pub own_text : (n : ℕ) (rest text : List ℕ) (h : ValueThen n rest text) → take (length text - length rest) text ≡ compact_text h.value
own_text n rest text h =
    let lengths : length text ≡ length (compact_text h.value) + length rest = ap length h.parts ∙ length-append (compact_text h.value) rest in
    let own : length text - length rest ≡ length (compact_text h.value) = omega arith in
    ap (λ k. take k text) own ∙ ap (take (length (compact_text h.value))) h.parts ∙ take-append_seam (compact_text h.value) rest

pub member_then : (n : ℕ) (later : Bool) (last name behind rest at text : List ℕ) → text ≡ comma_if later ++ at → at ≡ quoted name ++ 58 ∷ behind → ValueThen n rest behind
    → (later ≡ true → slice_cmp nat_cmp last name ≡ Less) → MemberThen n later last name (take (length behind - length rest) behind) rest text
member_then n later last name behind rest at text comma e h less =
    let own : take (length behind - length rest) behind ≡ compact_text h.value = own_text n rest behind h in
    record {
      value = h.value;
      good = h.good;
      is_own = own;
      rises = less;
      parts = comma ∙ ap (λ s. comma_if later ++ s) (e ∙ ap (λ s. quoted name ++ 58 ∷ s) (h.parts ∙ ap (λ s. s ++ rest) (sym own)));
    }

pub members_more : (n : ℕ) (later : Bool) (last name own rest mid text : List ℕ) → MemberThen n later last name own mid text → MembersThen n true name rest mid → MembersThen n later last rest text
members_more n later last name own rest mid text v h = record {
  members = member name v.value h.members;
  good = record { canonical = (v.good.canonical, (h.rises refl), h.good.canonical); shallow = omega (arith, v.good.shallow, h.good.shallow) };
  rises = λ some. (v.rises some, before_less last name h.members (v.rises some) (h.rises refl));
  parts = v.parts ∙ ap (λ s. comma_if later ++ (quoted name ++ 58 ∷ s)) (ap (λ s. s ++ mid) v.is_own ∙ ap (λ s. compact_text v.value ++ s) h.parts)
      ∙ regroup_member (comma_if later) (quoted name) (compact_text v.value) (members_text true h.members) rest;
}

-- ---- members as names and texts

pub rows_end : (n : ℕ) (later : Bool) (last rest text : List ℕ) → text ≡ 125 ∷ rest → RowsThen n later last [] rest text
unfolding members_end
rows_end n later last rest text e = record { taken = members_end n later last rest text e; are_rows = refl }

pub rows_more : (n : ℕ) (later : Bool) (last name own rest mid text : List ℕ) (rows : List Pair) → MemberThen n later last name own mid text
    → RowsThen n true name rows rest mid → RowsThen n later last ((name, own) ∷ rows) rest text
unfolding members_more
rows_more n later last name own rest mid text rows v h = record {
  taken = members_more n later last name own rest mid text v h.taken;
  are_rows = ap (λ s. (name, s) ∷ rows) v.is_own ∙ ap (λ ps. (name, compact_text v.value) ∷ ps) h.are_rows;
}

pub none_left : (xs : List ℕ) (b : Bool) → b ≡ (length xs == 0) → b ≡ true → xs ≡ []
none_left xs b e is = nil_from_length xs (eqb-true (length xs) 0 (sym e ∙ is))

-- a row more before the others
pub rows_step : (rows more pushed : List Pair) (row : Pair) (P : List Pair → Type 0) → pushed ≡ rows ++ row ∷ [] → P (rows ++ row ∷ more) → P (pushed ++ more)
rows_step rows more pushed row P e h = subst P (sym (append_assoc rows (row ∷ []) more) ∙ ap (λ ps. ps ++ more) (sym e)) h

-- members that were taken to the end of the text are those that it is read as
pub rows_kept : (n : ℕ) (rows : List Pair) (behind text : List ℕ) → n ≤ 126 → text ≡ 123 ∷ behind → RowsThen n false [] rows [] behind → rows ≡ member_texts (extra_members text)
unfolding extra_members
rows_kept n rows behind text few e h =
    let ms : Members = h.taken.members in
    let good : Good (suc n) (object ms) = good_object h.taken.good in
    let is_text : text ≡ compact_text (object ms) = e ∙ ap (λ s. 123 ∷ s) (h.taken.parts ∙ append-nil (members_text false ms)) in
    let is_read : read text ≡ Some (object ms) = ap read is_text ∙ read-compact_text (object ms) good.canonical (omega (arith, good.shallow)) in
    h.are_rows ∙ sym (ap member_texts (ap extra_from is_read ∙ ap (λ b. members_unless b (object ms)) (no_float_good good)))

-- an empty text is no object
pub no_rows : (text : List ℕ) → length text ≡ 0 → [] ≡ member_texts (extra_members text)
no_rows [] e = ap member_texts (sym (no_extra [] refl))
no_rows (x ∷ text) e = absurd (omega (arith, e))

pub rows_rise : (n : ℕ) (rows : List Pair) (rest behind : List ℕ) → RowsThen n false [] rows rest behind → ArePairs rows
rows_rise n rows rest behind h = subst ArePairs (sym h.are_rows) (texts_rise h.taken.members h.taken.good.canonical)
