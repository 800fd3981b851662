-- What is printed holds no float.
use Rattle.std.proofs.Common.{◌≡◌, ℕ, List, [], ◌∷◌, Bool, true, false, ◌||◌, ◌==◌, Option, Some, None, if◌then◌else◌, decimal, option_map, refl}
use Rattle.std.specs.Bool.{⊤}
use Rattle.std.specs.declared.cmp.Ordering.{Ordering}
use Rattle.std.specs.declared.cmp.Ordering.TheVariants.{Less, Equal, Greater}
use Rattle.std.specs.Ordering.{nat_cmp, match_ordering}
use Rattle.std.specs.Cmp.Lexicographic.{slice_cmp}
use Rattle.std.proofs.lemmas.Bool.{or_parts}
use Rattle.serde_json.specs.Data.{Data, null, boolean, number, string, array, object, Members, no_members, member, put}
use Rattle.serde_json.specs.Read.{read}
use Rattle.serde_json.specs.Written.{has_float, items_have_float, members_have_float}
use Rattle.json_text.specs.Build.{put_some, put_all}
use Rattle.json_text.specs.Trees.{members_in}
use Rattle.plain_data.specs.Pairs.{Pair}
use Rattle.json_text.specs.Members.{
  MemberList,
  text,
  filled,
  counted,
  object_of,
  items_data,
  array_data,
  filled_array,
  put_pairs,
  pairs_data,
  filled_pairs,
  filled_object,
  within,
  members_unless,
  extra_from,
  extra_members,
}

-- no float in the member, if there is one
abbrev pub NoFloat : Option Data → Type 0
NoFloat None = ⊤
NoFloat (Some d) = has_float d ≡ false

abbrev pub NoFloats : MemberList → Type 0
NoFloats [] = ⊤
NoFloats (p ∷ ps) = NoFloat p.1 × NoFloats ps

abbrev pub FloatFree : {X : Type 0} → (X → Data) → Type 0
FloatFree {X = X} data_of = (x : X) → has_float (data_of x) ≡ false

both_false : {a b : Bool} → a ≡ false → b ≡ false → (a || b) ≡ false
both_false ha hb = rw ha hb

float_put : (k : List ℕ) (d : Data) (ms : Members) → has_float d ≡ false → members_have_float ms ≡ false → members_have_float (put k d ms) ≡ false
float_put k d no_members hd hm = both_false hd refl
float_put k d (member l e ms) hd hm =
    let parts = or_parts (has_float e) (members_have_float ms) hm in
    placed (slice_cmp nat_cmp k l) parts.0 parts.1 (float_put k d ms hd parts.1)
  where
    placed : (o : Ordering) → has_float e ≡ false → members_have_float ms ≡ false → members_have_float (put k d ms) ≡ false
        → members_have_float (match_ordering o (member k d (member l e ms)) (member l d ms) (member l e (put k d ms))) ≡ false
    placed Less he hr rest = both_false hd hm
    placed Equal he hr rest = both_false hd hr
    placed Greater he hr rest = both_false he rest

float_put_some : (k : List ℕ) (o : Option Data) (ms : Members) → NoFloat o → members_have_float ms ≡ false → members_have_float (put_some k o ms) ≡ false
unfolding put_some
float_put_some k None ms h hm = hm
float_put_some k (Some d) ms h hm = float_put k d ms h hm

pub float_put_all : (ps : MemberList) (ms : Members) → NoFloats ps → members_have_float ms ≡ false → members_have_float (put_all ps ms) ≡ false
float_put_all [] ms h hm = hm
float_put_all (p ∷ ps) ms h hm = float_put_all ps (put_some p.0 p.1 ms) h.1 (float_put_some p.0 p.1 ms h.0 hm)

pub float_object_of : (ps : MemberList) → NoFloats ps → has_float (object_of ps) ≡ false
float_object_of ps h = float_put_all ps no_members h refl

pub float_filled : (s : List ℕ) → NoFloat (filled s)
float_filled [] = tt
float_filled (x ∷ xs) = refl

pub float_counted : (n : ℕ) → NoFloat (counted n)
float_counted n = by (n == 0)
  where
    by : (b : Bool) → NoFloat (if b then None else text (decimal n))
    by true = tt
    by false = refl

pub float_option : {X : Type 0} (data_of : X → Data) (o : Option X) → FloatFree data_of → NoFloat (option_map data_of o)
float_option data_of None h = tt
float_option data_of (Some x) h = h x

float_items : {X : Type 0} (data_of : X → Data) (xs : List X) → FloatFree data_of → items_have_float (items_data data_of xs) ≡ false
float_items data_of [] h = refl
float_items data_of (x ∷ xs) h = both_false (h x) (float_items data_of xs h)

pub float_array : {X : Type 0} (data_of : X → Data) (xs : List X) → FloatFree data_of → has_float (array_data data_of xs) ≡ false
float_array data_of xs h = float_items data_of xs h

pub float_filled_array : {X : Type 0} (data_of : X → Data) (xs : List X) → FloatFree data_of → NoFloat (filled_array data_of xs)
float_filled_array data_of [] h = tt
float_filled_array data_of (x ∷ xs) h = float_items data_of (x ∷ xs) h

pub string_free : (s : List ℕ) → has_float (string s) ≡ false
string_free s = refl

float_put_pairs : (ps : List Pair) (ms : Members) → members_have_float ms ≡ false → members_have_float (put_pairs ps ms) ≡ false
float_put_pairs [] ms hm = hm
float_put_pairs (p ∷ ps) ms hm = float_put_pairs ps (put_some p.0 (text p.1) ms) (float_put_some p.0 (text p.1) ms refl hm)

pub float_pairs : (ps : List Pair) → has_float (pairs_data ps) ≡ false
float_pairs ps = float_put_pairs ps no_members refl

pub float_filled_pairs : (ps : List Pair) → NoFloat (filled_pairs ps)
float_filled_pairs [] = tt
float_filled_pairs (p ∷ ps) = float_pairs (p ∷ ps)

pub float_filled_object : (ms : Members) → members_have_float ms ≡ false → NoFloat (filled_object ms)
float_filled_object no_members h = tt
float_filled_object (member k d ms) h = h

pub float_within : (k : List ℕ) (d : Data) → has_float d ≡ false → has_float (within k d) ≡ false
float_within k d h = float_object_of ((k, Some d) ∷ []) (h, tt)

float_members_in : (d : Data) → has_float d ≡ false → members_have_float (members_in d) ≡ false
float_members_in null h = refl
float_members_in (boolean b) h = refl
float_members_in (number n) h = refl
float_members_in (string s) h = refl
float_members_in (array ds) h = refl
float_members_in (object ms) h = h

pub float_extra : (kept : List ℕ) → members_have_float (extra_members kept) ≡ false
unfolding extra_members
float_extra kept = by (read kept)
  where
    unless : (b : Bool) (d : Data) → has_float d ≡ b → members_have_float (members_unless b d) ≡ false
    unless true d h = refl
    unless false d h = float_members_in d h

    by : (o : Option Data) → members_have_float (extra_from o) ≡ false
    by None = refl
    by (Some d) = unless (has_float d) d refl
