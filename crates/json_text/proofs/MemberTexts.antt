-- Members kept as their names and the texts of their values.
use Rattle.std.proofs.Common.{◌≡◌, ℕ, List, [], ◌∷◌, ◌++◌, Some, None, Less, Equal, Greater, Ordering, nat_cmp, false, refl, sym, ap, subst, ◌∙◌, append_assoc, append-nil}
use Rattle.std.specs.Ordering.{match_ordering}
use Rattle.std.specs.Cmp.Lexicographic.{slice_cmp}
use Rattle.std.proofs.lemmas.Cmp.{nat_list_cmp_total}
use Rattle.serde_json.specs.Data.{Data, object, Members, no_members, member, put}
use Rattle.serde_json.specs.Written.{compact_text, has_float}
use Rattle.serde_json.specs.Read.{read}
use Rattle.plain_data.specs.Pairs.{Pair, ArePairs, pair_key, text_cmp}
use Rattle.plain_data.specs.Rows.{IsAfter}
use Rattle.json_text.specs.Build.{put_some, put_all}
use Rattle.json_text.specs.Canonical.{IsBefore, IsCanonical, AreMembers}
use Rattle.json_text.specs.Members.{MemberList, with_option, with_options, member_texts, with_member_text, then_texts, filled_object}
use Rattle.json_text.specs.Writing.{Writing, opened, closed, with_value, with_key, with_some, with_texts, with_filled_texts}
use Rattle.json_text.proofs.Closing.{closes_texts}
use Rattle.json_text.proofs.PutAll.{equal_is}
use Rattle.json_text.proofs.ReadValues.{canonical-read}

put_texts : (k : List ℕ) (d : Data) (ms : Members) → with_member_text k d (member_texts ms) ≡ member_texts (put k d ms)
put_texts k d no_members = refl
put_texts k d (member l e ms) = placed (slice_cmp nat_cmp k l) refl (put_texts k d ms)
  where
    placed : (o : Ordering) → slice_cmp nat_cmp k l ≡ o → with_member_text k d (member_texts ms) ≡ member_texts (put k d ms)
        → match_ordering (slice_cmp nat_cmp l k) ((l, compact_text e) ∷ with_member_text k d (member_texts ms))
        ((k, compact_text d) ∷ member_texts ms) ((k, compact_text d) ∷ (l, compact_text e) ∷ member_texts ms)
        ≡ member_texts (match_ordering o (member k d (member l e ms)) (member l d ms) (member l e (put k d ms)))
    placed Less is rest = rw (nat_list_cmp_total.antisymm l k, is) refl
    placed Equal is rest = rw (nat_list_cmp_total.antisymm l k, is) (ap (λ j. (j, compact_text d) ∷ member_texts ms) (equal_is k l is))
    placed Greater is rest = rw (nat_list_cmp_total.antisymm l k, is) (ap (λ rows. (l, compact_text e) ∷ rows) rest)

-- members put as texts are the members that were put
pub put_all_texts : (ps : MemberList) (ms : Members) → with_options with_member_text ps (member_texts ms) ≡ member_texts (put_all ps ms)
unfolding with_option put_some
put_all_texts [] ms = refl
put_all_texts ((k, None) ∷ ps) ms = put_all_texts ps ms
put_all_texts ((k, Some d) ∷ ps) ms = ap (with_options with_member_text ps) (put_texts k d ms) ∙ put_all_texts ps (put k d ms)

then_texts_is : (ms : Members) (rows : List Pair) → then_texts ms rows ≡ rows ++ member_texts ms
then_texts_is no_members rows = sym (append-nil rows)
then_texts_is (member k d ms) rows = then_texts_is ms (rows ++ (k, compact_text d) ∷ []) ∙ append_assoc rows ((k, compact_text d) ∷ []) (member_texts ms)

pub all_texts : (ms : Members) → then_texts ms [] ≡ member_texts ms
all_texts ms = then_texts_is ms []

before_after : (k text : List ℕ) (ms : Members) → IsBefore k ms → IsAfter text_cmp pair_key (k, text) (member_texts ms)
before_after k text no_members h = tt
before_after k text (member l d ms) h = (h.0, before_after k text ms h.1)

-- the texts of canonical members are in the order of their names
pub texts_rise : (ms : Members) → AreMembers ms → ArePairs (member_texts ms)
texts_rise no_members h = tt
texts_rise (member k d ms) h = (before_after k (compact_text d) ms h.1, texts_rise ms h.2)

pub object_texts_rise : (d : Data) (ms : Members) → IsCanonical d → d ≡ object ms → ArePairs (member_texts ms)
object_texts_rise d ms h is = texts_rise ms (subst IsCanonical is h)

pub read_canonical : (text : List ℕ) (d : Data) → read text ≡ Some d → has_float d ≡ false → IsCanonical d
read_canonical = canonical-read

-- members over those that are kept, between the brackets, are the object
pub closes_over : (ps : MemberList) (ms : Members) (w : Writing) → closed 125 (with_texts (with_options with_member_text ps (member_texts ms)) (opened 123 w)) ≡ with_value (object (put_all ps ms)) w
closes_over ps ms w = ap (λ rows. closed 125 (with_texts rows (opened 123 w))) (put_all_texts ps ms) ∙ closes_texts (put_all ps ms) w

filled_texts : (k : List ℕ) (ms : Members) (w : Writing) → with_filled_texts k (member_texts ms) w ≡ with_some k (filled_object ms) w
unfolding with_option
filled_texts k no_members w = refl
filled_texts k (member l d ms) w = closes_texts (member l d ms) (with_key k w)

pub closes_filled : (ps : MemberList) (ms : Members) (k : List ℕ) (w : Writing)
    → with_filled_texts k (with_options with_member_text ps (member_texts ms)) w ≡ with_some k (filled_object (put_all ps ms)) w
closes_filled ps ms k w = ap (λ rows. with_filled_texts k rows w) (put_all_texts ps ms) ∙ filled_texts k (put_all ps ms) w
