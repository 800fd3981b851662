-- The members that were written, closed, are the object.
use Rattle.std.proofs.Common.{◌≡◌, ℕ, List, [], ◌∷◌, ◌++◌, Bool, true, false, Some, None, refl, sym, ap, ◌∙◌, append_assoc, append-nil, true≢false}
use Rattle.std.specs.declared.cmp.Ordering.{Ordering}
use Rattle.std.specs.declared.cmp.Ordering.TheVariants.{Less, Equal, Greater}
use Rattle.std.specs.Ordering.{nat_cmp, match_ordering}
use Rattle.std.specs.Cmp.Lexicographic.{slice_cmp}
use Rattle.json.specs.Print.{quoted}
use Rattle.serde_json.specs.Data.{Data, object, array, Items, no_items, item, Members, no_members, member}
use Rattle.serde_json.specs.Written.{comma_if, compact_text, members_text, items_text}
use Rattle.json_text.specs.Build.{put_some, put_all}
use Rattle.json_text.specs.Members.{MemberList, with_option, pair_members, put_pairs, pairs_data, member_texts, extra_members, within}
use Rattle.plain_data.specs.Pairs.{Pair, ArePairs}
use Rattle.serde_json.proofs.OnLiterals.{serde_json_on_literals}
use Rattle.json_text.specs.Canonical.{IsBefore}
use Rattle.json_text.proofs.Good.{before_less}
use Rattle.json_text.proofs.ReadBack.{join, join-nil, join-one, Parted, parted_more, parted_none, put-join}
use Rattle.json_text.specs.Writing.{Writing, after_comma, with_text, with_value, with_key, opened, closed, with_all, names_rise, rise_from, items_after, with_texts}

-- the members that are there
abbrev pub listed : MemberList → Members
listed [] = no_members
listed ((k, None) ∷ ps) = listed ps
listed ((k, Some d) ∷ ps) = member k d (listed ps)

regroup : (a c q d : List ℕ) (m : List ℕ) → ((((a ++ c) ++ q) ++ 58 ∷ []) ++ []) ++ d ++ m ≡ a ++ (c ++ (q ++ 58 ∷ (d ++ m)))
regroup a c q d m = simp (append_assoc, append-nil)

-- text that is closed after the members
closes_members : (ps : MemberList) (w : Writing) → (with_all ps w).0 ++ 125 ∷ [] ≡ w.0 ++ members_text w.1 (listed ps)
unfolding with_option with_text with_key after_comma
closes_members [] w = refl
closes_members ((k, None) ∷ ps) w = closes_members ps w
closes_members ((k, Some d) ∷ ps) w =
    closes_members ps (with_value d (with_key k w))
    ∙ append_assoc _ (compact_text d) (members_text true (listed ps))
    ∙ ap (λ s. s ++ (compact_text d ++ members_text true (listed ps))) (append-nil _)
    ∙ append_assoc _ (58 ∷ []) _
    ∙ append_assoc _ (quoted k) _
    ∙ append_assoc w.0 (comma_if w.1) _

if_less : (o : Ordering) (b : Bool) → match_ordering o b false false ≡ true → (o ≡ Less) × (b ≡ true)
if_less Less b h = (refl, h)
if_less Equal b h = absurd (true≢false (sym h))
if_less Greater b h = absurd (true≢false (sym h))

-- each name that follows is greater
before_listed : (k : List ℕ) (ps : MemberList) → rise_from k ps ≡ true → IsBefore k (listed ps)
before_listed k [] h = tt
before_listed k ((l, None) ∷ ps) h =
    let p = if_less (slice_cmp nat_cmp k l) (rise_from l ps) h in
    before_less k l (listed ps) p.0 (before_listed l ps p.1)
before_listed k ((l, Some d) ∷ ps) h =
    let p = if_less (slice_cmp nat_cmp k l) (rise_from l ps) h in
    (p.0, before_less k l (listed ps) p.0 (before_listed l ps p.1))

rise_on : (k : List ℕ) (ps : MemberList) → rise_from k ps ≡ true → names_rise ps ≡ true
rise_on k [] h = refl
rise_on k (p ∷ ps) h = (if_less (slice_cmp nat_cmp k p.0) (rise_from p.0 ps) h).1

put_listed : (ps : MemberList) (done : Members) → names_rise ps ≡ true → Parted done (listed ps) → put_all ps done ≡ join done (listed ps)
unfolding put_some Parted
put_listed [] done h p = sym (join-nil done)
put_listed ((k, None) ∷ ps) done h p = put_listed ps done (rise_on k ps h) p
put_listed ((k, Some d) ∷ ps) done h p =
    ap (put_all ps) (put-join done k d p.0)
    ∙ put_listed ps (join done (member k d no_members)) (rise_on k ps h) (parted_more (listed ps) done k d (before_listed k ps h) p.1)
    ∙ join-one done k d (listed ps)

pub put_rising : (ps : MemberList) → names_rise ps ≡ true → put_all ps no_members ≡ listed ps
unfolding join
put_rising ps h = put_listed ps no_members h (parted_none (listed ps))

-- members whose names rise, between the brackets, are the object
pub closes : (ps : MemberList) (w : Writing) → names_rise ps ≡ true → closed 125 (with_all ps (opened 123 w)) ≡ with_value (object (put_all ps no_members)) w
unfolding closed opened with_text after_comma
closes ps w h =
    ap (λ s. (s, true)) (closes_members ps (opened 123 w) ∙ append_assoc _ (123 ∷ []) _ ∙ ap (λ ms. (w.0 ++ comma_if w.1) ++ 123 ∷ members_text false ms) (sym (put_rising ps h)))

-- items, one after another, between the brackets
closes_items : (ds : Items) (w : Writing) → (items_after ds w).0 ++ 93 ∷ [] ≡ w.0 ++ items_text w.1 ds
unfolding with_text after_comma
closes_items no_items w = refl
closes_items (item d ds) w =
    closes_items ds (with_value d w) ∙ append_assoc _ (compact_text d) _ ∙ append_assoc w.0 (comma_if w.1) _

pub closes_array : (ds : Items) (w : Writing) → closed 93 (items_after ds (opened 91 w)) ≡ with_value (array ds) w
unfolding closed opened with_text after_comma
closes_array ds w = ap (λ s. (s, true)) (closes_items ds (opened 91 w) ∙ append_assoc _ (91 ∷ []) _)

pub closes_within : (k : List ℕ) (d : Data) (w : Writing) → closed 125 (with_all ((k, Some d) ∷ []) (opened 123 w)) ≡ with_value (within k d) w
closes_within k d w = closes ((k, Some d) ∷ []) w refl

-- pairs in the order of their keys
pairs_put : (ps : List Pair) (ms : Members) → put_pairs ps ms ≡ put_all (pair_members ps) ms
pairs_put [] ms = refl
pairs_put (p ∷ ps) ms = pairs_put ps _

pairs_rise : (ps : List Pair) → ArePairs ps → names_rise (pair_members ps) ≡ true
pairs_rise [] h = refl
pairs_rise (p ∷ []) h = refl
pairs_rise (p ∷ q ∷ ps) h =
    let less : slice_cmp nat_cmp p.0 q.0 ≡ Less = h.0.0 in
    rw less (pairs_rise (q ∷ ps) h.1)

pub closes_pairs : (ps : List Pair) (w : Writing) → ArePairs ps → closed 125 (with_all (pair_members ps) (opened 123 w)) ≡ with_value (pairs_data ps) w
closes_pairs ps w h = closes (pair_members ps) w (pairs_rise ps h) ∙ ap (λ ms. with_value (object ms) w) (sym (pairs_put ps no_members))

-- members whose values are texts already
closes_texts_from : (ms : Members) (w : Writing) → (with_texts (member_texts ms) w).0 ++ 125 ∷ [] ≡ w.0 ++ members_text w.1 ms
unfolding with_text with_key after_comma
closes_texts_from no_members w = refl
closes_texts_from (member k d ms) w =
    closes_texts_from ms (with_value d (with_key k w))
    ∙ append_assoc _ (compact_text d) (members_text true ms)
    ∙ ap (λ s. s ++ (compact_text d ++ members_text true ms)) (append-nil _)
    ∙ append_assoc _ (58 ∷ []) _
    ∙ append_assoc _ (quoted k) _
    ∙ append_assoc w.0 (comma_if w.1) _

pub closes_texts : (ms : Members) (w : Writing) → closed 125 (with_texts (member_texts ms) (opened 123 w)) ≡ with_value (object ms) w
unfolding closed opened with_text after_comma
closes_texts ms w = ap (λ s. (s, true)) (closes_texts_from ms (opened 123 w) ∙ append_assoc _ (123 ∷ []) _)

-- no text is kept: no members
pub no_extra : (kept : List ℕ) → kept ≡ [] → extra_members kept ≡ no_members
unfolding extra_members serde_json_on_literals
no_extra kept none = ap extra_members none

-- a value alone
pub alone : (w : Writing) (d : Data) → w ≡ with_value d ([], false) → w.0 ≡ compact_text d
unfolding with_text after_comma
alone w d e = ap (λ (v : Writing). v.0) e
