-- A member whose name is not known stays where the known ones are left out.
use Rattle.std.proofs.Common.{◌≡◌, ℕ, List, Bool, true, false, true≢false, Option, Some, None, Ordering, Less, Equal, Greater, nat_cmp, is_eq, if◌then◌else◌, refl, sym, ap, ◌∙◌}
use Rattle.std.specs.Option.{option_or}
use Rattle.std.specs.Ordering.{match_ordering}
use Rattle.std.specs.Cmp.Lexicographic.{slice_cmp}
use Rattle.std.proofs.lemmas.Cmp.{nat_list_cmp_total, tied_itself}
use Rattle.serde_json.specs.Data.{Data, Members, no_members, member, put}
use Rattle.serde_json.specs.Find.{get_member}
use Rattle.serde_json.proofs.Views.{get_member-put, get_member-put_other}
use Rattle.json_text.specs.Trees.{others, others_from}
use Rattle.json_text.specs.Canonical.{IsBefore, AreMembers}
use Rattle.json_text.proofs.PutAll.{equal_is}

apart : (k l : List ℕ) (o : Ordering) → slice_cmp nat_cmp k l ≡ o → is_eq o ≡ false → k ≡ l → ⊥
apart k l o is other same =
    let tied : Equal ≡ o = sym (tied_itself nat_list_cmp_total k) ∙ ap (slice_cmp nat_cmp k) same ∙ is in
    true≢false (ap is_eq tied ∙ other)

-- a name that comes before all names stands nowhere
none_before : (k : List ℕ) (ms : Members) → IsBefore k ms → get_member k ms ≡ None
none_before k no_members h = refl
none_before k (member l d ms) h = rw h.0 (none_before k ms h.1)

-- at a name that is not known stands the member of ms, or else that of acc
found_from : (known : List ℕ → Bool) (q : List ℕ) (ms acc : Members) → known q ≡ false → AreMembers ms → get_member q (others_from known ms acc) ≡ option_or (get_member q ms) (get_member q acc)
found_from known q no_members acc free h = refl
found_from known q (member k d ms) acc free h = by (slice_cmp nat_cmp q k) refl (known k) refl (found_from known q ms acc free h.2) (found_from known q ms (put k d acc) free h.2)
  where
    by : (o : Ordering) → slice_cmp nat_cmp q k ≡ o → (b : Bool) → known k ≡ b
        → get_member q (others_from known ms acc) ≡ option_or (get_member q ms) (get_member q acc)
        → get_member q (others_from known ms (put k d acc)) ≡ option_or (get_member q ms) (get_member q (put k d acc))
        → get_member q (if b then others_from known ms acc else others_from known ms (put k d acc)) ≡ option_or (match_ordering o (get_member q ms) (Some d) (get_member q ms)) (get_member q acc)
    by Less is true e skipped kept = skipped
    by Greater is true e skipped kept = skipped
    by Equal is true e skipped kept = absurd (true≢false (sym e ∙ sym (ap known (equal_is q k is)) ∙ free))
    by Less is false e skipped kept = kept ∙ ap (option_or (get_member q ms)) (get_member-put_other q k d acc (apart q k Less is refl))
    by Greater is false e skipped kept = kept ∙ ap (option_or (get_member q ms)) (get_member-put_other q k d acc (apart q k Greater is refl))
    by Equal is false e skipped kept =
        let same : q ≡ k = equal_is q k is in
        let none : get_member q ms ≡ None = ap (λ j. get_member j ms) same ∙ none_before k ms h.1 in
        let found : get_member q (put k d acc) ≡ Some d = ap (λ j. get_member j (put k d acc)) same ∙ get_member-put k d acc in
        kept ∙ rw (none, found) refl

or_none : (o : Option Data) → option_or o None ≡ o
or_none None = refl
or_none (Some d) = refl

pub member_kept : (known : List ℕ → Bool) (q : List ℕ) (ms : Members) → known q ≡ false → AreMembers ms → get_member q (others known ms) ≡ get_member q ms
member_kept known q ms free h = found_from known q ms no_members free h ∙ or_none (get_member q ms)
