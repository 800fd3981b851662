-- Which volume may be bound to a claim, computed.
use Rattle.std.proofs.Common.{sym, refl, ap, subst, true≢false, ◌∙◌}
use Rattle.std.specs.Prelude.{ℕ, zero, suc, ◌≡◌, ◌≢◌, Bool, true, false, List, [], ◌∷◌, Option, Some, None, is_none, codes, slice_get}
use Rattle.std.specs.declared.cmp.Ordering.{Ordering}
use Rattle.std.specs.declared.cmp.Ordering.TheVariants.{Greater}
use Rattle.kube_parts.specs.declared.parts.Kind.TheVariants as kinds
use Rattle.kube_objects.specs.declared.objects.Volume.{Volume as VolumeData}
use Rattle.kube_objects.specs.declared.objects.Object.{Object}
use Rattle.kube_objects.specs.declared.objects.Object.TheVariants.{Volume}
use Rattle.kube_objects.specs.Keys.{rows_of}
use Rattle.binder_model.specs.Matching.{eligible, match_cmp, only_own_passes, IsCandidate}
use Rattle.model_examples.specs.Samples.{a, c, n1}
use Rattle.model_examples.specs.Eligible.{EligibleExamples, PreferenceExamples, BestExamples, in_zone, sized, large_own, two_free, one_own, far_rows}
use Rattle.model_examples.proofs.Tellings.{differ}

pub eligible_examples : EligibleExamples
eligible_examples = record {
  free_volume = refl;
  of_the_very_size = refl;
  too_small = refl;
  deleting_volume = refl;
  unprotected_volume = refl;
  of_other_class = refl;
  of_no_class = refl;
  of_no_class_for_a_claim_without = refl;
  of_no_class_for_the_empty_class = refl;
  of_a_class_for_a_claim_without = refl;
  class_in_the_annotation = refl;
  class_of_the_claim_in_its_annotation = refl;
  block_for_a_claim_of_files = refl;
  files_for_a_claim_of_a_block = refl;
  block_for_a_claim_of_a_block = refl;
  more_modes_than_wanted = refl;
  lacks_read_write_once = refl;
  lacks_read_only_many = refl;
  lacks_read_write_many = refl;
  lacks_one_pod = refl;
  lacks_one_of_two = refl;
  not_selected = refl;
  selected = refl;
  far_from_the_node = refl;
  near_the_node = refl;
  far_where_no_node_is_given = refl;
  not_available_yet = refl;
  not_available_but_for_it = refl;
  available_and_for_it = refl;
  taken_for_it = refl;
  bound_for_it = refl;
  released_for_it = refl;
  failed_for_it = refl;
  for_other_name = refl;
  for_other_namespace = refl;
  for_other_uid = refl;
}

pub preference_examples : PreferenceExamples
preference_examples = record {
  own_before_smaller = refl;
  own_before_fewer_modes = refl;
  other_after_own = refl;
  fewer_modes_before_smaller = refl;
  read_write_once_is_a_mode = refl;
  read_only_many_is_a_mode = refl;
  read_write_many_is_a_mode = refl;
  one_pod_is_a_mode = refl;
  two_modes_before_three = refl;
  which_mode_is_not_asked = refl;
  smaller_before_first_name = refl;
  first_name_last = refl;
  second_name_after = refl;
  itself = refl;
}

abbrev small_b : VolumeData
small_b = sized (codes "b") 4

abbrev is_greater : Ordering → Bool
is_greater Greater = true
is_greater o = false

abbrev volume_or : VolumeData → Option Object → VolumeData
volume_or v (Some (Volume u)) = u
volume_or v o = v

-- the volume at a place is the one that stands there
pub same_at : (rows : List Object) (place : ℕ) (v u : VolumeData) → slice_get (rows_of kinds.PersistentVolume rows) place ≡ Some (Volume v)
    → slice_get (rows_of kinds.PersistentVolume rows) place ≡ Some (Volume u) → v ≡ u
same_at rows place v u e f = ap (volume_or v) (sym e) ∙ ap (volume_or v) f

not_before : (v u w : VolumeData) → u ≡ w → is_greater (match_cmp c v u) ≡ false → match_cmp c v w ≢ Greater
not_before v u w e late greater = true≢false (sym (ap is_greater (subst (λ w. match_cmp c v w ≡ Greater) (sym e) greater)) ∙ late)

b_is_best : (other : ℕ) (u : VolumeData) → IsCandidate two_free c None false [] other u → match_cmp c small_b u ≢ Greater
b_is_best zero u candidate = not_before small_b a u (same_at two_free 0 a u refl candidate.there) refl
b_is_best (suc zero) u candidate = not_before small_b small_b u (same_at two_free 1 small_b u refl candidate.there) refl
b_is_best (suc (suc other)) u candidate = absurd (differ is_none candidate.there refl refl)

a_is_left : (other : ℕ) (u : VolumeData) → IsCandidate two_free c None false (1 ∷ []) other u → match_cmp c a u ≢ Greater
a_is_left zero u candidate = not_before a a u (same_at two_free 0 a u refl candidate.there) refl
a_is_left (suc zero) u candidate = absurd (true≢false candidate.open_to)
a_is_left (suc (suc other)) u candidate = absurd (differ is_none candidate.there refl refl)

none_own : (place : ℕ) (u : VolumeData) → IsCandidate two_free c None true [] place u → ⊥
none_own zero u candidate = true≢false (sym (subst (λ v. only_own_passes true v c ≡ true) (sym (same_at two_free 0 a u refl candidate.there)) candidate.own))
none_own (suc zero) u candidate = true≢false (sym (subst (λ v. only_own_passes true v c ≡ true) (sym (same_at two_free 1 small_b u refl candidate.there)) candidate.own))
none_own (suc (suc other)) u candidate = differ is_none candidate.there refl refl

own_is_best : (other : ℕ) (u : VolumeData) → IsCandidate one_own c None true [] other u → match_cmp c large_own u ≢ Greater
own_is_best zero u candidate = absurd (true≢false (sym (subst (λ v. only_own_passes true v c ≡ true) (sym (same_at one_own 0 a u refl candidate.there)) candidate.own)))
own_is_best (suc zero) u candidate = not_before large_own large_own u (same_at one_own 1 large_own u refl candidate.there) refl
own_is_best (suc (suc other)) u candidate = absurd (differ is_none candidate.there refl refl)

abbrev far_a : VolumeData
far_a = in_zone (codes "z2")

none_near : (place : ℕ) (u : VolumeData) → IsCandidate far_rows c (Some n1) false [] place u → ⊥
none_near zero u candidate = true≢false (sym (subst (λ v. eligible v c (Some n1) ≡ true) (sym (same_at far_rows 0 far_a u refl candidate.there)) candidate.eligible))
none_near (suc other) u candidate = differ is_none candidate.there refl refl

candidate_b : IsCandidate two_free c None false [] 1 small_b
candidate_b = record { there = refl; open_to = refl; own = refl; eligible = refl }

pub best_examples : BestExamples
best_examples = record {
  smaller_is_best = record { volume = small_b; candidate = candidate_b; first = b_is_best };
  larger_is_not = λ best. best.first 1 small_b candidate_b (subst (λ v. match_cmp c v small_b ≡ Greater) (same_at two_free 0 a best.volume refl best.candidate.there) refl);
  none_is_no_answer = λ none. none 1 small_b candidate_b;
  no_volume_stands_there = λ best. differ is_none best.candidate.there refl refl;
  other_where_best_is_given_away = record { volume = a; candidate = record { there = refl; open_to = refl; own = refl; eligible = refl }; first = a_is_left };
  given_away_is_not = λ best. true≢false best.candidate.open_to;
  none_of_its_own = none_own;
  other_is_not_its_own = λ best. true≢false (sym (subst (λ v. only_own_passes true v c ≡ true) (sym (same_at one_own 0 a best.volume refl best.candidate.there)) best.candidate.own));
  its_own = record { volume = large_own; candidate = record { there = refl; open_to = refl; own = refl; eligible = refl }; first = own_is_best };
  none_near_the_node = none_near;
  far_is_not_best = λ best. none_near 0 best.volume best.candidate;
}
