-- What is passed in an index is taken.
use Rattle.std.proofs.Common.{ℕ, ◌≡◌, ◌∙◌, Bool, true, false, ◌||◌, ◌==◌, List, [], ◌∷◌, Option, Some, None, IfSome, refl, sym, ap, subst}
use Rattle.std.specs.Prelude.{slice_get}
use Rattle.std.proofs.lemmas.Bool.Decides.{Decides-eqb}
use Rattle.kube_parts.specs.declared.parts.Kind.TheVariants as kinds
use Rattle.kube_objects.specs.declared.objects.Volume.{Volume as VolumeData}
use Rattle.kube_objects.specs.declared.objects.Object.{Object}
use Rattle.kube_objects.specs.declared.objects.Object.TheVariants.{Volume}
use Rattle.kube_objects.specs.Keys.{AreRows, is_of_kind, key_of, rows_of}
use Rattle.volume_index.specs.VolumeIndex.{Index}
use Rattle.kube_objects.proofs.KeyOrder.{key_cmp_total}
use Rattle.kube_objects.proofs.RowPlaces.{rising_filter}
use Rattle.binder_model.specs.Matching.{is_excluded}
use Rattle.volume_match.specs.declared.indexed.Found.{Found}
use Rattle.volume_match.specs.Passing.{IsFoundThere, PassedAreExcluded, StandsAt}
use Rattle.volume_match.proofs.Candidates.{one_place}
use Rattle.volume_match.proofs.Passed.{none_passed}
use Rattle.delayed_binding.specs.Steps.Sharing.{ArePassedIn, AreSame, IsPassedToo}

-- at first nothing is
pub passed_none_yet : (rows : List Object) (index : Option Index) (passed taken : List ℕ) → passed ≡ [] → ArePassedIn rows index passed taken
passed_none_yet rows None passed taken e = tt
passed_none_yet rows (Some i) passed taken e = subst (λ ps. PassedAreExcluded rows i.free ps taken) (sym e) (none_passed rows i.free taken)

-- nothing changes where nothing is given
pub passed_kept : (rows : List Object) (index : Option Index) (passed taken after_passed after_taken : List ℕ) → ArePassedIn rows index passed taken
    → after_passed ≡ passed → after_taken ≡ taken → ArePassedIn rows index after_passed after_taken
passed_kept rows index passed taken after_passed after_taken are e f = subst (λ ps. ArePassedIn rows index ps after_taken) (sym e) (subst (ArePassedIn rows index passed) (sym f) are)

or_true : (b : Bool) → (b || true) ≡ true
or_true true = refl
or_true false = refl

module _ (rows : List Object) (order : AreRows rows) (place : ℕ) (passed taken after_taken : List ℕ) (more : AreSame after_taken (place ∷ taken)) where
  -- a place more is taken
  wider : (free : List VolumeData) → PassedAreExcluded rows free passed taken → PassedAreExcluded rows free passed after_taken
  wider free are i p v marked here there = more p ∙ ap (λ b. (place == p) || b) (are i p v marked here there) ∙ or_true (place == p)

  -- and is passed in the index
  further : (free : List VolumeData) (at : ℕ) (after_passed : List ℕ) → PassedAreExcluded rows free passed taken → StandsAt rows free at place
      → AreSame after_passed (at ∷ passed) → PassedAreExcluded rows free after_passed after_taken
  further free at after_passed are stands marks i p v marked here there = by (at == i) refl (sym (marks i) ∙ marked)
    where
      by : (b : Bool) → (at == i) ≡ b → (b || is_excluded passed i) ≡ true → is_excluded after_taken p ≡ true
      by true is e =
          let same : at ≡ i = (Decides-eqb at i).0 is in
          let stood = stands v (subst (λ n. slice_get free n ≡ Some v) (sym same) here) in
          let one = one_place key_cmp_total key_of (rows_of kinds.PersistentVolume rows) place p (Volume v)
          (rising_filter key_cmp_total key_of (is_of_kind kinds.PersistentVolume) rows order) stood there in
          more p ∙ ap (λ b. b || is_excluded taken p) ((Decides-eqb place p).1 one)
      by false is e = wider free are i p v e here there

-- the volume that was found is taken, and passed where it was found
pub passed_more : (rows : List Object) (order : AreRows rows) (index : Option Index) (found : Found) (passed taken after_passed after_taken : List ℕ)
    → ArePassedIn rows index passed taken → IfSome index (λ i. IsFoundThere rows i.free (Some found))
    → IsPassedToo found.free passed after_passed → AreSame after_taken (found.place ∷ taken) → ArePassedIn rows index after_passed after_taken
passed_more rows order None found passed taken after_passed after_taken are there too more = tt
passed_more rows order (Some i) found passed taken after_passed after_taken are there too more = by found.free there too
  where
    by : (at : Option ℕ) → IfSome at (λ k. StandsAt rows i.free k found.place) → IsPassedToo at passed after_passed → PassedAreExcluded rows i.free after_passed after_taken
    by None there too = subst (λ ps. PassedAreExcluded rows i.free ps after_taken) (sym too) (wider rows order found.place passed taken after_taken more i.free are)
    by (Some k) there too = further rows order found.place passed taken after_taken more i.free k after_passed are there too
