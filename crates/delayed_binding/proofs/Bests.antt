-- There is one best volume, where those that stand in a namespace are set aside.
use Rattle.std.proofs.Common.{ℕ, zero, suc, ◌≡◌, ◌≢◌, ◌<◌, ◌+◌, ◌∙◌, Bool, true, false, true≢false, ◌||◌, ◌==◌, List, [], ◌∷◌, Option, Some, None, refl, sym, ap, subst, arith, if◌then◌else◌}
use Rattle.std.specs.Prelude.{slice_get}
use Rattle.std.specs.declared.cmp.Ordering.{Ordering}
use Rattle.std.specs.declared.cmp.Ordering.TheVariants.{Less, Equal, Greater}
use Rattle.std.specs.Ordering.{MatchOrdering, is_eq, is_lt, nat_cmp, ordering_reverse, ordering_then}
use Rattle.std.proofs.lemmas.Bool.Decides.{Decides-eqb}
use Rattle.std.proofs.lemmas.Cmp.{ranked, tied_itself}
use Rattle.std.proofs.lemmas.Map.Lookups.{exact_bytes}
use Rattle.kube_objects.specs.declared.key.Key.{Key}
use Rattle.kube_parts.specs.declared.parts.Kind.TheVariants as kinds
use Rattle.kube_objects.specs.declared.objects.Claim.{Claim as ClaimData}
use Rattle.kube_objects.specs.declared.objects.Node.{Node as NodeData}
use Rattle.kube_objects.specs.declared.objects.Volume.{Volume as VolumeData}
use Rattle.kube_objects.specs.declared.objects.Object.{Object}
use Rattle.kube_objects.specs.declared.objects.Object.TheVariants.{Volume}
use Rattle.kube_objects.specs.Bindings.{is_empty}
use Rattle.kube_objects.specs.Keys.{AreRows, is_of_kind, key_cmp, key_of, meta_of, rows_of}
use Rattle.kube_objects.proofs.KeyOrder.{key_cmp_total}
use Rattle.binder_model.specs.Matching.{IsBest, IsBestAt, IsCandidate, is_excluded, match_cmp}
use Rattle.volume_match.proofs.Scans.{match_total}
use Rattle.model_laws.proofs.Lists.{none_some, one}
use Rattle.delayed_binding.specs.Choices.{places_from, set_aside}
use Rattle.delayed_binding.specs.Steps.Sharing.{AreSame}
use Rattle.delayed_binding.proofs.Rounds.{empty_is, places_rise}

-- the volumes that are not excluded stand in no namespace
abbrev pub AreSetAside : List Object → List ℕ → Type 0
AreSetAside rows excluded = (place : ℕ) (o : Object) → slice_get (rows_of kinds.PersistentVolume rows) place ≡ Some o → is_excluded excluded place ≡ false → (meta_of o).namespace ≡ []

or_right : (a b : Bool) → (a || b) ≡ false → b ≡ false
or_right true b h = absurd (true≢false h)
or_right false b h = h

or_left : (a b : Bool) → (a || b) ≡ false → a ≡ false
or_left true b h = h
or_left false b h = refl

aside_from : (os : List Object) (at i : ℕ) (o : Object) → slice_get os i ≡ Some o → is_excluded (places_from at os) (at + i) ≡ false → (meta_of o).namespace ≡ []
aside_from [] at i o h out = none_some h
aside_from (x ∷ os) at zero o h out = subst (λ (y : Object). (meta_of y).namespace ≡ []) (one x o h) (empty_is (meta_of x).namespace (by (is_empty (meta_of x).namespace) out))
  where
    by : (b : Bool) → is_excluded (if b then places_from (at + 1) os else at ∷ places_from (at + 1) os) (at + 0) ≡ false → b ≡ true
    by true e = refl
    by false e = absurd (true≢false (sym ((Decides-eqb at (at + 0)).1 (omega arith)) ∙ or_left (at == at + 0) (is_excluded (places_from (at + 1) os) (at + 0)) e))
aside_from (x ∷ os) at (suc i) o h out = aside_from os (at + 1) i o h (subst (λ k. is_excluded (places_from (at + 1) os) k ≡ false) (moved at i) (by (is_empty (meta_of x).namespace) out))
  where
    moved : (a b : ℕ) → a + suc b ≡ (a + 1) + b
    moved a b = omega arith

    by : (b : Bool) → is_excluded (if b then places_from (at + 1) os else at ∷ places_from (at + 1) os) (at + suc i) ≡ false → is_excluded (places_from (at + 1) os) (at + suc i) ≡ false
    by true e = e
    by false e = or_right (at == at + suc i) (is_excluded (places_from (at + 1) os) (at + suc i)) e

pub set_aside_is : (rows : List Object) → AreSetAside rows (set_aside rows)
set_aside_is rows place o h out = aside_from (rows_of kinds.PersistentVolume rows) 0 place o h (subst (λ k. is_excluded (set_aside rows) k ≡ false) (plain place) out)
  where
    plain : (n : ℕ) → n ≡ 0 + n
    plain n = omega arith

pub aside_more : (rows : List Object) (excluded : List ℕ) (place : ℕ) → AreSetAside rows excluded → AreSetAside rows (place ∷ excluded)
aside_more rows excluded place aside k o h out = aside k o h (or_right (place == k) (is_excluded excluded k) out)

-- the best by the same places that are excluded

module _ (rows : List Object) (c : ClaimData) (on : Option NodeData) (own : Bool) (xs ys : List ℕ) (same : AreSame xs ys) where
  candidate_same : (place : ℕ) (v : VolumeData) → IsCandidate rows c on own xs place v → IsCandidate rows c on own ys place v
  candidate_same place v k = record { there = k.there; open_to = sym (same place) ∙ k.open_to; own = k.own; eligible = k.eligible }

  candidate_back : (place : ℕ) (v : VolumeData) → IsCandidate rows c on own ys place v → IsCandidate rows c on own xs place v
  candidate_back place v k = record { there = k.there; open_to = same place ∙ k.open_to; own = k.own; eligible = k.eligible }

  pub best_same : (answer : Option ℕ) → IsBest rows c on own xs answer → IsBest rows c on own ys answer
  best_same None none = λ place v k. none place v (candidate_back place v k)
  best_same (Some place) best = record {
    volume = best.volume;
    candidate = candidate_same place best.volume best.candidate;
    first = λ other u k. best.first other u (candidate_back other u k);
  }

-- one place

module _ (rows : List Object) (order : AreRows rows) where
  volume_keyed : (v u : VolumeData) → v.meta.namespace ≡ [] → u.meta.namespace ≡ [] → v.meta.name ≡ u.meta.name → key_of (Volume v) ≡ key_of (Volume u)
  volume_keyed v u e f g =
      let spaces : v.meta.namespace ≡ u.meta.namespace = e ∙ sym f in
      λ i. record { kind = kinds.PersistentVolume; namespace = spaces i; name = g i }

  pub one_place : (i j : ℕ) (a b : Object) → slice_get (rows_of kinds.PersistentVolume rows) i ≡ Some a → slice_get (rows_of kinds.PersistentVolume rows) j ≡ Some b → key_of a ≡ key_of b → i ≡ j
  one_place i j a b at bt same = by (nat_cmp i j) (ranked i j _ refl)
    where
      equal : key_cmp (key_of a) (key_of b) ≡ Equal
      equal = ap (λ (k : Key). key_cmp (key_of a) k) (sym same) ∙ tied_itself key_cmp_total (key_of a)

      back : key_cmp (key_of b) (key_of a) ≡ Equal
      back = ap (λ (k : Key). key_cmp (key_of b) k) same ∙ tied_itself key_cmp_total (key_of b)

      not_less : (o : Ordering) → o ≡ Equal → o ≡ Less → ⊥
      not_less o e f = true≢false (sym (ap is_lt f) ∙ ap is_lt e)

      by : (o : Ordering) → MatchOrdering o (i < j) (i ≡ j) (j < i) → i ≡ j
      by Less lt = absurd (not_less _ equal (places_rise key_cmp key_of (is_of_kind kinds.PersistentVolume) a b rows i j order lt at bt))
      by Equal e = e
      by Greater lt = absurd (not_less _ back (places_rise key_cmp key_of (is_of_kind kinds.PersistentVolume) b a rows j i order lt bt at))

  -- two that are not after each other have one name
  one_name : (c : ClaimData) (v u : VolumeData) → match_cmp c v u ≢ Greater → match_cmp c u v ≢ Greater → v.meta.name ≡ u.meta.name
  one_name c v u h k = exact_bytes v.meta.name u.meta.name (last _ _ (both (match_cmp c v u) h (subst (λ o. o ≢ Greater) ((match_total c).antisymm u v) k)))
    where
      both : (o : Ordering) → o ≢ Greater → ordering_reverse o ≢ Greater → o ≡ Equal
      both Less h k = absurd (k refl)
      both Equal h k = refl
      both Greater h k = absurd (h refl)

      last : (a b : Ordering) → ordering_then a b ≡ Equal → b ≡ Equal
      last Less b e = absurd (true≢false (sym (ap is_eq e)))
      last Equal b e = e
      last Greater b e = absurd (true≢false (sym (ap is_eq e)))

  module _ (c : ClaimData) (on : Option NodeData) (own : Bool) (excluded : List ℕ) (aside : AreSetAside rows excluded) where
    best_place : (p q : ℕ) → IsBestAt rows c on own excluded p → IsBestAt rows c on own excluded q → p ≡ q
    best_place p q a b =
        let name = one_name c a.volume b.volume (a.first q b.volume b.candidate) (b.first p a.volume a.candidate) in
        let first = aside p (Volume a.volume) a.candidate.there a.candidate.open_to in
        let second = aside q (Volume b.volume) b.candidate.there b.candidate.open_to in
        one_place p q (Volume a.volume) (Volume b.volume) a.candidate.there b.candidate.there (volume_keyed a.volume b.volume first second name)

    pub one_best : (p q : Option ℕ) → IsBest rows c on own excluded p → IsBest rows c on own excluded q → p ≡ q
    one_best None None a b = refl
    one_best (Some p) (Some q) a b = ap Some (best_place p q a b)
    one_best None (Some q) a b = absurd (a q b.volume b.candidate)
    one_best (Some p) None a b = absurd (b p a.volume a.candidate)
