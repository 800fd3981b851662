-- Which objects are written, and that each is written once.
use Rattle.std.proofs.Common.{ℕ, zero, suc, ◌≡◌, ◌<◌, ◌+◌, ◌∙◌, Bool, true, false, true≢false, ◌||◌, ◌==◌, List, [], ◌∷◌, ◌++◌, length, Some, refl, sym, ap, subst, arith}
use Rattle.std.specs.Prelude.{slice_get, ⊤}
use Rattle.std.proofs.lemmas.Bool.Decides.{Decides-eqb}
use Rattle.kube_objects.specs.declared.key.Key.{Key}
use Rattle.kube_parts.specs.declared.parts.Kind.TheVariants as kinds
use Rattle.kube_objects.specs.declared.objects.Claim.{Claim as ClaimData}
use Rattle.kube_objects.specs.declared.objects.Node.{Node as NodeData}
use Rattle.kube_objects.specs.declared.objects.Volume.{Volume as VolumeData}
use Rattle.kube_objects.specs.declared.objects.Object.{Object}
use Rattle.kube_objects.specs.declared.objects.Object.TheVariants.{Volume, Claim}
use Rattle.kube_objects.specs.Keys.{AreRows, key_of, rows_of}
use Rattle.binder_model.specs.Choice.{AreShares, IsProvisioned, Share, TakesVolume, can_provision}
use Rattle.binder_model.specs.Matching.{eligible, is_excluded}
use Rattle.volume_index.specs.VolumeIndex.{as_volume}
use Rattle.volume_match.specs.Volumes.{volume_at}
use Rattle.model_laws.proofs.Lists.{none_some, one}
use Rattle.delayed_binding.specs.Choices.{binds_of, pair_of, provisions_of}
use Rattle.delayed_binding.proofs.Bests.{one_place}
use Rattle.delayed_binding.proofs.Known.{AreApart, Differ, Each}

-- an item of two lists together is one of the first or of the second

pub data IsOf {X : Type 0} (xs ys : List X) (i : ℕ) (x : X) : Type 0 where
  OfFirst : i < length xs → slice_get xs i ≡ Some x → IsOf xs ys i x
  OfSecond : (j : ℕ) → i ≡ length xs + j → slice_get ys j ≡ Some x → IsOf xs ys i x

pub item_of : {X : Type 0} (xs ys : List X) (i : ℕ) (x : X) → slice_get (xs ++ ys) i ≡ Some x → IsOf xs ys i x
item_of [] ys i x h = OfSecond i (plain i) h
  where
    plain : (n : ℕ) → n ≡ 0 + n
    plain n = omega arith
item_of (y ∷ xs) ys zero x h = OfFirst (omega arith) h
item_of (y ∷ xs) ys (suc i) x h = by (item_of xs ys i x h)
  where
    by : IsOf xs ys i x → IsOf (y ∷ xs) ys (suc i) x
    by (OfFirst lt at) = OfFirst (omega (arith, lt)) at
    by (OfSecond j is at) = OfSecond j (omega (arith, is)) at

-- what a claim takes, and what is to be provisioned

pub record IsBound (rows : List Object) (n : NodeData) (P : ClaimData → Type 0) (taken : List ℕ) (pair : Key × Key) : Type 0 where
  pub claim : ClaimData
  pub holds : P claim
  pub place : ℕ
  pub volume : VolumeData
  pub there : slice_get (rows_of kinds.PersistentVolume rows) place ≡ Some (Volume volume)
  pub out : is_excluded taken place ≡ false
  pub eligible : eligible volume claim (Some n) ≡ true
  pub first : pair.0 ≡ key_of (Claim claim)
  pub second : pair.1 ≡ key_of (Volume volume)

pub record IsToProvision (rows : List Object) (P : ClaimData → Type 0) (key : Key) : Type 0 where
  pub claim : ClaimData
  pub holds : P claim
  pub can : can_provision rows claim ≡ true
  pub is : key ≡ key_of (Claim claim)

or_right : (a b : Bool) → (a || b) ≡ false → b ≡ false
or_right true b e = absurd (true≢false e)
or_right false b e = e

module _ (rows : List Object) (n : NodeData) where
  pair_is : (c : ClaimData) (v : VolumeData) (place : ℕ) → slice_get (rows_of kinds.PersistentVolume rows) place ≡ Some (Volume v)
      → pair_of c (volume_at rows place) ≡ (key_of (Claim c), key_of (Volume v)) ∷ []
  pair_is c v place there = ap (λ o. pair_of c (as_volume o)) there

  module _ {P : ClaimData → Type 0} where
    earlier : (place : ℕ) (taken : List ℕ) (pair : Key × Key) → IsBound rows n P (place ∷ taken) pair → IsBound rows n P taken pair
    earlier place taken pair b = record {
      claim = b.claim;
      holds = b.holds;
      place = b.place;
      volume = b.volume;
      there = b.there;
      out = or_right
          (place == b.place) (is_excluded taken b.place) b.out;
      eligible = b.eligible;
      first = b.first;
      second = b.second;
    }

    pub bound_at : (cs : List ClaimData) (shares : List Share) (taken : List ℕ) → Each P cs → AreShares rows n taken cs shares
        → (i : ℕ) (pair : Key × Key) → slice_get (binds_of rows cs shares) i ≡ Some pair → IsBound rows n P taken pair
    bound_at [] [] taken h are i pair at = none_some at
    bound_at [] (TakesVolume place ∷ shares) taken h are i pair at = absurd are
    bound_at [] (IsProvisioned ∷ shares) taken h are i pair at = absurd are
    bound_at (c ∷ cs) [] taken h are i pair at = absurd are
    bound_at (c ∷ cs) (TakesVolume place ∷ shares) taken h are i pair at =
        by i (subst (λ ps. slice_get (ps ++ binds_of rows cs shares) i ≡ Some pair) (pair_is c are.0.volume place are.0.candidate.there) at)
        (λ j there. bound_at cs shares (place ∷ taken) h.1 are.1 j pair there)
      where
        head : IsBound rows n P taken (key_of (Claim c), key_of (Volume are.0.volume))
        head = record {
          claim = c;
          holds = h.0;
          place = place;
          volume = are.0.volume;
          there = are.0.candidate.there;
          out =
              are.0.candidate.open_to;
          eligible = are.0.candidate.eligible;
          first = refl;
          second = refl;
        }

        by : (i : ℕ) → slice_get ((key_of (Claim c), key_of (Volume are.0.volume)) ∷ binds_of rows cs shares) i ≡ Some pair
            → ((j : ℕ) → slice_get (binds_of rows cs shares) j ≡ Some pair → IsBound rows n P (place ∷ taken) pair) → IsBound rows n P taken pair
        by zero at rest = subst (λ p. IsBound rows n P taken p) (one _ pair at) head
        by (suc j) at rest = earlier place taken pair (rest j at)
    bound_at (c ∷ cs) (IsProvisioned ∷ shares) taken h are i pair at = bound_at cs shares taken h.1 are.2 i pair at

    pub provided_at : (cs : List ClaimData) (shares : List Share) (taken : List ℕ) → Each P cs → AreShares rows n taken cs shares
        → (i : ℕ) (key : Key) → slice_get (provisions_of cs shares) i ≡ Some key → IsToProvision rows P key
    provided_at [] [] taken h are i key at = none_some at
    provided_at [] (TakesVolume place ∷ shares) taken h are i key at = absurd are
    provided_at [] (IsProvisioned ∷ shares) taken h are i key at = absurd are
    provided_at (c ∷ cs) [] taken h are i key at = absurd are
    provided_at (c ∷ cs) (TakesVolume place ∷ shares) taken h are i key at = provided_at cs shares (place ∷ taken) h.1 are.1 i key at
    provided_at (c ∷ cs) (IsProvisioned ∷ shares) taken h are zero key at = record { claim = c; holds = h.0; can = are.1; is = sym (one (key_of (Claim c)) key at) }
    provided_at (c ∷ cs) (IsProvisioned ∷ shares) taken h are (suc i) key at = provided_at cs shares taken h.1 are.2 i key at

  -- no volume is taken twice

  module _ (order : AreRows rows) where
    bound_later : (place : ℕ) (v : VolumeData) (taken : List ℕ) (pair : Key × Key)
        → slice_get (rows_of kinds.PersistentVolume rows) place ≡ Some (Volume v) → IsBound rows n (λ c. ⊤) (place ∷ taken) pair → key_of (Volume v) ≡ pair.1 → ⊥
    bound_later place v taken pair at b same =
        let is = one_place rows order place b.place (Volume v) (Volume b.volume) at b.there (same ∙ b.second) in
        true≢false (sym (ap (λ t. t || is_excluded taken b.place) ((Decides-eqb place b.place).1 is)) ∙ b.out)

    pub one_bind : (cs : List ClaimData) (shares : List Share) (taken : List ℕ) → AreShares rows n taken cs shares → (i j : ℕ) (a b : Key × Key)
        → slice_get (binds_of rows cs shares) i ≡ Some a → slice_get (binds_of rows cs shares) j ≡ Some b → a.1 ≡ b.1 → i ≡ j
    one_bind [] [] taken are i j a b at bt same = none_some at
    one_bind [] (TakesVolume place ∷ shares) taken are i j a b at bt same = absurd are
    one_bind [] (IsProvisioned ∷ shares) taken are i j a b at bt same = absurd are
    one_bind (c ∷ cs) [] taken are i j a b at bt same = absurd are
    one_bind (c ∷ cs) (TakesVolume place ∷ shares) taken are i j a b at bt same =
        by i j (subst (λ ps. slice_get (ps ++ binds_of rows cs shares) i ≡ Some a) is at)
        (subst (λ ps. slice_get (ps ++ binds_of rows cs shares) j ≡ Some b) is bt) (λ k l x y. one_bind cs shares (place ∷ taken) are.1 k l a b x y same)
      where
        is : pair_of c (volume_at rows place) ≡ (key_of (Claim c), key_of (Volume are.0.volume)) ∷ []
        is = pair_is c are.0.volume place are.0.candidate.there

        all : (ds : List ClaimData) → Each (λ d. ⊤) ds
        all [] = tt
        all (d ∷ ds) = (tt, all ds)

        by : (i j : ℕ) → slice_get ((key_of (Claim c), key_of (Volume are.0.volume)) ∷ binds_of rows cs shares) i ≡ Some a
            → slice_get ((key_of (Claim c), key_of (Volume are.0.volume)) ∷ binds_of rows cs shares) j ≡ Some b
            → ((k l : ℕ) → slice_get (binds_of rows cs shares) k ≡ Some a → slice_get (binds_of rows cs shares) l ≡ Some b → k ≡ l) → i ≡ j
        by zero zero at bt rest = refl
        by zero (suc j) at bt rest = absurd (bound_later place are.0.volume taken b are.0.candidate.there
            (bound_at cs shares (place ∷ taken) (all cs) are.1 j b bt) (ap (λ (p : Key × Key). p.1) (one _ a at) ∙ same))
        by (suc i) zero at bt rest = absurd (bound_later place are.0.volume taken a are.0.candidate.there
            (bound_at cs shares (place ∷ taken) (all cs) are.1 i a at) (ap (λ (p : Key × Key). p.1) (one _ b bt) ∙ sym same))
        by (suc i) (suc j) at bt rest = ap suc (rest i j at bt)
    one_bind (c ∷ cs) (IsProvisioned ∷ shares) taken are i j a b at bt same = one_bind cs shares taken are.2 i j a b at bt same

  -- no claim is written twice
  pub one_provision : (cs : List ClaimData) (shares : List Share) (taken : List ℕ) → AreApart cs → AreShares rows n taken cs shares
      → (i j : ℕ) (key : Key) → slice_get (provisions_of cs shares) i ≡ Some key → slice_get (provisions_of cs shares) j ≡ Some key → i ≡ j
  one_provision [] [] taken h are i j key at bt = none_some at
  one_provision [] (TakesVolume place ∷ shares) taken h are i j key at bt = absurd are
  one_provision [] (IsProvisioned ∷ shares) taken h are i j key at bt = absurd are
  one_provision (c ∷ cs) [] taken h are i j key at bt = absurd are
  one_provision (c ∷ cs) (TakesVolume place ∷ shares) taken h are i j key at bt = one_provision cs shares (place ∷ taken) h.1 are.1 i j key at bt
  one_provision (c ∷ cs) (IsProvisioned ∷ shares) taken h are zero zero key at bt = refl
  one_provision (c ∷ cs) (IsProvisioned ∷ shares) taken h are zero (suc j) key at bt =
      let d = provided_at {P = Differ c} cs shares taken h.0 are.2 j key bt in
      absurd (d.holds (one (key_of (Claim c)) key at ∙ d.is))
  one_provision (c ∷ cs) (IsProvisioned ∷ shares) taken h are (suc i) zero key at bt =
      let d = provided_at {P = Differ c} cs shares taken h.0 are.2 i key at in
      absurd (d.holds (one (key_of (Claim c)) key bt ∙ d.is))
  one_provision (c ∷ cs) (IsProvisioned ∷ shares) taken h are (suc i) (suc j) key at bt = ap suc (one_provision cs shares taken h.1 are.2 i j key at bt)

  -- each claim has a share
  pub some_write : (c : ClaimData) (cs : List ClaimData) (shares : List Share) (taken : List ℕ) → AreShares rows n taken (c ∷ cs) shares
      → 0 < length (binds_of rows (c ∷ cs) shares) + length (provisions_of (c ∷ cs) shares)
  some_write c cs [] taken are = absurd are
  some_write c cs (TakesVolume place ∷ shares) taken are =
      subst (λ ps. 0 < length (ps ++ binds_of rows cs shares) + length (provisions_of cs shares))
      (sym (pair_is c are.0.volume place are.0.candidate.there)) (more (length (binds_of rows cs shares)) (length (provisions_of cs shares)))
    where
      more : (a b : ℕ) → 0 < suc a + b
      more a b = omega arith
  some_write c cs (IsProvisioned ∷ shares) taken are = more (length (binds_of rows cs shares)) (length (provisions_of cs shares))
    where
      more : (a b : ℕ) → 0 < a + suc b
      more a b = omega arith
