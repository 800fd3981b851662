-- What is counted stands in the order of keys, and growth changes no key.
use Rattle.std.proofs.Common.{◌≡◌, ℕ, suc, ◌+◌, ◌<◌, List, [], ◌∷◌, Bool, true, false, cond, refl, subst, sym, ap, arith, length, get_or, slice_set}
use Rattle.std.specs.Prelude.{◌^◌}
use Rattle.plain_data.specs.Rows.{IsAfter}
use Rattle.kube_parts.specs.declared.uid.Uid.{Uid}
use Rattle.kube_objects.specs.declared.objects.Object.{Object}
use Rattle.kube_objects.specs.declared.objects.Object.TheVariants.{Class, Node, Volume, Claim, Pod}
use Rattle.kube_objects.specs.Keys.{AreRows, key_cmp, key_of}
use Rattle.quota_rules.specs.declared.counted.Counted.{Counted}
use Rattle.quota_rules.specs.Counting.{AreCounted, HasRoom, HasRoomIf, claims_in, counted_key, counted_of, grown_in, is_claim_of}
use Rattle.quota_rules.specs.Steps.Places.{place_of_uid}

after_claims : (x : Counted) (o : Object) → x.key ≡ key_of o → (os : List Object) → IsAfter key_cmp key_of o os → IsAfter key_cmp counted_key x (claims_in os)
after_claims x o e [] a = tt
after_claims x o e (Class y ∷ os) a = after_claims x o e os a.1
after_claims x o e (Node y ∷ os) a = after_claims x o e os a.1
after_claims x o e (Volume y ∷ os) a = after_claims x o e os a.1
after_claims x o e (Claim y ∷ os) a = (rw e a.0, after_claims x o e os a.1)
after_claims x o e (Pod y ∷ os) a = after_claims x o e os a.1

pub claims_rise : (os : List Object) → AreRows os → AreCounted (claims_in os)
claims_rise [] r = tt
claims_rise (Class y ∷ os) r = claims_rise os r.1
claims_rise (Node y ∷ os) r = claims_rise os r.1
claims_rise (Volume y ∷ os) r = claims_rise os r.1
claims_rise (Claim y ∷ os) r = (after_claims (counted_of y) (Claim y) refl os r.0, claims_rise os r.1)
claims_rise (Pod y ∷ os) r = claims_rise os r.1

module _ (namespace : List ℕ) (uid : Uid) (more : ℕ) where
  after_grown : (z : Counted) (xs : List Counted) → IsAfter key_cmp counted_key z xs → IsAfter key_cmp counted_key z (grown_in namespace uid more xs)
  after_grown z [] a = tt
  after_grown z (x ∷ xs) a = by (is_claim_of namespace uid x) (after_grown z xs a.1)
    where
      by : (b : Bool) → IsAfter key_cmp counted_key z (grown_in namespace uid more xs)
          → IsAfter key_cmp counted_key z (cond b (record x { asked = x.asked + more } ∷ xs) (x ∷ grown_in namespace uid more xs))
      by true rest = (a.0, a.1)
      by false rest = (a.0, rest)

  pub grown_rise : (xs : List Counted) → AreCounted xs → AreCounted (grown_in namespace uid more xs)
  grown_rise [] r = tt
  grown_rise (x ∷ xs) r = by (is_claim_of namespace uid x) (grown_rise xs r.1)
    where
      same_after : (ys : List Counted) → IsAfter key_cmp counted_key x ys → IsAfter key_cmp counted_key (record x { asked = x.asked + more }) ys
      same_after [] a = tt
      same_after (y ∷ ys) a = (a.0, same_after ys a.1)

      by : (b : Bool) → AreCounted (grown_in namespace uid more xs) → AreCounted (cond b (record x { asked = x.asked + more } ∷ xs) (x ∷ grown_in namespace uid more xs))
      by true rest = (same_after xs r.0, r.1)
      by false rest = (after_grown x xs r.0, rest)

  -- the place is there, the sum stays below 2^64, and the row at the place grows
  pub record GrowsAt (xs : List Counted) (i : ℕ) : Type 0 where
    pub there : i < length xs
    pub room : (d : Counted) → (get_or xs i d).asked + more < 2 ^ 64
    pub grown : (d : Counted) → grown_in namespace uid more xs ≡ slice_set xs i (record (get_or xs i d) { asked = (get_or xs i d).asked + more })

  pub grows_at : (xs : List Counted) → HasRoom namespace uid more xs → GrowsAt xs (place_of_uid namespace uid xs)
  grows_at [] h = absurd h
  grows_at (x ∷ xs) h = by (is_claim_of namespace uid x) refl h (grows_at xs)
    where
      by : (b : Bool) → is_claim_of namespace uid x ≡ b → HasRoomIf b (x.asked + more < 2 ^ 64) (HasRoom namespace uid more xs)
          → (HasRoom namespace uid more xs → GrowsAt xs (place_of_uid namespace uid xs))
          → GrowsAt (x ∷ xs) (cond b 0 (1 + place_of_uid namespace uid xs))
      by true e room rest = record { there = omega arith; room = λ d. room; grown = λ d. rw e refl }
      by false e room rest =
          let g = rest room in
          let next : 1 + place_of_uid namespace uid xs ≡ suc (place_of_uid namespace uid xs) = omega arith in
          subst (GrowsAt (x ∷ xs)) (sym next) (record {
            there = omega (arith, g.there);
            room = λ d. g.room d;
            grown = λ d. rw e (ap (λ ys. x ∷ ys) (g.grown d));
          })
