-- What stands at the place that a search finds.
use Rattle.std.proofs.Common.{◌≡◌, ℕ, ◌+◌, ◌<◌, suc, Bool, true, false, not, cond, List, [], ◌∷◌, length, Some, slice_get, position, refl, sym, subst, arith}
use Rattle.std.specs.List.{position_or_len}
use Rattle.std.specs.Map.{keys_of}
use Rattle.indexmap.proofs.MapLemmas.{Found-position}

module _ {K X : Type 0} (t : K → Bool) where
  -- the entry at the place passes the test
  pub record StandsAt (es : List (K × X)) (i : ℕ) : Type 0 where
    pub key : K
    pub value : X
    pub at : slice_get es i ≡ Some (key, value)
    pub passes : t key ≡ true

  first_at : (es : List (K × X)) → position_or_len t (keys_of es) < length es → StandsAt es (position_or_len t (keys_of es))
  first_at [] h = absurd (omega arith)
  first_at (e ∷ es) h = by (t e.0) refl (first_at es) h
    where
      by : (b : Bool) → t e.0 ≡ b → (position_or_len t (keys_of es) < length es → StandsAt es (position_or_len t (keys_of es)))
          → cond (not b) (1 + position_or_len t (keys_of es)) 0 < suc (length es) → StandsAt (e ∷ es) (cond (not b) (1 + position_or_len t (keys_of es)) 0)
      by true p rest h = record { key = e.0; value = e.1; at = refl; passes = p }
      by false p rest h = let s = rest (omega arith) in let one : suc (position_or_len t (keys_of es)) ≡ 1 + position_or_len t (keys_of es) =
          omega arith in subst (StandsAt (e ∷ es)) one (record { key = s.key; value = s.value; at = s.at; passes = s.passes })

  pub stands_at : (es : List (K × X)) (i : ℕ) → Some i ≡ position t (keys_of es) → StandsAt es i
  stands_at es i p =
      let f = Found-position t es i (sym p) in
      subst (StandsAt es) f.or_len (first_at es (subst (λ n. n < length es) (sym f.or_len) f.within))
