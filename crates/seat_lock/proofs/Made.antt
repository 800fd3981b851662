-- What the seats know of the number of passes made, after a step.
use Rattle.std.proofs.Common.{◌≡◌, ℕ, ◌+◌, ◌-◌, ◌<◌, ◌≤◌, max, ltb, ltb-true, ltb-false, if◌then◌else◌, Bool, true, false, List, [], ◌∷◌, ◌++◌, set, refl, ap, ⊎_elim, inl, inr, ◌⊎◌, arith}
use mathlib.Core.Logic.{dite}
use mathlib.Core.Option.{some}
use native.Mathlib.Decide.{ℕ_discrete}
use lib.ListN.{get_elem?}
use Rattle.atomic_table.proofs.Lists.{at_set}
use Rattle.seat_lock.specs.declared.known.Known.{Known}
use Rattle.seat_lock.specs.Steps.Rule.{KnowsMade, share_within, within, share, total, spent_view}
use Rattle.seat_lock.proofs.Views.{at_snoc, total_set, total_snoc, total_le, total_has}

pub covers : (t m s : ℕ) → ((t < m) × (share_within t m s ≡ 0)) ⊎ ((m ≤ t) × (share_within t m s ≡ s))
covers t m s = by_test (ltb t m) refl
  where
    by_test : (b : Bool) → ltb t m ≡ b → ((t < m) × ((if b then 0 else s) ≡ 0)) ⊎ ((m ≤ t) × ((if b then 0 else s) ≡ s))
    by_test true is = inl (ltb-true t m is, refl)
    by_test false is = inr (ltb-false t m is, refl)

pub same_within : (t m s n u : ℕ) → n ≡ m → u ≡ s → share_within t n u ≤ share_within t m s
same_within t m s n u e f = let h : share_within t n u ≡ share_within t m s = λ i. share_within t (e i) (f i) in omega arith

pub parted_within : (t m a b s : ℕ) → a + b ≡ s → share_within t m a + share_within t m b ≤ share_within t m s
parted_within t m a b s e = ⊎_elim
    (λ p. let x = p.1 in let y = p.0 in ⊎_elim (λ q. let z = q.1 in ⊎_elim (λ r. let w = r.1 in omega arith)
    (λ r. let w = r.0 in absurd (omega arith)) (covers t m s)) (λ q. let z = q.0 in absurd (omega arith)) (covers t m b))
    (λ p. let x = p.1 in let y = p.0 in ⊎_elim (λ q. let z = q.0 in absurd (omega arith)) (λ q. let z = q.1 in ⊎_elim
    (λ r. let w = r.0 in absurd (omega arith)) (λ r. let w = r.1 in omega arith) (covers t m s)) (covers t m b))
    (covers t m a)

pub merged_within : (t m n a b : ℕ) → share_within t (max m n) (a + b) ≤ share_within t m a + share_within t n b
merged_within t m n a b = ⊎_elim (λ p. let x = p.1 in omega arith)
    (λ p.
    let x = p.1 in
    let y = p.0 in
    ⊎_elim (λ q. let z = q.0 in absurd (omega arith)) (λ q. let z = q.1 in ⊎_elim (λ r. let w = r.0 in absurd (omega arith)) (λ r. let w = r.1 in omega arith) (covers t n b)) (covers t m a))
    (covers t (max m n) (a + b))

pub moved_within : (t m n a b : ℕ) → a ≡ 0 → share_within t n (a + b) ≤ share_within t m a + share_within t n b
moved_within t m n a b none = let h : share_within t n (a + b) ≡ share_within t n b = ap (share_within t n) (let e : a + b ≡ b = omega arith in e) in omega arith

pub raised_within : (t m n s : ℕ) → m ≤ n → share_within t n s ≤ share_within t m s
raised_within t m n s le = ⊎_elim (λ p. let x = p.1 in omega arith) (λ p. let x = p.1 in let y = p.0 in ⊎_elim
    (λ q. let z = q.0 in absurd (omega arith)) (λ q. let z = q.1 in omega arith) (covers t m s)) (covers t n s)

module _ {A R B : Type 0} where
  pub known_set : (vs : List (Known A R B)) (i : ℕ) (v w : Known A R B) (d : ℕ) → get_elem? vs i ≡ some v → w.made ≤ d → ((t : ℕ) → within t w ≤ within t v) → KnowsMade d vs → KnowsMade d (set vs i w)
  known_set vs i v w d at some_made le k = record {
    most = λ j u e. ⊎_elim (λ (t : (j ≡ i) × (w ≡ u)). let h = ap (λ (z : Known A R B). z.made) t.1 in omega arith) (λ t. k.most j u t.1) (at_set vs i j w u e);
    fewer = λ t lt. let a = total_set (within t) vs i v w at in let h = le t in let o = k.fewer t lt in omega arith;
  }

  pub known_split : (vs : List (Known A R B)) (i : ℕ) (v l r : Known A R B) (d : ℕ) → get_elem? vs i ≡ some v → l.made ≤ d → r.made ≤ d
      → ((t : ℕ) → within t l + within t r ≤ within t v) → KnowsMade d vs → KnowsMade d (set vs i l ++ r ∷ [])
  known_split vs i v l r d at some_left some_right le k = record {
    most = λ j u e. ⊎_elim (λ p. ⊎_elim (λ (t : (j ≡ i) × (l ≡ u)). let h = ap (λ (z : Known A R B). z.made) t.1 in omega arith)
        (λ t. k.most j u t.1) (at_set vs i j l u p.0)) (λ p. let h = ap (λ (z : Known A R B). z.made) p.1 in omega arith) (at_snoc (set vs i l) r u j e);
    fewer = λ t lt. let a = total_set (within t) vs i v l at in let b = total_snoc (within t) (set vs i l) r in let h = le t in let o = k.fewer t lt in omega arith;
  }

  pub known_join : (vs : List (Known A R B)) (i j : ℕ) (v w both : Known A R B) (d : ℕ) → get_elem? vs i ≡ some v
      → get_elem? (set vs i both) j ≡ some w → both.made ≤ d → ((t : ℕ) → within t both ≤ within t v + within t w) → KnowsMade d vs
      → KnowsMade d (set (set vs i both) j spent_view)
  known_join vs i j v w both d at at' some_made le k = record {
    most = λ n u e. ⊎_elim (λ (t : (n ≡ j) × (spent_view ≡ u)). let h = ap (λ (z : Known A R B). z.made) t.1 in omega arith)
        (λ t. ⊎_elim (λ (p : (n ≡ i) × (both ≡ u)). let h = ap (λ (z : Known A R B). z.made) p.1 in omega arith) (λ p. k.most n u p.1)
        (at_set vs i n both u t.1)) (at_set (set vs i both) j n spent_view u e);
    fewer = λ t lt.
        let a = total_set (within t) vs i v both at in
        let b = total_set (within t) (set vs i both) j w spent_view at' in
        let none : within t (spent_view {A = A} {R = R} {B = B}) ≡ 0 = ⊎_elim (λ p. p.1) (λ p. p.1) (covers t 0 0) in
        let h = le t in
        let o = k.fewer t lt in
        omega arith;
  }

  within_le : (t : ℕ) (v : Known A R B) → within t v ≤ share v
  within_le t v = ⊎_elim (λ p. let x = p.1 in omega arith) (λ p. let x = p.1 in omega arith) (covers t v.made v.share)

  -- one more is made, and the seat that has a share knows it
  pub known_more : (vs : List (Known A R B)) (i : ℕ) (v w : Known A R B) (d : ℕ) → get_elem? vs i ≡ some v → 0 < v.share → total share vs ≡ d
      → w.made ≡ d + 1 → KnowsMade d vs → KnowsMade (d + 1) (set vs i w)
  known_more vs i v w d at some_share all newest k = record {
    most = λ j u e. ⊎_elim (λ (t : (j ≡ i) × (w ≡ u)). let h = ap (λ (z : Known A R B). z.made) t.1 in omega arith) (λ t. let h = k.most j u t.1 in omega arith) (at_set vs i j w u e);
    fewer = λ t lt.
        let a = total_set (within t) vs i v w at in
        let none : within t w ≡ 0 = ⊎_elim (λ p. p.1) (λ p. let h = p.0 in absurd (omega arith)) (covers t w.made w.share) in
        dite (ℕ_discrete t d)
        (λ e.
        let le = total_le (within t) share vs (λ j u at'. within_le t u) in
        let old = k.most i v at in
        let mine : within t v ≡ v.share = ⊎_elim (λ p. let h = p.0 in absurd (omega arith)) (λ p. p.1) (covers t v.made v.share) in
        omega arith)
        (λ far. let o = k.fewer t (omega arith) in omega arith);
  }

  -- where more were made than a seat accounts for, it knows of more
  pub knows_more : (vs : List (Known A R B)) (i : ℕ) (v : Known A R B) (d : ℕ) → get_elem? vs i ≡ some v → 0 < v.share → v.share < d → KnowsMade d vs → v.share < v.made
  knows_more vs i v d at some_share less k =
      ⊎_elim (λ p. p.0) (λ p. let mine = p.1 in let has = total_has (within v.share) vs i v at in let o = k.fewer v.share less in absurd (omega arith)) (covers v.share v.made v.share)

  -- where it accounts for all, it knows of all
  pub knows_all : (vs : List (Known A R B)) (i : ℕ) (v : Known A R B) (d : ℕ) → get_elem? vs i ≡ some v → 0 < v.share → v.share ≡ d → KnowsMade d vs → v.made ≡ d
  knows_all vs i v d at some_share all k =
      let le = k.most i v at in
      ⊎_elim (λ p. let lt = p.0 in omega arith)
      (λ p. let mine = p.1 in let has = total_has (within (d - 1)) vs i v at in let o = k.fewer (d - 1) (omega arith) in absurd (omega arith)) (covers (d - 1) v.made v.share)
