-- Two pairs put among others, the first of the lower key.
use Rattle.std.proofs.Common.{◌≡◌, ℕ, suc, ◌+◌, ◌<◌, List, [], ◌∷◌, length, drop, get_or, drop-cons, refl, sym, ◌∙◌, ap, arith}
use Rattle.std.specs.declared.cmp.Ordering.{Ordering}
use Rattle.std.specs.declared.cmp.Ordering.TheVariants.{Less, Equal, Greater}
use Rattle.std.specs.Ordering.{match_ordering, ordering_reverse}
use Rattle.std.specs.Cmp.{IsTotalOrder}
use Rattle.std.proofs.lemmas.Cmp.{nat_list_cmp_total}
use Rattle.plain_data.specs.Pairs.{Pair, put_pair, text_cmp}

total : IsTotalOrder text_cmp
total = nat_list_cmp_total

above : (a b : List ℕ) → text_cmp a b ≡ Less → text_cmp b a ≡ Greater
above a b order = total.antisymm b a ∙ ap ordering_reverse order

twice_less : (k1 v1 k2 v2 : List ℕ) (y : Pair) (ys : List Pair) → text_cmp k1 k2 ≡ Less → text_cmp y.0 k1 ≡ Less → put_pair k1 v1 (put_pair k2 v2 (y ∷ ys)) ≡ y ∷ put_pair k1 v1 (put_pair k2 v2 ys)
twice_less k1 v1 k2 v2 y ys order below = let e : text_cmp y.0 k2 ≡ Less = total.trans y.0 k1 k2 below order in rw (e, below) refl

twice_equal : (k1 v1 k2 v2 : List ℕ) (y : Pair) (ys : List Pair) → text_cmp k1 k2 ≡ Less → text_cmp y.0 k1 ≡ Equal → put_pair k1 v1 (put_pair k2 v2 (y ∷ ys)) ≡ (k1, v1) ∷ put_pair k2 v2 ys
twice_equal k1 v1 k2 v2 y ys order same = let e : text_cmp y.0 k2 ≡ Less = total.congr y.0 k1 k2 same ∙ order in rw (e, same) refl

twice_greater : (k1 v1 k2 v2 : List ℕ) (y : Pair) (ys : List Pair) → text_cmp k1 k2 ≡ Less → text_cmp y.0 k1 ≡ Greater → put_pair k1 v1 (put_pair k2 v2 (y ∷ ys)) ≡ (k1, v1) ∷ put_pair k2 v2 (y ∷ ys)
twice_greater k1 v1 k2 v2 y ys order over = by (text_cmp y.0 k2)
  where
    by : (r : Ordering) → put_pair k1 v1 (match_ordering r (y ∷ put_pair k2 v2 ys) ((k2, v2) ∷ ys) ((k2, v2) ∷ y ∷ ys)) ≡ (k1, v1) ∷ match_ordering r
        (y ∷ put_pair k2 v2 ys) ((k2, v2) ∷ ys) ((k2, v2) ∷ y ∷ ys)
    by Less = rw over refl
    by Equal = rw (above k1 k2 order) refl
    by Greater = rw (above k1 k2 order) refl

pub twice_end : (k1 v1 k2 v2 : List ℕ) → text_cmp k1 k2 ≡ Less → put_pair k1 v1 (put_pair k2 v2 []) ≡ (k1, v1) ∷ put_pair k2 v2 []
twice_end k1 v1 k2 v2 order = rw (above k1 k2 order) refl

from : (ps : List Pair) (i : ℕ) (y : Pair) → i < length ps → y ≡ get_or ps i y → drop i ps ≡ y ∷ drop (i + 1) ps
from ps i y h is = let e : suc i ≡ i + 1 = omega arith in drop-cons ps i y h ∙ ap (λ j. get_or ps i y ∷ drop j ps) e ∙ ap (λ x. x ∷ drop (i + 1) ps) (sym is)

pub twice_past : (k1 v1 k2 v2 : List ℕ) (ps : List Pair) (i : ℕ) (y : Pair) → text_cmp k1 k2 ≡ Less → i < length ps → y ≡ get_or ps i y → text_cmp y.0 k1 ≡ Less
    → put_pair k1 v1 (put_pair k2 v2 (drop i ps)) ≡ y ∷ put_pair k1 v1 (put_pair k2 v2 (drop (i + 1) ps))
twice_past k1 v1 k2 v2 ps i y order h is below = ap (λ xs. put_pair k1 v1 (put_pair k2 v2 xs)) (from ps i y h is) ∙ twice_less k1 v1 k2 v2 y (drop (i + 1) ps) order below

pub twice_at : (k1 v1 k2 v2 : List ℕ) (ps : List Pair) (i : ℕ) (y : Pair) → text_cmp k1 k2 ≡ Less → i < length ps → y ≡ get_or ps i y → text_cmp y.0 k1 ≡ Equal
    → put_pair k1 v1 (put_pair k2 v2 (drop i ps)) ≡ (k1, v1) ∷ put_pair k2 v2 (drop (i + 1) ps)
twice_at k1 v1 k2 v2 ps i y order h is same = ap (λ xs. put_pair k1 v1 (put_pair k2 v2 xs)) (from ps i y h is) ∙ twice_equal k1 v1 k2 v2 y (drop (i + 1) ps) order same

pub twice_before : (k1 v1 k2 v2 : List ℕ) (ps : List Pair) (i : ℕ) (y : Pair) → text_cmp k1 k2 ≡ Less → i < length ps → y ≡ get_or ps i y → text_cmp y.0 k1 ≡ Greater
    → put_pair k1 v1 (put_pair k2 v2 (drop i ps)) ≡ (k1, v1) ∷ put_pair k2 v2 (drop i ps)
twice_before k1 v1 k2 v2 ps i y order h is over =
    ap (λ xs. put_pair k1 v1 (put_pair k2 v2 xs)) (from ps i y h is) ∙ twice_greater k1 v1 k2 v2 y (drop (i + 1) ps) order over ∙ ap (λ xs. (k1, v1) ∷ put_pair k2 v2 xs) (sym (from ps i y h is))
