-- A scan of the places finds the first of the candidates.
use Rattle.std.proofs.Common.{ℕ, ◌≡◌, ◌≢◌, ◌+◌, true, false, true≢false, Option, Some, None, ◌∙◌, refl, sym, ap, subst}
use borrow.Author.Count.{below_more}
use Rattle.std.specs.Cmp.{IsTotalOrder}
use Rattle.std.specs.declared.cmp.Ordering.{Ordering}
use Rattle.std.specs.declared.cmp.Ordering.TheVariants.{Less, Equal, Greater}
use Rattle.std.specs.Ordering.{is_lt, is_gt, ordering_reverse}
use Rattle.std.proofs.lemmas.Cmp.{upto, tied_itself}
use Rattle.volume_index.specs.Steps.Scan.{IsFirstAt, IsFirstBelow}

pub no_greater : (o : Ordering) → o ≢ Greater → is_gt o ≡ false
no_greater Less h = refl
no_greater Equal h = refl
no_greater Greater h = absurd (h refl)

pub not_greater : (o : Ordering) → is_gt o ≡ false → o ≢ Greater
not_greater o e g = true≢false (sym (ap is_gt g) ∙ e)

less_is_no_greater : (o : Ordering) → is_lt o ≡ true → is_gt o ≡ false
less_is_no_greater Less h = refl
less_is_no_greater Equal h = refl
less_is_no_greater Greater h = cc

pub reversed_is_no_greater : (o : Ordering) → is_lt o ≡ false → is_gt (ordering_reverse o) ≡ false
reversed_is_no_greater Less h = cc
reversed_is_no_greater Equal h = refl
reversed_is_no_greater Greater h = refl

-- candidates by place, at each place one at most
module _ {X : Type 0} {cmp : X → X → Ordering} (total : IsTotalOrder cmp) {Candidate : ℕ → X → Type 0} (one : (place : ℕ) (x y : X) → Candidate place x → Candidate place y → x ≡ y) where
  -- what is not after the middle one, which is not after the last, is not after the last
  between : (x y z : X) → is_gt (cmp x y) ≡ false → cmp y z ≢ Greater → cmp x z ≢ Greater
  between x y z h k = not_greater (cmp x z) (upto total x y z h (no_greater (cmp y z) k))

  -- the candidate of a place is not after itself
  at_place : (place : ℕ) (x : X) → Candidate place x → (y : X) → Candidate place y → cmp x y ≢ Greater
  at_place place x c y d = subst (λ z. cmp x z ≢ Greater) (one place x y c d) (not_greater (cmp x x) (ap is_gt (tied_itself total x)))

  -- where no candidate stands at the place, the first before it stays
  pub passed_over : (place : ℕ) (before : Option ℕ) → ((x : X) → Candidate place x → ⊥) → IsFirstBelow cmp Candidate place before → IsFirstBelow cmp Candidate (place + 1) before
  passed_over place None none first = below_more (λ (k : ℕ). (x : X) → Candidate k x → ⊥) place first none
  passed_over place (Some at) none first =
      record {
        it = first.it;
        candidate = first.candidate;
        first = below_more (λ (k : ℕ). (x : X) → Candidate k x → cmp first.it x ≢ Greater) place first.first (λ x c. absurd (none x c));
      }

  -- a candidate that comes before the first one is the first
  pub taken : (place : ℕ) (before : Option ℕ) (x : X) → Candidate place x
      → ((at : ℕ) (y : X) → before ≡ Some at → Candidate at y → is_lt (cmp x y) ≡ true) → IsFirstBelow cmp Candidate place before → IsFirstBelow cmp Candidate (place + 1) (Some place)
  taken place None x c less first =
      record {
        it = x;
        candidate = c;
        first = below_more (λ (k : ℕ). (y : X) → Candidate k y → cmp x y ≢ Greater) place (λ k below y d. absurd (first k below y d)) (at_place place x c);
      }
  taken place (Some at) x c less first =
      let le : is_gt (cmp x first.it) ≡ false = less_is_no_greater (cmp x first.it) (less at first.it refl first.candidate) in
      record {
        it = x;
        candidate = c;
        first = below_more (λ (k : ℕ). (y : X) → Candidate k y → cmp x y ≢ Greater) place (λ k below y d. between x first.it y le (first.first k below y d)) (at_place place x c);
      }

  -- the first stays where the candidate at the place does not come before it
  pub kept : (place : ℕ) (at : ℕ) (x : X) → Candidate place x → ((y : X) → Candidate at y → is_lt (cmp x y) ≡ false) → IsFirstAt cmp Candidate place at → IsFirstAt cmp Candidate (place + 1) at
  kept place at x c more first =
      let le : is_gt (cmp first.it x) ≡ false = subst (λ (o : Ordering). is_gt o ≡ false) (sym (total.antisymm first.it x)) (reversed_is_no_greater (cmp x first.it) (more first.it first.candidate)) in
      record {
        it = first.it;
        candidate = first.candidate;
        first = below_more (λ (k : ℕ). (y : X) → Candidate k y → cmp first.it y ≢ Greater) place first.first (λ y d. between first.it x y le (at_place place x c y d));
      }
