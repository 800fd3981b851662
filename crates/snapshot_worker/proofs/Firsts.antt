-- The first row that asks: where it stands, what it asks for, and the rows with it changed.
use Rattle.std.specs.Prelude.{ℕ, zero, suc, ◌+◌, ◌<◌, ◌≤◌, ◌≡◌, Bool, true, false, List, [], ◌∷◌, Option, Some, None, IfNone, IfSome, drop, is_some, length, take}
use Rattle.std.proofs.Common.{Result, Ok, Err, IfOk, refl, sym, ap, arith, get_or, set, ◌∙◌}
use Rattle.snapshot_bind.specs.declared.rows.Content.{Content as ContentData}
use Rattle.snapshot_bind.specs.declared.calls.SnapAsk.{SnapAsk}
use Rattle.snapshot_worker.specs.declared.seen.SeenContent.{SeenContent}
use Rattle.snapshot_worker.specs.Steps.Firsts.{IsFirstAsking, NoneAsks}
use Rattle.snapshot_worker.specs.Workers.{change_first, first_ask, first_content}

-- what is answered is this, and so it is what equals this
pub ok_same : {A E : Type 0} (a : A) {b : A} (r : Result A E) → a ≡ b → IfOk r (λ x. x ≡ a) → IfOk r (λ x. x ≡ b)
ok_same a (Ok x) e is = is ∙ e
ok_same a (Err why) e is = tt

module _ {X : Type 0} (f : X → Option SnapAsk) where
  pub first_here : (xs : List X) (i : ℕ) (x : X) → i < length xs → get_or xs i x ≡ x → NoneAsks f (take i xs) → is_some (f x) ≡ true → IsFirstAsking f xs i
  first_here [] i x lt e none h = absurd (omega arith)
  first_here (y ∷ ys) zero x lt e none h = ap (λ z. is_some (f z)) e ∙ h
  first_here (y ∷ ys) (suc i) x lt e none h = (none.0, first_here ys i x (omega arith) e none.1 h)

  pub none_next : (xs : List X) (i : ℕ) (x : X) → i < length xs → get_or xs i x ≡ x → NoneAsks f (take i xs) → is_some (f x) ≡ false → NoneAsks f (take (i + 1) xs)
  none_next [] i x lt e none h = absurd (omega arith)
  none_next (y ∷ ys) zero x lt e none h = (ap (λ z. is_some (f z)) e ∙ h, tt)
  none_next (y ∷ ys) (suc i) x lt e none h =
      let n : suc i + 1 ≡ suc (i + 1) = omega arith in
      rw n (none.0, none_next ys i x (omega arith) e none.1 h)

  pub none_all : (xs : List X) (n : ℕ) → length xs ≤ n → NoneAsks f (take n xs) → NoneAsks f xs
  none_all [] n le none = tt
  none_all (y ∷ ys) zero le none = absurd (omega arith)
  none_all (y ∷ ys) (suc n) le none = (none.0, none_all ys n (omega arith) none.1)

  pub ask_first : (xs : List X) (i : ℕ) (x : X) → IsFirstAsking f xs i → first_ask f xs ≡ f (get_or xs i x)
  ask_first [] i x first = absurd first
  ask_first (y ∷ ys) zero x first = rw first refl
  ask_first (y ∷ ys) (suc i) x first = rw first.0 (ask_first ys i x first.1)

  pub ask_none : (xs : List X) → NoneAsks f xs → first_ask f xs ≡ None
  ask_none [] none = refl
  ask_none (y ∷ ys) none = rw none.0 (ask_none ys none.1)

  pub some_first : (xs : List X) (i : ℕ) → IsFirstAsking f xs i → is_some (first_ask f xs) ≡ true
  some_first [] i first = absurd first
  some_first (y ∷ ys) zero first = rw first first
  some_first (y ∷ ys) (suc i) first = rw first.0 (some_first ys i first.1)

  pub found_some : (xs : List X) (r : Option ℕ) → IfSome r (IsFirstAsking f xs) → IfNone r (NoneAsks f xs) → is_some r ≡ is_some (first_ask f xs)
  found_some xs (Some i) first none = sym (some_first xs i first)
  found_some xs None first none = sym (ap is_some (ask_none xs none))

  pub change_at : (g : X → X) (xs : List X) (i : ℕ) (x : X) → IsFirstAsking f xs i → change_first f g xs ≡ set xs i (g (get_or xs i x))
  change_at g [] i x first = absurd first
  change_at g (y ∷ ys) zero x first = rw first refl
  change_at g (y ∷ ys) (suc i) x first = rw first.0 (ap (λ zs. y ∷ zs) (change_at g ys i x first.1))

  pub change_none : (g : X → X) (xs : List X) → NoneAsks f xs → change_first f g xs ≡ xs
  change_none g [] none = refl
  change_none g (y ∷ ys) none = rw none.0 (ap (λ zs. y ∷ zs) (change_none g ys none.1))

module _ (p : ContentData → Bool) where
  pub content_here : (xs : List SeenContent) (i : ℕ) (x : SeenContent) → i < length xs → get_or xs i x ≡ x → p x.row ≡ true → first_content p (drop i xs) ≡ Some x.row
  content_here [] i x lt e h = absurd (omega arith)
  content_here (y ∷ ys) zero x lt e h = let holds : p y.row ≡ true = ap (λ (z : SeenContent). p z.row) e ∙ h in rw holds (ap (λ (z : SeenContent). Some z.row) e)
  content_here (y ∷ ys) (suc i) x lt e h = content_here ys i x (omega arith) e h

  pub content_next : (xs : List SeenContent) (i : ℕ) (x : SeenContent) → i < length xs → get_or xs i x ≡ x → p x.row ≡ false → first_content p (drop (i + 1) xs) ≡ first_content p (drop i xs)
  content_next [] i x lt e h = absurd (omega arith)
  content_next (y ∷ ys) zero x lt e h = let holds : p y.row ≡ false = ap (λ (z : SeenContent). p z.row) e ∙ h in rw holds refl
  content_next (y ∷ ys) (suc i) x lt e h = let n : suc i + 1 ≡ suc (i + 1) = omega arith in rw n (content_next ys i x (omega arith) e h)
