-- What holds of an element of a list, and of the list turned round.
use Rattle.std.specs.Prelude.{ℕ, zero, suc, ◌+◌, ◌-◌, ◌<◌, ◌≤◌, ◌≡◌, ◌⊎◌, List, [], ◌∷◌, ◌++◌, length, reverse, drop, take}
use Rattle.std.proofs.Common.{sym, ap, subst, inl, inr, arith, get_or, ◌∙◌}
use Rattle.std.proofs.lemmas.List.{reverse-append, reverse-reverse}
use Rattle.std.proofs.lemmas.Grind.{take_at_read}
use Rattle.snapshot_bind.specs.Licences.{SomeOf}

pub some_at : {X : Type 0} (P : X → Type 0) (xs : List X) (i : ℕ) (x : X) → i < length xs → get_or xs i x ≡ x → P x → SomeOf P xs
some_at P [] i x lt e p = absurd (omega arith)
some_at P (y ∷ ys) zero x lt e p = inl (subst P (sym e) p)
some_at P (y ∷ ys) (suc i) x lt e p = inr (some_at P ys i x (omega arith) e p)

-- where it does not hold at this place, it holds behind it
pub some_next : {X : Type 0} (P : X → Type 0) (xs : List X) (i : ℕ) (x : X) → i < length xs → get_or xs i x ≡ x → (P x → ⊥) → SomeOf P (drop i xs) → SomeOf P (drop (i + 1) xs)
some_next P [] i x lt e not some = absurd (omega arith)
some_next P (y ∷ ys) zero x lt e not (inl here) = absurd (not (subst P e here))
some_next P (y ∷ ys) zero x lt e not (inr later) = later
some_next P (y ∷ ys) (suc i) x lt e not some =
    let n : suc i + 1 ≡ suc (i + 1) = omega arith in
    rw n (some_next P ys i x (omega arith) e not some)

pub some_append : {X : Type 0} (P : X → Type 0) (xs ys : List X) → SomeOf P (xs ++ ys) → SomeOf P xs ⊎ SomeOf P ys
some_append P [] ys some = inr some
some_append P (x ∷ xs) ys (inl here) = inl (inl here)
some_append P (x ∷ xs) ys (inr later) = elim (some_append P xs ys later) [ inl a ↦ inl (inr a) | inr b ↦ inr b ]

pub some_left : {X : Type 0} (P : X → Type 0) (xs ys : List X) → SomeOf P xs → SomeOf P (xs ++ ys)
some_left P [] ys some = absurd some
some_left P (x ∷ xs) ys (inl here) = inl here
some_left P (x ∷ xs) ys (inr later) = inr (some_left P xs ys later)

pub some_right : {X : Type 0} (P : X → Type 0) (xs ys : List X) → SomeOf P ys → SomeOf P (xs ++ ys)
some_right P [] ys some = some
some_right P (x ∷ xs) ys some = inr (some_right P xs ys some)

pub some_reverse : {X : Type 0} (P : X → Type 0) (xs : List X) → SomeOf P xs → SomeOf P (reverse xs)
some_reverse P [] some = absurd some
some_reverse P (x ∷ xs) (inl here) = let e : reverse (x ∷ xs) ≡ reverse xs ++ x ∷ [] = reverse-append (x ∷ []) xs in rw e (some_right P (reverse xs) (x ∷ []) (inl here))
some_reverse P (x ∷ xs) (inr later) = let e : reverse (x ∷ xs) ≡ reverse xs ++ x ∷ [] = reverse-append (x ∷ []) xs in rw e (some_left P (reverse xs) (x ∷ []) (some_reverse P xs later))

pub some_forward : {X : Type 0} (P : X → Type 0) (xs : List X) → SomeOf P (reverse xs) → SomeOf P xs
some_forward P xs some = subst (λ ys. SomeOf P ys) (reverse-reverse xs) (some_reverse P (reverse xs) some)

-- the first calls with one more, turned round
pub front_more : {X : Type 0} (xs : List X) (i : ℕ) (x : X) → i < length xs → get_or xs i x ≡ x → reverse (take (i + 1) xs) ≡ x ∷ reverse (take i xs)
front_more xs i x lt e =
    let more : take (i + 1) xs ≡ take i xs ++ get_or xs i x ∷ [] = (take_at_read xs i x lt).1 in
    ap reverse more ∙ reverse-append (take i xs) (get_or xs i x ∷ []) ∙ ap (λ y. y ∷ reverse (take i xs)) e

-- what holds of one call more, seen from the place behind it
pub front_at : {X : Type 0} (P : List X → Type 0) (xs : List X) (n : ℕ) (x : X) → 0 < n → n ≤ length xs → x ≡ get_or xs (n - 1) x
    → (P (x ∷ reverse (take (n - 1) xs)) → P (reverse (take n xs))) × (P (reverse (take n xs)) → P (x ∷ reverse (take (n - 1) xs)))
front_at P xs n x low le e =
    let back : n - 1 + 1 ≡ n = omega (arith, low) in
    let more : reverse (take (n - 1 + 1) xs) ≡ x ∷ reverse (take (n - 1) xs) = front_more xs (n - 1) x (omega (arith, low, le)) (sym e) in
    let is : reverse (take n xs) ≡ x ∷ reverse (take (n - 1) xs) = ap (λ m. reverse (take m xs)) (sym back) ∙ more in
    (λ p. subst P (sym is) p, λ p. subst P is p)
