-- Small facts on lists and on values that may be absent.
use Rattle.std.proofs.Common.{sym, refl, inl, inr, ap, true≢false}
use Rattle.std.specs.Prelude.{◌≡◌, List, [], ◌∷◌, ◌++◌, Option, Some, None, is_some, unwrap_or}
use Rattle.binder_model.specs.Told.{SomeOf}
use Rattle.std.proofs.Common.{subst, zero, suc}
use Rattle.std.proofs.lemmas.Grind.{reverse_onto}
use Rattle.std.specs.Prelude.{ℕ, ◌⊎◌, Bool, true, false, reverse, filter, take, cond}

abbrev pub IsIn : {X : Type 0} → X → List X → Type 0
IsIn x xs = SomeOf (λ y. y ≡ x) xs

pub one : {X : Type 0} (a b : X) → Some a ≡ Some b → a ≡ b
one a b e = ap (λ x. unwrap_or x a) e

pub none_some : {X G : Type 0} {x : X} → ◌≡◌ {A = Option X} None (Some x) → G
none_some e = absurd (true≢false (sym (ap is_some e)))

pub some_left : {X : Type 0} (P : X → Type 0) (xs ys : List X) → SomeOf P xs → SomeOf P (xs ++ ys)
some_left P [] ys h = absurd h
some_left P (x ∷ xs) ys h = elim h [ inl is ↦ inl is | inr more ↦ inr (some_left P xs ys more) ]

pub some_right : {X : Type 0} (P : X → Type 0) (xs ys : List X) → SomeOf P ys → SomeOf P (xs ++ ys)
some_right P [] ys h = h
some_right P (x ∷ xs) ys h = inr (some_right P xs ys h)

pub some_map : {X : Type 0} {P Q : X → Type 0} → ((x : X) → P x → Q x) → (xs : List X) → SomeOf P xs → SomeOf Q xs
some_map f [] h = absurd h
some_map f (x ∷ xs) h = elim h [ inl is ↦ inl (f x is) | inr more ↦ inr (some_map f xs more) ]

-- what some element is, P holds of it
pub some_is : {X : Type 0} (P : X → Type 0) (xs : List X) → SomeOf P xs → (x : X) × (IsIn x xs × P x)
some_is P [] h = absurd h
some_is P (x ∷ xs) h = elim h [
  | inl is ↦ (x, (inl refl, is))
  | inr more ↦ let r = some_is P xs more in (r.0, (inr r.1.0, r.1.1))
]

pub some_or : {X : Type 0} (P : X → Type 0) (xs ys : List X) → SomeOf P (xs ++ ys) → SomeOf P xs ⊎ SomeOf P ys
some_or P [] ys h = inr h
some_or P (x ∷ xs) ys h = elim h [ inl is ↦ inl (inl is) | inr more ↦ elim (some_or P xs ys more) [ inl a ↦ inl (inr a) | inr b ↦ inr b ] ]

pub some_take : {X : Type 0} (P : X → Type 0) (n : ℕ) (xs : List X) → SomeOf P (take n xs) → SomeOf P xs
some_take P zero xs h = absurd h
some_take P (suc n) [] h = absurd h
some_take P (suc n) (x ∷ xs) h = elim h [ inl is ↦ inl is | inr more ↦ inr (some_take P n xs more) ]

pub some_reverse : {X : Type 0} (P : X → Type 0) (xs : List X) → SomeOf P (reverse xs) → SomeOf P xs
some_reverse P [] h = absurd h
some_reverse P (x ∷ xs) h = elim (some_or P (reverse xs) (x ∷ []) (subst (SomeOf P) (reverse_onto xs x []) h)) [
  | inl rest ↦ inr (some_reverse P xs rest)
  | inr last ↦ elim last [ inl is ↦ inl is | inr none ↦ absurd none ]
]

pub some_filter : {X : Type 0} (P : X → Type 0) (p : X → Bool) (xs : List X) → SomeOf P (filter p xs) → SomeOf P xs
some_filter P p [] h = absurd h
some_filter P p (x ∷ xs) h = by (p x) h (some_filter P p xs)
  where
    by : (b : Bool) → SomeOf P (cond b (x ∷ filter p xs) (filter p xs)) → (SomeOf P (filter p xs) → SomeOf P xs) → SomeOf P (x ∷ xs)
    by true h f = elim h [ inl is ↦ inl is | inr more ↦ inr (f more) ]
    by false h f = inr (f h)
