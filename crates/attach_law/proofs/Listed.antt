-- What a test of some or of all elements says of one of them, and what is among the elements that a filter leaves.
use Rattle.std.proofs.Common.{sym, refl, subst, inl, inr, ap, ◌∙◌, true≢false}
use Rattle.std.specs.Prelude.{if◌then◌else◌, ◌≡◌, ◌&&◌, ◌||◌, Bool, true, false, List, [], ◌∷◌, Option, Some, None, filter}
use Rattle.std.specs.List.{list_all, list_any}
use Rattle.std.proofs.lemmas.Bool.{and_parts}
use Rattle.binder_model.specs.Told.{first_some}
use Rattle.model_laws.proofs.Lists.{IsIn, none_some}

pub any_here : {X : Type 0} (f : X → Bool) (xs : List X) (x : X) → IsIn x xs → f x ≡ true → list_any f xs ≡ true
any_here f [] x h e = absurd h
any_here f (y ∷ ys) x h e = elim h [
  | inl is ↦ left (f y) (list_any f ys) (ap f is ∙ e)
  | inr more ↦ right (f y) (list_any f ys) (any_here f ys x more e)
]
  where
    left : (a b : Bool) → a ≡ true → (a || b) ≡ true
    left true b e = refl
    left false b e = absurd (true≢false (sym e))

    right : (a b : Bool) → b ≡ true → (a || b) ≡ true
    right true b e = refl
    right false b e = e

pub both_true : {a b : Bool} → a ≡ true → b ≡ true → (a && b) ≡ true
both_true {a = true} {b = b} e f = f
both_true {a = false} {b = b} e f = absurd (true≢false (sym e))

-- neither of two is there
pub both_none : {X : Type 0} (a b : Option X) → first_some a b ≡ None → (a ≡ None) × (b ≡ None)
both_none None b e = (refl, e)
both_none (Some x) b e = none_some (sym e)

-- an element that passes a test
pub record Passing {X : Type 0} (f : X → Bool) (xs : List X) : Type 0 where
  pub it : X
  pub among : IsIn it xs
  pub test : f it ≡ true

pub any_gives : {X : Type 0} (f : X → Bool) (xs : List X) → list_any f xs ≡ true → Passing f xs
any_gives f [] e = absurd (true≢false (sym e))
any_gives f (x ∷ xs) e = by (f x) refl e (any_gives f xs)
  where
    by : (b : Bool) → f x ≡ b → (b || list_any f xs) ≡ true → (list_any f xs ≡ true → Passing f xs) → Passing f (x ∷ xs)
    by true t e g = record { it = x; among = inl refl; test = t }
    by false t e g = let r = g e in record { it = r.it; among = inr r.among; test = r.test }

pub all_here : {X : Type 0} (f : X → Bool) (xs : List X) → list_all f xs ≡ true → (x : X) → IsIn x xs → f x ≡ true
all_here f [] e x h = absurd h
all_here f (y ∷ ys) e x h =
    let t = and_parts (f y) (list_all f ys) e in
    elim h [ inl is ↦ ap f (sym is) ∙ t.0 | inr more ↦ all_here f ys t.1 x more ]

-- what passes is left
pub left_by : {X : Type 0} (f : X → Bool) (xs : List X) (x : X) → IsIn x xs → f x ≡ true → IsIn x (filter f xs)
left_by f [] x h e = absurd h
left_by f (y ∷ ys) x h e = by (f y) refl h (λ m. left_by f ys x m e)
  where
    by : (b : Bool) → f y ≡ b → IsIn x (y ∷ ys) → (IsIn x ys → IsIn x (filter f ys)) → IsIn x (if b then y ∷ filter f ys else filter f ys)
    by true t h g = elim h [ inl is ↦ inl is | inr more ↦ inr (g more) ]
    by false t h g = elim h [ inl is ↦ absurd (true≢false (sym (ap f is ∙ e) ∙ t)) | inr more ↦ g more ]

-- where none is left none passes
pub none_passes : {X : Type 0} (f : X → Bool) (xs : List X) (x : X) → filter f xs ≡ [] → IsIn x xs → f x ≡ true → ⊥
none_passes f xs x none h e = subst (λ ys. IsIn x ys) none (left_by f xs x h e)
