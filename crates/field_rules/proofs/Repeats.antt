-- Names that come one by one, each sought among those before it.
use Rattle.std.proofs.Common.{◌≡◌, ℕ, Bool, true, false, List, [], ◌∷◌, ◌++◌, refl, sym, ◌∙◌, ap}
use Rattle.std.specs.Prelude.{◌||◌, bytes_eq}
use Rattle.std.specs.List.{list_any}
use Rattle.std.proofs.lemmas.List.Folds.{list_any-append}
use Rattle.kube_objects.specs.Bindings.{has_name}
use Rattle.binder_model.specs.Fields.{has_twice}

-- some name stands twice among these, or is one of those that were seen before
abbrev pub comes_twice : List (List ℕ) → List (List ℕ) → Bool
comes_twice seen [] = false
comes_twice seen (x ∷ xs) = list_any (bytes_eq x) seen || comes_twice (seen ++ x ∷ []) xs

-- some name is one of these
abbrev stand_among : List (List ℕ) → List (List ℕ) → Bool
stand_among seen names = list_any (λ name. list_any (bytes_eq name) seen) names

turned : (a b c d : Bool) → ((a || (b || false)) || (c || d)) ≡ ((a || c) || (b || d))
turned true b c d = refl
turned false true true d = refl
turned false true false d = refl
turned false false c d = refl

-- one name more among which they are sought
one_more : (seen : List (List ℕ)) (x : List ℕ) (xs : List (List ℕ)) → stand_among (seen ++ x ∷ []) xs ≡ (stand_among seen xs || has_name x xs)
one_more seen x [] = refl
one_more seen x (y ∷ ys) =
    ap (λ b. b || stand_among (seen ++ x ∷ []) ys) (list_any-append (bytes_eq y) seen (x ∷ []))
    ∙ ap (λ b. (list_any (bytes_eq y) seen || (bytes_eq y x || false)) || b) (one_more seen x ys)
    ∙ turned (list_any (bytes_eq y) seen) (bytes_eq y x) (stand_among seen ys) (has_name x ys)

moved : (a b c d : Bool) → (a || ((b || c) || d)) ≡ ((a || b) || (c || d))
moved true b c d = refl
moved false true c d = refl
moved false false c d = refl

comes_are : (seen xs : List (List ℕ)) → comes_twice seen xs ≡ (stand_among seen xs || has_twice xs)
comes_are seen [] = refl
comes_are seen (x ∷ xs) =
    ap (λ b. list_any (bytes_eq x) seen || b) (comes_are (seen ++ x ∷ []) xs ∙ ap (λ b. b || has_twice xs) (one_more seen x xs))
    ∙ moved (list_any (bytes_eq x) seen) (stand_among seen xs) (has_name x xs) (has_twice xs)

among_none : (xs : List (List ℕ)) → stand_among [] xs ≡ false
among_none [] = refl
among_none (x ∷ xs) = among_none xs

-- where none stands before them, one comes twice where it stands twice
pub comes_first : (xs : List (List ℕ)) → comes_twice [] xs ≡ has_twice xs
comes_first xs = comes_are [] xs ∙ ap (λ b. b || has_twice xs) (among_none xs)
