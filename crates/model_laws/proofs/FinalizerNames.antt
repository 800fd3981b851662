-- A list of names with one more, and without one.
use Rattle.std.proofs.Common.{refl, ap, ◌∙◌}
use Rattle.std.specs.Prelude.{ℕ, ◌≡◌, Bool, true, false, List, [], ◌∷◌, bytes_eq, ◌||◌, ◌++◌}
use Rattle.std.proofs.lemmas.Slice.Eq.{bytes_eq-Decides}
use Rattle.kube_objects.specs.Bindings.{has_name}
use Rattle.std.specs.Prelude.{◌+◌}
use Rattle.std.proofs.Common.{◌≡◌, ◌∙◌, List, [], ◌∷◌, Bool, true, false, refl, ap}
use Rattle.std.specs.Prelude.{◌++◌, ◌||◌, not, bytes_eq, cond}
use Rattle.std.proofs.Common.{ℕ}
use Rattle.kube_objects.specs.Bindings.{has_name}
use Rattle.binder_model.specs.Edits.{without_name}
use Rattle.model_laws.proofs.Lists.{one}

pub has_appended : (name : List ℕ) (names : List (List ℕ)) → has_name name (names ++ name ∷ []) ≡ true
has_appended name [] = let own_name : bytes_eq name name ≡ true = (bytes_eq-Decides name name).1 refl in rw own_name refl
has_appended name (x ∷ xs) = by (bytes_eq x name) (has_appended name xs)
  where
    by : (b : Bool) → has_name name (xs ++ name ∷ []) ≡ true → (b || has_name name (xs ++ name ∷ [])) ≡ true
    by true e = refl
    by false e = e

pub without_lacks : (name : List ℕ) (names : List (List ℕ)) → has_name name (without_name name names) ≡ false
without_lacks name [] = refl
without_lacks name (n ∷ names) = by (bytes_eq n name) refl (without_lacks name names)
  where
    by : (b : Bool) → bytes_eq n name ≡ b → has_name name (without_name name names) ≡ false → has_name name (cond (not b) (n ∷ without_name name names) (without_name name names)) ≡ false
    by true e rest = rest
    by false e rest = ap (λ x. x || has_name name (without_name name names)) e ∙ rest
