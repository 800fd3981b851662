-- Places of entries, counted from the oldest. The entries stand newest first.
-- A choice of this project.
use Rattle.std.specs.Prelude.{ℕ, ◌≡◌, ◌⊎◌, List, [], ◌∷◌, length}
use Rattle.kube_objects.specs.declared.objects.Object.{Object}
use Rattle.call_types.specs.declared.entry.Entry.{Entry}
use Rattle.binder_model.specs.Told.{TellsObject}

-- the object is told at the place
abbrev pub TellsAt : List Entry → ℕ → Object → Type 0
TellsAt [] place o = ⊥
TellsAt (e ∷ mine) place o = ((length mine ≡ place) × TellsObject (λ x. x ≡ o) e) ⊎ TellsAt mine place o
