-- An object of which a condition holds, found among others or among what a seat was told.
-- A choice of this project, as the rows are.
use Rattle.std.specs.Prelude.{◌≡◌, List}
use Rattle.kube_objects.specs.declared.objects.Object.{Object}
use Rattle.call_types.specs.declared.entry.Entry.{Entry}
use Rattle.binder_model.specs.Told.{SomeOf, ToldObject}

-- the object is among these, and the property holds of it
pub record IsFound (P : Object → Type 0) (objects : List Object) (found : Object) : Type 0 where
  pub holds : P found
  pub among : SomeOf (λ x. x ≡ found) objects

-- the client was told this object, and the property holds of it
pub record IsToldFound (P : Object → Type 0) (mine : List Entry) (found : Object) : Type 0 where
  pub holds : P found
  pub told : ToldObject (λ x. x ≡ found) mine

-- both parts of the condition hold of the object, and the newer entries told none alike of which the first does
pub record IsFirstAlike (May : Object → Type 0) (Alike : Object → Object → Type 0) (Row : Object → Type 0) (newer : List Entry) (o : Object) : Type 0 where
  pub may : May o
  pub first : ToldObject (λ x. May x × Alike o x) newer → ⊥
  pub row : Row o
