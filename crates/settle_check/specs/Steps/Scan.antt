-- The first object of a list for which something is due. For the proofs alone.
use Rattle.std.specs.Prelude.{◌≡◌, ◌⊎◌, List, [], ◌∷◌, Option, Some, None}
use Rattle.kube_parts.specs.declared.names.Due.{Due}
use Rattle.kube_objects.specs.declared.objects.Object.{Object}
use Rattle.settle_check.specs.declared.first.FirstDue.{FirstDue}

-- the object of what is due first, and what is due
abbrev pub first_pair : Option FirstDue → Option (Object × Due)
first_pair None = None
first_pair (Some first) = Some (first.object.now, first.action)

-- this object is the first, with this action
pub record IsHere (IsDue : Object → Option Due → Type 0) (o : Object) (answer : Option (Object × Due)) : Type 0 where
  pub action : Due
  pub due : IsDue o (Some action)
  pub answers : answer ≡ Some (o, action)

-- the first object for which something is due, with its action
abbrev pub IsFirstIn : (Object → Option Due → Type 0) → List Object → Option (Object × Due) → Type 0
IsFirstIn IsDue [] answer = answer ≡ None
IsFirstIn IsDue (o ∷ os) answer = IsHere IsDue o answer ⊎ (IsDue o None × IsFirstIn IsDue os answer)
