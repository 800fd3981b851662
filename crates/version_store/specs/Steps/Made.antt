-- What the store makes of a request, as the outcome that it stands for; a default class and a list, object by object.
use Rattle.std.specs.Prelude.{ℕ, Bool, true, List, Option, Some, None, if◌then◌else◌}
use Rattle.kube_objects.specs.declared.objects.Class.{Class as ClassData}
use Rattle.kube_objects.specs.declared.objects.Object.{Object}
use Rattle.kube_objects.specs.declared.objects.Object.TheVariants.{Class}
use Rattle.kube_objects.specs.Keys.{put_row}
use Rattle.binder_model.specs.Imports.{is_dropped, imported_object}
use Rattle.kube_types.specs.Defaults.{is_default}
use Rattle.binder_model.specs.Store.{State, newer_class}
use Rattle.binder_model.specs.Answers.{Outcome, Says, Stores, Removes, is_in_namespace}
use Rattle.version_store.specs.declared.outcome.Made.{Made}
use Rattle.version_store.specs.declared.outcome.Made.TheVariants as made

-- what a verb made, as the definitions name it
abbrev pub outcome_of : Made → Outcome
outcome_of (made.Says reply) = Says reply
outcome_of (made.Stores change o) = Stores change o
outcome_of (made.Removes o) = Removes o

-- the store with these objects at this version
abbrev pub state_of : List Object → ℕ → State
state_of rows version = record { rows = rows; version = version }

-- the rows with one import more, unless it would have left
abbrev pub with_import : List Object → Object → List Object → List Object
with_import imports o rows = if is_dropped o then rows else put_row (imported_object imports o) rows

-- the default class of an object and of those after it
abbrev pub default_from : Object → Option ClassData → Option ClassData
default_from (Class x) later = if is_default x then newer_class x later else later
default_from o later = later

-- in the namespace, where one is given
abbrev pub is_listed : Option (List ℕ) → Object → Bool
is_listed None o = true
is_listed (Some namespace) o = is_in_namespace namespace o
