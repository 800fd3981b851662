-- What a delete, and a new list of finalizers, come to.
-- Source: Kubernetes documentation, "Finalizers"; that a pod leaves by its own verbs alone is a choice of this project.
use Rattle.std.specs.Prelude.{ℕ, Bool, ◌&&◌, ◌||◌, List, if◌then◌else◌}
use Rattle.kube_objects.specs.declared.objects.Object.{Object}
use Rattle.kube_objects.specs.Keys.{meta_of}
use Rattle.kube_objects.specs.Bindings.{is_deleting}
use Rattle.binder_model.specs.Store.{with_meta, marked_object, leaves, leaves_at_once}
use Rattle.binder_model.specs.Fields.{adds_finalizer}
use Rattle.finalizer_rules.specs.declared.Departure.{Departure}
use Rattle.finalizer_rules.specs.declared.Departure.TheVariants.{Keep, Leave, AddedWhileDeleting}

-- the object leaves, or is kept
abbrev pub leave_if : Bool → Departure
leave_if gone = if gone then Leave else Keep

-- an object that is to be deleted since this moment
unfoldable pub fate_on_delete : Object → ℕ → List ℕ → Departure
fate_on_delete o version moment = leave_if (leaves_at_once o || leaves (marked_object o version moment))

-- the object with these finalizers
unfoldable pub with_finalizers : Object → List (List ℕ) → Object
with_finalizers o finalizers = with_meta o (record (meta_of o) { finalizers = finalizers })

-- no finalizer can be added to an object that is to be deleted
unfoldable pub fate_on_update : Object → List (List ℕ) → Departure
fate_on_update o finalizers =
    if is_deleting (meta_of o) && adds_finalizer (meta_of o).finalizers finalizers then AddedWhileDeleting else leave_if (leaves (with_finalizers o finalizers))
