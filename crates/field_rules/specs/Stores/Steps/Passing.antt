-- How all imports are tested in time that grows with how many they are.
-- A choice of this project, proved to be the test of `Imports` in the definitions.
use Rattle.std.specs.Prelude.{ℕ, Bool, true, false, not, ◌&&◌, ◌||◌, List, [], ◌∷◌, ◌++◌, Option, Some, None, is_none, nat_eq, slice_get}
use Rattle.std.specs.List.{list_any, position}
use Rattle.kube_parts.specs.declared.uid.Uid.{Uid}
use Rattle.kube_objects.specs.declared.key.Key.{Key}
use Rattle.kube_objects.specs.declared.objects.Object.{Object}
use Rattle.kube_objects.specs.Keys.{meta_of, key_of, same_key}
use Rattle.kube_objects.specs.Bindings.{ref_uid}
use Rattle.binder_model.specs.Imports.{import_fault, is_ended_for, reference_of, refers_to_another}

-- the number of a UID, or 0 where there is none
abbrev pub number_of : Option Uid → ℕ
number_of None = 0
number_of (Some uid) = uid.0

-- the number of the object's UID, or 0 where it has none
abbrev pub uid_number : Object → ℕ
uid_number o = number_of (meta_of o).uid

-- the object passes alone, and its key and UID are none of these
abbrev pub is_new : List Key → List ℕ → Object → Bool
is_new keys uids o =
    is_none (import_fault [] o) && not (list_any (same_key (key_of o)) keys) && not (list_any (nat_eq (uid_number o)) uids)

-- each of the objects is new after these and those before it
abbrev pub come_new : List Key → List ℕ → List Object → Bool
come_new keys uids [] = true
come_new keys uids (o ∷ os) = is_new keys uids o && come_new (keys ++ key_of o ∷ []) (uids ++ uid_number o ∷ []) os

-- the object at the place, if any
abbrev pub placed_object : Option ℕ → List Object → Option Object
placed_object None os = None
placed_object (Some place) os = slice_get os place

-- the object whose UID is this one: that at its place among the UIDs
abbrev pub referred : List ℕ → List Object → Option Uid → Option Object
referred uids os None = None
referred uids os (Some uid) = placed_object (position (nat_eq uid.0) uids) os

-- the first is a volume that refers to the second wrongly, or has ended for it too early
abbrev pub clash : Object → Object → Bool
clash volume o = refers_to_another volume o || is_ended_for volume o

-- the same of an object that may be absent
abbrev pub clashes : Object → Option Object → Bool
clashes volume None = false
clashes volume (Some o) = clash volume o

-- the volume clashes with the object whose UID its reference has
abbrev pub refers_wrongly : List ℕ → List Object → Object → Bool
refers_wrongly uids os volume = clashes volume (referred uids os (ref_uid (reference_of volume)))
