-- Keys by their parts. Source: Kubernetes documentation, "Object Names and IDs".
use Rattle.std.specs.Prelude.{ℕ, Bool, false, List, Option, Some, None}
use Rattle.std.specs.Ordering.{is_eq}
use Rattle.kube_parts.specs.declared.parts.Kind.{Kind}
use Rattle.kube_objects.specs.declared.objects.Object.{Object}
use Rattle.kube_objects.specs.declared.key.Key.{Key}
use Rattle.kube_objects.specs.Keys.{key_cmp, key_of}

-- the key of this kind, namespace and name
abbrev pub key_with_parts : Kind → List ℕ → List ℕ → Key
key_with_parts kind namespace name = record { kind = kind; namespace = namespace; name = name }

-- there is an object, and its key has these parts
abbrev pub has_key_at : Kind → List ℕ → List ℕ → Option Object → Bool
has_key_at kind namespace name None = false
has_key_at kind namespace name (Some o) = is_eq (key_cmp (key_of o) (key_with_parts kind namespace name))
