-- The search for a key among the objects of a kind. A choice of this project.
use Rattle.std.specs.Prelude.{ℕ, List, Option, Some, None}
use Rattle.std.specs.declared.cmp.Ordering.{Ordering}
use Rattle.std.specs.declared.cmp.Ordering.TheVariants.{Greater}
use Rattle.kube_parts.specs.declared.parts.Kind.{Kind}
use Rattle.kube_objects.specs.declared.objects.Object.{Object}
use Rattle.kube_objects.specs.Keys.{key_cmp, key_of}
use Rattle.volume_match.specs.Named.{key_with_parts}

-- how the object stands to the key of these parts; past the last object all is after it
abbrev pub key_order_at : Kind → List ℕ → List ℕ → Option Object → Ordering
key_order_at kind namespace name None = Greater
key_order_at kind namespace name (Some o) = key_cmp (key_of o) (key_with_parts kind namespace name)
