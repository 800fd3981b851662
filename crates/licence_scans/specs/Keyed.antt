-- Keys by their parts, and what was told of a key as the code has it.
-- A choice of this project, as the rows are.
use Rattle.std.specs.Prelude.{ℕ, List, Option, Some, None}
use Rattle.std.specs.Option.{option_copied}
use denote.Ref.{Bor}
use Rattle.kube_parts.specs.declared.parts.Kind.{Kind}
use Rattle.kube_objects.specs.declared.key.Key.{Key}
use Rattle.kube_objects.specs.declared.objects.Object.{Object}
use Rattle.binder_model.specs.Told.{Telling}

-- the key of this kind, namespace and name
abbrev pub key_at : Kind → List ℕ → List ℕ → Key
key_at kind namespace name = record { kind = kind; namespace = namespace; name = name }

-- the version, and the object or its absence
abbrev pub as_telling : Option (ℕ × Option (Bor Object)) → Option Telling
as_telling None = None
as_telling (Some t) = Some (record { version = t.0; object = option_copied t.1 })
