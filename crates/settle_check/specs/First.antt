-- The first object for which something is due, by its key. A choice of this project.
use Rattle.std.specs.Prelude.{Option, Some, None}
use Rattle.kube_objects.specs.declared.key.Key.{Key}
use Rattle.kube_parts.specs.declared.names.Due.{Due}
use Rattle.kube_objects.specs.Keys.{key_of}
use Rattle.settle_check.specs.declared.first.FirstDue.{FirstDue}

-- the key of what is due first, and what is due
abbrev pub first_key : Option FirstDue → Option (Key × Due)
first_key None = None
first_key (Some first) = Some (key_of first.object.now, first.action)
