-- What a seat has still to be told: how many events of a kind came after a version.
-- A choice of this project, after the watch cache of Kubernetes.
use Rattle.std.specs.Prelude.{ℕ, List, filter, length}
use Rattle.kube_parts.specs.declared.parts.Kind.{Kind}
use Rattle.call_types.specs.declared.reply.Event.{Event}
use Rattle.binder_model.specs.Watching.{is_later}

-- so many events of the kind came after the version
abbrev pub pending : Kind → ℕ → List Event → ℕ
pending kind from log = length (filter (is_later kind from) log)
