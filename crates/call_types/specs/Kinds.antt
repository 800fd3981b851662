-- Which requests read a whole kind: what counts as a read of an actor's own. A choice of this project.
use Rattle.std.specs.Prelude.{ℕ, ◌≢◌, Bool, false, None}
use Rattle.kube_parts.specs.declared.parts.Kind.{Kind}
use Rattle.kube_objects.specs.Keys.{same_kind}
use Rattle.call_types.specs.declared.request.Request.{Request}
use Rattle.call_types.specs.declared.request.Request.TheVariants as requests

-- the request lists the whole kind, or watches it
abbrev pub reads_kind : Kind → Request → Bool
reads_kind kind (requests.List k None) = same_kind k kind
reads_kind kind (requests.Watch k from) = same_kind k kind
reads_kind kind request = false

-- the request neither lists nor watches a whole kind
pub record ReadsNoKind (request : Request) : Type 0 where
  pub lists : (kind : Kind) → request ≢ requests.List kind None
  pub watches : (kind : Kind) (from : ℕ) → request ≢ requests.Watch kind from
