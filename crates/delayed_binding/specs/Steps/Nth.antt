-- The write at a place among the claims that are to be provisioned. A choice of this project.
use Rattle.std.specs.Prelude.{ℕ, List, Option, Some, None}
use Rattle.kube_objects.specs.declared.key.Key.{Key}
use Rattle.kube_objects.specs.declared.objects.Object.{Object}
use Rattle.call_types.specs.declared.request.Request.{Request}
use Rattle.delayed_binding.specs.Writes.{node_write}

-- the write of the node for a claim, if there is one
abbrev pub node_write_at : List Object → List ℕ → Option Key → Option Request
node_write_at rows node None = None
node_write_at rows node (Some key) = node_write rows node key
