-- Scanning the pods of a look-up for one that uses a claim.
use Rattle.std.specs.Prelude.{Bool, false, Option, Some, None}
use Rattle.kube_objects.specs.declared.objects.Claim.{Claim as ClaimData}
use Rattle.kube_objects.specs.declared.objects.Object.{Object}
use Rattle.kube_objects.specs.Bindings.{uses}

-- there is an object, and it is a pod that uses the claim
abbrev pub is_used_by : ClaimData → Option Object → Bool
is_used_by c None = false
is_used_by c (Some o) = uses c o
