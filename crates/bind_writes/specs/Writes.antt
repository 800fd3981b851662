-- The four writes of a binding by their names. Source: `bind` of `pv_controller.go`.
use Rattle.kube_objects.specs.declared.objects.Volume.{Volume as VolumeData}
use Rattle.kube_objects.specs.declared.objects.Claim.{Claim as ClaimData}
use Rattle.call_types.specs.declared.request.Request.{Request}
use Rattle.binder_model.specs.BindWrites.{write_bound, write_claim_status, write_completion, write_reference}
use Rattle.bind_writes.specs.declared.step.Write.{Write}
use Rattle.bind_writes.specs.declared.step.Write.TheVariants as writes

-- the request of a write of the binding
abbrev pub write_of : VolumeData → ClaimData → Write → Request
write_of v c writes.Reference = write_reference v c
write_of v c writes.Bound = write_bound v
write_of v c writes.Completion = write_completion v c
write_of v c writes.ClaimStatus = write_claim_status v c
