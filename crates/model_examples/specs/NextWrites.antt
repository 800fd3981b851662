-- The next of the four writes of a binding: which one it is, and where none is made.
-- Source: `bind` and `unbindVolume` of `pv_controller.go`; where no write is made is a choice of this project.
use Rattle.std.specs.Prelude.{◌≡◌, true, Option, Some, None, codes}
use Rattle.kube_parts.specs.declared.parts.VolumePhase.TheVariants as volumes
use Rattle.kube_objects.specs.declared.objects.Claim.{Claim as ClaimData}
use Rattle.kube_objects.specs.declared.objects.Volume.{Volume as VolumeData}
use Rattle.call_types.specs.declared.request.Request.{Request}
use Rattle.binder_model.specs.BindWrites.{next_write, write_reference, write_bound, write_completion, write_claim_status}
use Rattle.model_examples.specs.Samples.{once, amount, a, c, in_phase, naming, taken_a, bound_a, released_a, completed_c, bound_c, bound_for_other, prebound_a, unguarded_a, lost_c}

-- the next write that binds the claim to the volume, or none
abbrev pub NextWrite : VolumeData → ClaimData → Option Request → Type 0
NextWrite v x request = next_write v x ≡ request

-- without the finalizer, and Bound already
abbrev pub unguarded_bound_a : VolumeData
unguarded_bound_a = in_phase volumes.Bound unguarded_a

pub record NextWriteExamples : Type 0 where
  pub reference_of_free_volume : NextWrite a c (Some (write_reference a c))
  pub reference_of_prebound_volume : NextWrite prebound_a c (Some (write_reference prebound_a c))
  pub reference_of_volume_of_other_uid : NextWrite bound_for_other c (Some (write_reference bound_for_other c))
  pub no_reference_over_released : NextWrite (in_phase volumes.Released a) c None
  pub no_reference_over_failed : NextWrite (in_phase volumes.Failed prebound_a) c None
  pub phase_of_taken_volume : NextWrite taken_a c (Some (write_bound taken_a))
  pub no_phase_over_released : NextWrite released_a c None
  pub no_phase_over_failed : NextWrite (in_phase volumes.Failed taken_a) c None
  pub no_phase_without_finalizer : NextWrite unguarded_a c None
  pub completion_after_bound : NextWrite bound_a c (Some (write_completion bound_a c))
  pub completion_where_volume_is_named : NextWrite bound_a (naming (codes "a") c) (Some (write_completion bound_a (naming (codes "a") c)))
  pub completion_where_other_volume_is_named : NextWrite bound_a (naming (codes "b") bound_c) (Some (write_completion bound_a (naming (codes "b") bound_c)))
  pub completion_asks_no_finalizer_again : NextWrite unguarded_bound_a c (Some (write_completion unguarded_bound_a c))
  pub status_after_completion : NextWrite bound_a completed_c (Some (write_claim_status bound_a completed_c))
  pub status_where_phase_is_lost : NextWrite bound_a lost_c (Some (write_claim_status bound_a lost_c))
  pub status_where_modes_are_others : NextWrite bound_a (record bound_c { got_modes = record once { rox = true } })
      (Some (write_claim_status bound_a (record bound_c { got_modes = record once { rox = true } })))
  pub status_where_amount_is_another : NextWrite bound_a (record bound_c { got = Some (amount 3) }) (Some (write_claim_status bound_a (record bound_c { got = Some (amount 3) })))
  pub status_where_amount_lacks : NextWrite bound_a (record bound_c { got = None }) (Some (write_claim_status bound_a (record bound_c { got = None })))
  pub none_where_all_is_written : NextWrite bound_a bound_c None
