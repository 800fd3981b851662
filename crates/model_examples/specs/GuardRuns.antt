-- What users may do to a volume that was released. A choice of this project.
use Rattle.std.specs.Prelude.{◌≡◌, [], ◌∷◌, Some, None}
use Rattle.kube_parts.specs.declared.names.Rule.TheVariants as rules
use Rattle.kube_parts.specs.declared.parts.Policy.TheVariants as policies
use Rattle.kube_parts.specs.declared.parts.VolumePhase.TheVariants as volumes
use Rattle.kube_objects.specs.declared.objects.Volume.{Volume as VolumeData}
use Rattle.kube_objects.specs.declared.objects.Object.TheVariants.{Volume}
use Rattle.call_types.specs.declared.edit.Edit.TheVariants as edits
use Rattle.call_types.specs.declared.request.SeatKind.TheVariants as seats
use Rattle.call_types.specs.declared.request.Request.TheVariants as requests
use Rattle.call_types.specs.declared.reply.Refusal.TheVariants as refusals
use Rattle.call_types.specs.declared.reply.Reply.TheVariants as replies
use Rattle.binder_model.specs.World.{World, first_world}
use Rattle.model_laws.specs.Worked.{Call, by, answers, no_setup}
use Rattle.model_examples.specs.Samples.{a, volume_at, in_phase, with_reference, key_a, name_c, released_a, bound_a}

-- a world with this volume alone
abbrev pub with_volume : VolumeData → World
with_volume v = record (first_world no_setup) { store = record { rows = Volume v ∷ []; version = v.meta.version } }

abbrev pub clear : Call
clear = by seats.User (requests.Edit key_a edits.ClearClaimRef)

abbrev pub put : VolumeData → Call
put v = by seats.User (requests.Update (Volume v) None)

-- without the reference and without the mark; and without the reference alone
abbrev pub cleared_a : VolumeData
cleared_a = with_reference None (in_phase volumes.Released (volume_at 9 a))

abbrev pub unreferred_a : VolumeData
unreferred_a = with_reference None (volume_at 9 released_a)

-- without the mark alone
abbrev pub unmarked_a : VolumeData
unmarked_a = let old = released_a in record old { meta = record old.meta { annotations = [] } }

abbrev pub deleted_a : VolumeData
deleted_a = let old = released_a in record old { policy = policies.Delete }

abbrev pub failed_a : VolumeData
failed_a = in_phase volumes.Failed released_a

pub record GuardOfReleased : Type 0 where
  pub clears_released : answers (with_volume released_a) (clear ∷ []) ≡ replies.Done (Volume cleared_a) ∷ []
  pub keeps_mark : answers (with_volume released_a) (put (with_reference None released_a) ∷ []) ≡ replies.Done (Volume unreferred_a) ∷ []
  pub mark_after_reference_is_refused : answers (with_volume released_a) (put (with_reference None released_a) ∷ clear ∷ []) ≡ replies.Done
      (Volume unreferred_a) ∷ replies.Refused (refusals.Forbidden rules.Annotation) ∷ []
  pub mark_alone_is_refused : answers (with_volume released_a) (put unmarked_a ∷ []) ≡ replies.Refused (refusals.Forbidden rules.Annotation) ∷ []
  pub bound_volume_is_refused : answers (with_volume bound_a) (clear ∷ []) ≡ replies.Refused (refusals.Forbidden rules.Annotation) ∷ []
  pub failed_volume_is_refused : answers (with_volume failed_a) (clear ∷ []) ≡ replies.Refused (refusals.Forbidden rules.Annotation) ∷ []
  pub policy_delete_is_refused : answers (with_volume deleted_a) (clear ∷ []) ≡ replies.Refused (refusals.Forbidden rules.Annotation) ∷ []
  pub reference_of_policy_delete_is_refused : answers (with_volume deleted_a) (put (with_reference None deleted_a) ∷ []) ≡ replies.Refused (refusals.Forbidden rules.ClaimRef) ∷ []
  pub uid_alone_is_refused : answers (with_volume released_a) (put (with_reference (Some name_c) released_a) ∷ []) ≡ replies.Refused (refusals.Forbidden rules.ClaimRef) ∷ []
  pub policy_of_ended_is_refused : answers (with_volume deleted_a) (by seats.User (requests.Edit key_a (edits.SetPolicy policies.Retain)) ∷ []) ≡ replies.Refused (refusals.Forbidden rules.Policy) ∷ []
