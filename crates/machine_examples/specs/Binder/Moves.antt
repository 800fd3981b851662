-- What machines ask and what they make of answers: cases that the definitions give, and cases beside them that they do not.
-- A choice of this project, as the machines are.
use Rattle.std.specs.Prelude.{◌≡◌, true, false, Some, None}
use Rattle.kube_parts.specs.declared.parts.VolumePhase.TheVariants as volumes
use Rattle.kube_objects.specs.declared.objects.Object.TheVariants.{Volume, Claim}
use Rattle.call_types.specs.declared.request.Request.TheVariants.{Get}
use Rattle.call_types.specs.declared.reply.Refusal.TheVariants.{NotFound, Conflict}
use Rattle.call_types.specs.declared.reply.Reply.{Reply}
use Rattle.call_types.specs.declared.reply.Reply.TheVariants.{Done, Found, Refused}
use Rattle.binder_model.specs.BindWrites.{unbound_volume, write_available, write_bound, write_claim_status, write_completion, write_reference, write_unbound}
use Rattle.binder_machines.specs.declared.machine.Machine.TheVariants.{Frees, Binds, MarksBound, ReadsClaim, Releases, Unbinds, ReadsVolume, Loses}
use Rattle.binder_machines.specs.Machines.{call_of, moved, parks_at, write_lost, write_phase}
use Rattle.model_examples.specs.Samples.{a, bound_a, bound_c, bound_for_other, c, completed_c, elsewhere_c, here_c, in_phase, key_a, key_c, other_c, prebound_a, taken_a}
use Rattle.model_examples.specs.BinderReleases.{reclaimed_a}

-- the write was refused, as it was decided on an older version
abbrev pub stale : Reply
stale = Refused (Conflict 9)

abbrev pub none : Reply
none = Refused NotFound

pub record BindingExamples : Type 0 where
  pub reference_is_first : call_of (Binds a c) ≡ Some (write_reference a c)
  pub reference_of_user_is_completed : call_of (Binds prebound_a c) ≡ Some (write_reference prebound_a c)
  pub goes_on_with_the_answer : moved (Binds a c) (Done (Volume taken_a)) ≡ Some (Binds taken_a c)
  pub bound_is_second : call_of (Binds taken_a c) ≡ Some (write_bound taken_a)
  pub completion_is_third : call_of (Binds bound_a c) ≡ Some (write_completion bound_a c)
  pub goes_on_with_the_claim : moved (Binds bound_a c) (Done (Claim completed_c)) ≡ Some (Binds bound_a completed_c)
  pub status_is_fourth : call_of (Binds bound_a completed_c) ≡ Some (write_claim_status bound_a completed_c)
  pub nothing_is_fifth : call_of (Binds bound_a bound_c) ≡ None
  pub volume_of_another_is_not_bound : call_of (Binds bound_for_other c) ≡ None
  pub claim_of_another_is_not_bound : call_of (Binds bound_a elsewhere_c) ≡ None
  pub ends_after_a_stale_answer : moved (Binds taken_a c) stale ≡ None

pub record ReleasingExamples : Type 0 where
  pub reads_the_claim : call_of (ReadsClaim taken_a) ≡ Some (Get key_c)
  pub releases_where_none_is : moved (ReadsClaim taken_a) none ≡ Some (Releases taken_a)
  pub releases_where_another_uid_is : moved (ReadsClaim taken_a) (Found (Claim other_c)) ≡ Some (Releases taken_a)
  pub writes_released : call_of (Releases taken_a) ≡ Some (write_phase taken_a volumes.Released)
  pub claim_that_names_none_is_left : moved (ReadsClaim taken_a) (Found (Claim c)) ≡ None
  pub claim_that_names_it_is_marked : moved (ReadsClaim taken_a) (Found (Claim here_c)) ≡ Some (MarksBound taken_a)
  pub bound_is_not_marked_again : moved (ReadsClaim bound_a) (Found (Claim here_c)) ≡ None
  pub claim_elsewhere_is_unbound : moved (ReadsClaim taken_a) (Found (Claim elsewhere_c)) ≡ Some (Unbinds taken_a)
  pub claim_elsewhere_of_reclaimed_is_released : moved (ReadsClaim reclaimed_a) (Found (Claim elsewhere_c)) ≡ Some (Releases reclaimed_a)

pub record UnbindingExamples : Type 0 where
  pub unbinds : call_of (Unbinds bound_a) ≡ Some (write_unbound bound_a)
  pub bound_one_is_freed : moved (Unbinds bound_a) (Done (Volume (unbound_volume bound_a))) ≡ Some (Frees (unbound_volume bound_a))
  pub available_one_is_left : moved (Unbinds taken_a) (Done (Volume (unbound_volume taken_a))) ≡ None
  pub writes_available : call_of (Frees (in_phase volumes.Pending a)) ≡ Some (write_available (in_phase volumes.Pending a))

pub record LosingExamples : Type 0 where
  pub reads_the_volume : call_of (ReadsVolume bound_c) ≡ Some (Get key_a)
  pub loses_where_none_is : moved (ReadsVolume bound_c) none ≡ Some (Loses bound_c)
  pub loses_to_another_claim : moved (ReadsVolume bound_c) (Found (Volume bound_for_other)) ≡ Some (Loses bound_c)
  pub writes_lost : call_of (Loses bound_c) ≡ Some (write_lost bound_c)
  pub carried_one_is_kept : moved (ReadsVolume bound_c) (Found (Volume bound_a)) ≡ None
  pub free_volume_keeps_it : moved (ReadsVolume bound_c) (Found (Volume a)) ≡ None

pub record ParkingExamples : Type 0 where
  pub stale_write_parks : parks_at (Binds taken_a c) stale ≡ true
  pub write_of_what_left_parks : parks_at (Releases taken_a) none ≡ true
  pub read_that_found_none_is_an_answer : parks_at (ReadsClaim taken_a) none ≡ false
  pub read_of_a_volume_likewise : parks_at (ReadsVolume bound_c) none ≡ false
  pub what_was_done_does_not_park : parks_at (Binds a c) (Done (Volume taken_a)) ≡ false
  pub what_was_found_does_not_park : parks_at (ReadsClaim taken_a) (Found (Claim c)) ≡ false
