-- What the machines of protection ask and what they make of answers: cases that the definitions give, and cases beside them that they
-- do not. A choice of this project, as the machines are.
use Rattle.std.specs.Prelude.{◌≡◌, true, false, [], ◌∷◌, Some, None, codes}
use Rattle.kube_parts.specs.declared.parts.Kind.TheVariants as kinds
use Rattle.kube_objects.specs.declared.objects.Claim.{Claim as ClaimData}
use Rattle.kube_objects.specs.declared.objects.Object.TheVariants.{Volume, Claim, Pod}
use Rattle.kube_objects.specs.declared.objects.Volume.{Volume as VolumeData}
use Rattle.call_types.specs.declared.request.Request.TheVariants.{List as ListOf}
use Rattle.call_types.specs.declared.reply.Refusal.TheVariants.{NotFound, Conflict}
use Rattle.call_types.specs.declared.reply.Reply.{Reply}
use Rattle.call_types.specs.declared.reply.Reply.TheVariants.{Done, Left, Listed, Refused}
use Rattle.protect_sync.specs.declared.claims.ClaimGuardOp.{ClaimGuardOp}
use Rattle.protect_sync.specs.declared.claims.ClaimGuardStep.{ClaimGuardStep}
use Rattle.protect_sync.specs.declared.claims.ClaimGuardStep.TheVariants as claims
use Rattle.protect_sync.specs.declared.volumes.VolumeGuardOp.{VolumeGuardOp}
use Rattle.protect_sync.specs.declared.volumes.VolumeGuardStep.{VolumeGuardStep}
use Rattle.protect_sync.specs.declared.volumes.VolumeGuardStep.TheVariants as volumes
use Rattle.protect_sync.specs.ClaimGuards.{claim_guard_call, claim_moved, claim_parks}
use Rattle.protect_sync.specs.VolumeGuards.{volume_guard_call, volume_moved, volume_parks}
use Rattle.model_examples.specs.Samples.{p, waiting_p, with_uid}
use Rattle.model_examples.specs.ProtectionRows.{bare_a, bare_c, foreign_p, guarded_a, guarded_c, leaving_a, leaving_c, loose_a, loose_c, other_p, put_claim, put_volume}

-- a claim and a volume at a step

abbrev pub at_claim : ClaimGuardStep → ClaimData → ClaimGuardOp
at_claim step c = record { claim = c; step = step }

abbrev pub at_volume : VolumeGuardStep → VolumeData → VolumeGuardOp
at_volume step v = record { volume = v; step = step }

-- the write was refused, as it was decided on an older version
abbrev pub stale : Reply
stale = Refused (Conflict 9)

pub record ClaimCallExamples : Type 0 where
  pub adds_it_at_the_version : claim_guard_call (at_claim claims.Adds bare_c) ≡ Some (put_claim guarded_c 2)
  pub lists_the_pods_of_the_namespace : claim_guard_call (at_claim claims.ListsPods leaving_c) ≡ Some (ListOf kinds.Pod (Some (codes "default")))
  pub drops_its_own_alone : claim_guard_call (at_claim claims.Drops leaving_c) ≡ Some (put_claim loose_c 6)
  pub claim_without_a_uid_is_left : claim_guard_call (at_claim claims.ListsPods (with_uid None leaving_c)) ≡ None
  pub nothing_is_left_when_done : claim_guard_call (at_claim claims.Done leaving_c) ≡ None
  pub nothing_is_left_when_parked : claim_guard_call (at_claim claims.Parked leaving_c) ≡ None

pub record ClaimMoveExamples : Type 0 where
  pub no_pod_drops_it : claim_moved (at_claim claims.ListsPods leaving_c) (Listed [] 9) ≡ at_claim claims.Drops leaving_c
  pub waiting_pod_drops_it : claim_moved (at_claim claims.ListsPods leaving_c) (Listed (Pod waiting_p ∷ []) 9) ≡ at_claim claims.Drops leaving_c
  pub pod_of_another_claim_drops_it : claim_moved (at_claim claims.ListsPods leaving_c) (Listed (Pod other_p ∷ []) 9) ≡ at_claim claims.Drops leaving_c
  pub pod_of_another_namespace_drops_it : claim_moved (at_claim claims.ListsPods leaving_c) (Listed (Pod foreign_p ∷ []) 9) ≡ at_claim claims.Drops leaving_c
  pub pod_that_uses_it_keeps_it : claim_moved (at_claim claims.ListsPods leaving_c) (Listed (Pod waiting_p ∷ Pod p ∷ []) 9) ≡ at_claim claims.Done leaving_c
  pub what_was_added_is_done : claim_moved (at_claim claims.Adds bare_c) (Done (Claim guarded_c)) ≡ at_claim claims.Done bare_c
  pub what_left_is_done : claim_moved (at_claim claims.Drops leaving_c) (Left (Claim loose_c)) ≡ at_claim claims.Done leaving_c
  pub stale_write_is_parked : claim_moved (at_claim claims.Drops leaving_c) stale ≡ at_claim claims.Parked leaving_c
  pub claim_that_is_gone_is_parked : claim_moved (at_claim claims.Adds bare_c) (Refused NotFound) ≡ at_claim claims.Parked bare_c
  pub what_has_ended_stays : claim_moved (at_claim claims.Parked leaving_c) (Listed [] 9) ≡ at_claim claims.Parked leaving_c

pub record VolumeExamples : Type 0 where
  pub adds_it_at_the_version : volume_guard_call (at_volume volumes.Adds bare_a) ≡ Some (put_volume guarded_a 3)
  pub drops_its_own_alone : volume_guard_call (at_volume volumes.Drops leaving_a) ≡ Some (put_volume loose_a 3)
  pub nothing_is_left_when_done : volume_guard_call (at_volume volumes.Done leaving_a) ≡ None
  pub what_was_dropped_is_done : volume_moved (at_volume volumes.Drops leaving_a) (Done (Volume loose_a)) ≡ at_volume volumes.Done leaving_a
  pub stale_write_is_parked : volume_moved (at_volume volumes.Drops leaving_a) stale ≡ at_volume volumes.Parked leaving_a
  pub what_has_ended_stays : volume_moved (at_volume volumes.Parked leaving_a) (Done (Volume loose_a)) ≡ at_volume volumes.Parked leaving_a

pub record ParkingExamples : Type 0 where
  pub parked_claim_parks : claim_parks claims.Parked ≡ true
  pub done_claim_does_not : claim_parks claims.Done ≡ false
  pub claim_whose_pods_are_listed_does_not : claim_parks claims.ListsPods ≡ false
  pub parked_volume_parks : volume_parks volumes.Parked ≡ true
  pub done_volume_does_not : volume_parks volumes.Done ≡ false
