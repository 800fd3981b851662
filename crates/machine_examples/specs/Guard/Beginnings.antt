-- What protection begins on a look-up alone: cases that the definitions give, each beside others that they give otherwise.
-- A choice of this project, as the machines are.
use Rattle.std.specs.Prelude.{◌≡◌, List, [], ◌∷◌, Option, Some, None}
use Rattle.kube_objects.specs.declared.objects.Claim.{Claim as ClaimData}
use Rattle.kube_objects.specs.declared.objects.Object.{Object}
use Rattle.kube_objects.specs.declared.objects.Object.TheVariants.{Volume, Claim, Pod}
use Rattle.kube_objects.specs.declared.objects.Volume.{Volume as VolumeData}
use Rattle.protect_sync.specs.declared.claims.ClaimGuardOp.{ClaimGuardOp}
use Rattle.protect_sync.specs.declared.claims.ClaimGuardStep.TheVariants as claims
use Rattle.protect_sync.specs.declared.volumes.VolumeGuardOp.{VolumeGuardOp}
use Rattle.protect_sync.specs.declared.volumes.VolumeGuardStep.TheVariants as volumes
use Rattle.protect_sync.specs.Decisions.{claim_guard_begins, volume_guard_begins}
use Rattle.model_examples.specs.Samples.{a, c, leaving_bound_a, p, waiting_p}
use Rattle.model_examples.specs.ProtectionRows.{bare_a, bare_c, leaving_a, leaving_bare_a, leaving_c, loose_c}
use Rattle.machine_examples.specs.Guard.Moves.{at_claim, at_volume}

-- where the cache has these pods, this begins on the claim
abbrev pub OnClaim : List Object → ClaimData → Option ClaimGuardOp → Type 0
OnClaim pods x begun = claim_guard_begins (Claim x ∷ pods) (Some (Claim x)) ≡ begun

abbrev pub OnVolume : VolumeData → Option VolumeGuardOp → Type 0
OnVolume v begun = volume_guard_begins (Some (Volume v)) ≡ begun

pub record BeginExamples : Type 0 where
  pub bare_claim_gets_it : OnClaim [] bare_c (Some (at_claim claims.Adds bare_c))
  pub bare_claim_in_use_gets_it : OnClaim (Pod p ∷ []) bare_c (Some (at_claim claims.Adds bare_c))
  pub guarded_claim_is_left : OnClaim [] c None
  pub leaving_claim_has_its_pods_listed : OnClaim [] leaving_c (Some (at_claim claims.ListsPods leaving_c))
  pub waiting_pod_does_not_count : OnClaim (Pod waiting_p ∷ []) leaving_c (Some (at_claim claims.ListsPods leaving_c))
  pub leaving_claim_in_use_is_left : OnClaim (Pod p ∷ []) leaving_c None
  pub leaving_claim_without_it_is_left : OnClaim [] loose_c None
  pub volume_is_no_claim : claim_guard_begins [] (Some (Volume bare_a)) ≡ None
  pub bare_volume_gets_it : OnVolume bare_a (Some (at_volume volumes.Adds bare_a))
  pub guarded_volume_is_left : OnVolume a None
  pub leaving_volume_loses_it : OnVolume leaving_a (Some (at_volume volumes.Drops leaving_a))
  pub leaving_bound_volume_is_left : OnVolume leaving_bound_a None
  pub leaving_volume_without_it_is_left : OnVolume leaving_bare_a None
  pub absent_volume_is_left : volume_guard_begins None ≡ None
