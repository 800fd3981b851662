-- The examples of the protection controllers compute.
use Rattle.std.proofs.Common.{refl, sym, ap, true≢false}
use Rattle.std.specs.Prelude.{Bool, true, false}
use Rattle.protect_sync.specs.declared.claims.ClaimGuardStep.{ClaimGuardStep}
use Rattle.protect_sync.specs.declared.claims.ClaimGuardStep.TheVariants as claims
use Rattle.protect_sync.specs.ClaimGuards.{claim_guard_call, claim_moved}
use Rattle.protect_sync.specs.VolumeGuards.{volume_guard_call, volume_moved}
use Rattle.worker_core.specs.declared.task.First.{First}
use Rattle.worker_core.specs.declared.task.First.TheVariants as firsts
use Rattle.worker_core.specs.declared.task.Task.TheVariants as tasks
use Rattle.machine_examples.specs.Actor.Protection.{BuiltKindExamples, ProtectionDecisionExamples, ProtectionMoveExamples}

-- what sets one decision apart from another

abbrev begins : First → Bool
begins (firsts.Begins task) = true
begins first = false

abbrev lists_pods : First → Bool
lists_pods (firsts.Begins (tasks.ClaimProtect op)) = by op.step
  where
    by : ClaimGuardStep → Bool
    by claims.ListsPods = true
    by step = false
lists_pods first = false

pub decisions : ProtectionDecisionExamples
decisions = record {
  bare_claim_gets_it = refl;
  it_is_not_left = λ h. true≢false (sym (ap begins h));
  guarded_claim_is_left = refl;
  leaving_claim_has_its_pods_listed = refl;
  it_loses_nothing_before = λ h. true≢false (sym (ap lists_pods h));
  leaving_claim_in_use_is_left = refl;
  it_binds_nothing = λ h. true≢false (ap begins h);
  no_other_key_is_queued = λ h. true≢false (sym (ap begins h));
  bare_volume_gets_it = refl;
  leaving_volume_loses_it = refl;
  leaving_bound_volume_is_left = refl;
  binder_adds_none = λ h. h;
  user_decides_nothing = λ h. h;
}

pub moves : ProtectionMoveExamples
unfolding claim_guard_call claim_moved volume_guard_call volume_moved
moves = record {
  no_pod_drops_it = refl;
  pod_that_uses_it_ends_it = refl;
  its_key_is_not_parked = refl;
  refused_list_ends_it = refl;
  its_key_is_parked = refl;
  dropped_is_the_end = refl;
  dropped_is_not_parked = refl;
  added_is_the_end = refl;
  stale_write_is_the_end = refl;
  stale_write_parks = refl;
  written_does_not = refl;
}

pub built_kinds : BuiltKindExamples
built_kinds = record { binder = tt; claim_protection = tt; volume_protection = tt; user_is_none = λ h. h; node_agent = tt; provisioner_and_reclaimer = tt; scheduler = tt }
