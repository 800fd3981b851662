-- What the provisioner and reclaimer begins on a look-up alone: cases that the definitions give, each beside others that they give otherwise.
-- A choice of this project, as the machines are.
use Rattle.std.specs.Prelude.{◌≡◌, List, [], ◌∷◌, Option, Some, None}
use Rattle.kube_objects.specs.declared.objects.Claim.{Claim as ClaimData}
use Rattle.kube_objects.specs.declared.objects.Volume.{Volume as VolumeData}
use Rattle.kube_objects.specs.declared.objects.Object.{Object}
use Rattle.kube_objects.specs.declared.objects.Object.TheVariants.{Class, Node, Volume, Claim}
use Rattle.reclaim_ops.specs.declared.provision.ProvisionOp.{ProvisionOp}
use Rattle.reclaim_ops.specs.declared.provision.ProvisionStep.TheVariants as provision_steps
use Rattle.reclaim_ops.specs.declared.erase.EraseOp.{EraseOp}
use Rattle.reclaim_ops.specs.declared.erase.EraseStep.TheVariants as erase_steps
use Rattle.reclaim_ops.specs.Decisions.{claim_begins, volume_begins}
use Rattle.model_examples.specs.DueActions.{big_c, pvc_volume}
use Rattle.model_examples.specs.OpsRows.{deleting_c, undone_c}
use Rattle.model_examples.specs.Samples.{
  a,
  c,
  chosen_c,
  deleting_a,
  ended_a,
  failed_a,
  fast,
  here_c,
  idle_class,
  late,
  n1,
  never_bound_a,
  no_uid_c,
  prebound_a,
  released_a,
  selecting_c,
  still_bound_a,
  taken_a,
  uid_c,
  zone,
}
use Rattle.machine_examples.specs.Reclaim.EraseMoves.{with_volume}
use Rattle.machine_examples.specs.Reclaim.ProvisionMoves.{at_once, on_node}

-- where the look-up has these objects beside the claim, this begins on it
abbrev pub OnClaim : List Object → ClaimData → Option ProvisionOp → Type 0
OnClaim rows x begun = claim_begins rows (Some (Claim x)) ≡ begun

abbrev pub OnVolume : VolumeData → Option EraseOp → Type 0
OnVolume v begun = volume_begins (Some (Volume v)) ≡ begun

pub record ProvisionBeginExamples : Type 0 where
  pub claim_is_provisioned : OnClaim (Class fast ∷ []) c (Some (at_once (provision_steps.Provisions None)))
  pub completed_claim_is_left : OnClaim (Class fast ∷ []) undone_c None
  pub deleting_claim_is_left : OnClaim (Class fast ∷ []) deleting_c None
  pub claim_that_names_a_volume_is_left : OnClaim (Class fast ∷ []) here_c None
  pub claim_with_a_selector_is_left : OnClaim (Class fast ∷ []) selecting_c None
  pub claim_without_a_uid_is_left : OnClaim (Class fast ∷ []) no_uid_c None
  pub claim_without_its_class_is_left : OnClaim [] c None
  pub class_that_provisions_nothing_is_passed_over : OnClaim (Class idle_class ∷ []) c None
  pub claim_with_a_match_is_left : OnClaim (Class fast ∷ Volume a ∷ []) c None
  pub claim_with_a_volume_of_its_own_is_left : OnClaim (Class fast ∷ Volume taken_a ∷ []) c None
  pub too_small_volume_does_not_count : OnClaim (Class fast ∷ Volume a ∷ []) big_c (Some (record { claim = big_c; uid = uid_c; class = fast; step = provision_steps.Provisions None }))
  pub volume_of_the_name_that_does_not_match_does_not_count : OnClaim (Class fast ∷ Volume pvc_volume ∷ []) c (Some (at_once (provision_steps.Provisions None)))
  pub chosen_node_does_not_count_without_delay : OnClaim (Class fast ∷ []) chosen_c (Some (record { claim = chosen_c; uid = uid_c; class = fast; step = provision_steps.Provisions None }))
  pub delayed_claim_waits_for_its_node : OnClaim (Class late ∷ Node n1 ∷ []) c None
  pub delayed_claim_is_provisioned_on_its_node : OnClaim (Class late ∷ Node n1 ∷ []) chosen_c (Some (on_node (provision_steps.Provisions (Some zone))))
  pub absent_node_is_taken_back : OnClaim (Class late ∷ []) chosen_c (Some (on_node provision_steps.ClearsNode))
  pub free_volume_does_not_count_under_delay : OnClaim (Class late ∷ Node n1 ∷ Volume a ∷ []) chosen_c (Some (on_node (provision_steps.Provisions (Some zone))))
  pub reserved_volume_counts_under_delay : OnClaim (Class late ∷ Node n1 ∷ Volume prebound_a ∷ []) chosen_c None
  pub volume_is_no_claim : claim_begins (Class fast ∷ []) (Some (Volume a)) ≡ None
  pub absent_claim_is_left : claim_begins (Class fast ∷ []) None ≡ None

pub record ReclaimBeginExamples : Type 0 where
  pub released_volume_is_read : OnVolume ended_a (Some (with_volume erase_steps.ReadsVolume ended_a))
  pub failed_volume_is_read : OnVolume failed_a (Some (with_volume erase_steps.ReadsVolume failed_a))
  pub bound_volume_is_left : OnVolume still_bound_a None
  pub volume_to_be_kept_is_left : OnVolume released_a None
  pub volume_that_was_never_bound_is_left : OnVolume never_bound_a None
  pub deleting_volume_is_left : OnVolume deleting_a None
  pub claim_is_no_volume : volume_begins (Some (Claim c)) ≡ None
  pub absent_volume_is_left : volume_begins None ≡ None
