-- What the provisioner asks and what it makes of answers: cases that the definitions give, and cases beside them that they give otherwise.
-- A choice of this project, as the machines are.
use Rattle.std.specs.Prelude.{◌≡◌, ◌*◌, ◌^◌, true, false, [], ◌∷◌, Some, None, codes}
use Rattle.plain_data.specs.Pairs.{Pair}
use Rattle.kube_parts.specs.declared.parts.Op.TheVariants.{In}
use Rattle.kube_parts.specs.declared.parts.Policy.TheVariants as policies
use Rattle.kube_parts.specs.declared.parts.SourceKind.TheVariants.{Csi}
use Rattle.kube_parts.specs.declared.parts.VolumePhase.TheVariants as phases
use Rattle.kube_objects.specs.declared.objects.Class.{Class as ClassData}
use Rattle.kube_objects.specs.declared.objects.Claim.{Claim as ClaimData}
use Rattle.kube_objects.specs.declared.objects.NodeTerms.{NodeTerms}
use Rattle.kube_objects.specs.declared.objects.Volume.{Volume as VolumeData}
use Rattle.kube_objects.specs.declared.objects.Object.TheVariants.{Volume, Claim}
use Rattle.kube_objects.specs.Bindings.{bound_by_controller, provisioned_by, selected_node, yes}
use Rattle.call_types.specs.declared.request.Request.TheVariants as requests
use Rattle.call_types.specs.declared.reply.Refusal.TheVariants as refusals
use Rattle.call_types.specs.declared.reply.Reply.{Reply}
use Rattle.call_types.specs.declared.reply.Reply.TheVariants.{Done, Provisioned, Refused}
use Rattle.binder_model.specs.Provisioning.{data_name}
use Rattle.reclaim_ops.specs.declared.provision.ProvisionOp.{ProvisionOp}
use Rattle.reclaim_ops.specs.declared.provision.ProvisionStep.{ProvisionStep}
use Rattle.reclaim_ops.specs.declared.provision.ProvisionStep.TheVariants as steps
use Rattle.reclaim_ops.specs.Decisions.{at_step}
use Rattle.reclaim_ops.specs.Provisions.{provision_call, provision_moved, provision_parks}
use Rattle.model_examples.specs.OpsRows.{id_1, pool_pair}
use Rattle.model_examples.specs.Samples.{amount, c, chosen_c, fast, late, once, ref_c, uid_c, zone}

-- a claim whose class provisions at once, and one for which a node was chosen, at a step

abbrev pub at_once : ProvisionStep → ProvisionOp
at_once step = at_step c uid_c fast step

abbrev pub on_node : ProvisionStep → ProvisionOp
on_node step = at_step chosen_c uid_c late step

-- the volume that is made for the claim, by all of its fields
abbrev pub made : VolumeData
made = record {
  meta = record {
    namespace = [];
    name = data_name uid_c;
    uid = None;
    version = 0;
    created = [];
    deleted = None;
    labels = [];
    annotations = (bound_by_controller, yes) ∷ (provisioned_by, codes "x/y") ∷ [];
    finalizers = [];
  };
  amount = record { text = codes "n"; bytes = 3 * 2 ^ 30 };
  modes = once;
  block = false;
  class = codes "slow";
  policy = policies.Delete;
  claim_ref = Some ref_c;
  source = record { kind = Csi; first = codes "x/y"; second = codes "data-1" };
  terms = None;
  extra = [];
  phase = phases.Pending;
}

-- nodes of the zone alone
abbrev pub in_zone : NodeTerms
in_zone = record { terms = (record { key = codes "zone"; op = In; values = codes "z1" ∷ [] } ∷ []) ∷ [] }

abbrev pub keeping : ClassData
keeping = record fast { policy = policies.Retain }

-- another mark beside the chosen node
abbrev pub mark : Pair
mark = (codes "a", codes "b")

abbrev pub marked_c : ClaimData
marked_c = record c { meta = record c.meta { annotations = mark ∷ (selected_node, codes "n1") ∷ [] } }

abbrev pub cleared_c : ClaimData
cleared_c = record c { meta = record c.meta { annotations = mark ∷ [] } }

abbrev pub exhausted : Reply
exhausted = Refused (refusals.Exhausted 0)

abbrev pub faulty : Reply
faulty = Refused (refusals.BackFault 1)

pub record ProvisionCallExamples : Type 0 where
  pub asks_for_data : provision_call (at_once (steps.Provisions None)) ≡ Some (requests.Provision (data_name uid_c) (codes "x/y") (3 * 2 ^ 30) None)
  pub asks_on_the_node_that_was_chosen : provision_call (on_node (steps.Provisions (Some zone))) ≡ Some (requests.Provision (data_name uid_c) (codes "x/y") (3 * 2 ^ 30) (Some zone))
  pub makes_the_volume : provision_call (at_once (steps.Creates id_1 None)) ≡ Some (requests.Create (Volume made))
  pub makes_it_for_the_place_of_its_pool : provision_call (at_once (steps.Creates id_1 pool_pair)) ≡ Some (requests.Create (Volume (record made { terms = Some in_zone })))
  pub makes_it_by_the_policy_of_the_class : provision_call (at_step c uid_c keeping (steps.Creates id_1 None)) ≡ Some (requests.Create (Volume (record made { policy = policies.Retain })))
  pub takes_the_node_alone_back : provision_call (at_step marked_c uid_c late steps.ClearsNode) ≡ Some (requests.Update (Claim cleared_c) (Some 2))
  pub nothing_is_left_when_done : provision_call (at_once steps.Done) ≡ None
  pub nothing_is_left_when_parked : provision_call (at_once steps.Parked) ≡ None

pub record ProvisionMoveExamples : Type 0 where
  pub given_data_get_a_volume : provision_moved (at_once (steps.Provisions None)) (Provisioned id_1 None) ≡ at_once (steps.Creates id_1 None)
  pub place_of_the_pool_is_kept : provision_moved (on_node (steps.Provisions (Some zone))) (Provisioned id_1 pool_pair) ≡ on_node (steps.Creates id_1 pool_pair)
  pub exhausted_at_once_parks : provision_moved (at_once (steps.Provisions None)) exhausted ≡ at_once steps.Parked
  pub exhausted_on_a_node_takes_it_back : provision_moved (on_node (steps.Provisions (Some zone))) exhausted ≡ on_node steps.ClearsNode
  pub fault_parks : provision_moved (at_once (steps.Provisions None)) faulty ≡ at_once steps.Parked
  pub fault_on_a_node_parks : provision_moved (on_node (steps.Provisions (Some zone))) faulty ≡ on_node steps.Parked
  pub made_volume_is_done : provision_moved (at_once (steps.Creates id_1 None)) (Done (Volume made)) ≡ at_once steps.Done
  pub refused_volume_parks : provision_moved (on_node (steps.Creates id_1 None)) (Refused refusals.AlreadyExists) ≡ on_node steps.Parked
  pub cleared_claim_is_done : provision_moved (on_node steps.ClearsNode) (Done (Claim c)) ≡ on_node steps.Done
  pub stale_clearing_parks : provision_moved (on_node steps.ClearsNode) (Refused (refusals.Conflict 9)) ≡ on_node steps.Parked
  pub what_is_parked_stays : provision_moved (at_once steps.Parked) (Provisioned id_1 None) ≡ at_once steps.Parked
  pub what_is_done_stays : provision_moved (at_once steps.Done) faulty ≡ at_once steps.Done
  pub parked_parks : provision_parks steps.Parked ≡ true
  pub done_does_not : provision_parks steps.Done ≡ false
  pub node_that_is_taken_back_does_not : provision_parks steps.ClearsNode ≡ false
