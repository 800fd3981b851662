-- Where the scheduler's volume binding may write, and where it may not: for each row cases that hold, and for each of
-- its conditions one that misses it alone. A choice of this project, as the rows are. The newest exchange stands first.
use Rattle.std.specs.Prelude.{List, [], ◌∷◌, ◌++◌, Some, codes}
use Rattle.kube_parts.specs.declared.parts.Kind.TheVariants as kinds
use Rattle.kube_objects.specs.declared.objects.Class.{Class as ClassData}
use Rattle.kube_objects.specs.declared.objects.Claim.{Claim as ClaimData}
use Rattle.kube_objects.specs.declared.objects.Node.{Node as NodeData}
use Rattle.kube_objects.specs.declared.objects.Volume.{Volume as VolumeData}
use Rattle.kube_objects.specs.declared.objects.Object.TheVariants.{Volume, Claim}
use Rattle.kube_parts.specs.Uids.{uid_of_serial}
use Rattle.kube_objects.specs.Bindings.{bind_completed, selected_node, yes}
use Rattle.call_types.specs.declared.request.SeatKind.TheVariants as seats
use Rattle.call_types.specs.declared.request.Request.{Request}
use Rattle.call_types.specs.declared.request.Request.TheVariants as requests
use Rattle.binder_model.specs.BindWrites.{taken_for, unbound_volume, write_reference}
use Rattle.kube_objects.specs.declared.objects.Pod.{Pod as PodData}
use Rattle.binder_model.specs.Provisioning.{terms_for}
use Rattle.model_examples.specs.Samples.{
  tells_pod,
  key_c,
  uid_p,
  node_1,
  volume_at,
  bound_a,
  bound_c,
  p,
  waiting_p,
  Allows,
  Refuses,
  Exchange,
  lists,
  tells_volume,
  tells_claim,
  tells_class,
  tells_node,
  tells_both,
  a,
  c,
  naming,
  taken_a,
  fast,
  late,
  n1,
  chosen_c,
  far_a,
  key_p,
  no_uid_c,
  tells_three,
}

-- ClaimRef

pub record SchedulerClaimRefExamples : Type 0 where
  pub takes_free_volume : Allows seats.Scheduler (tells_both c a) (write_reference a c)
  pub takes_for_claim_without_uid_is_refused : Refuses seats.Scheduler (tells_both no_uid_c a) (write_reference a no_uid_c)
  pub takes_for_claim_never_told_is_refused : Refuses seats.Scheduler (tells_volume a ∷ []) (write_reference a c)
  pub takes_at_other_version_is_refused : Refuses seats.Scheduler (tells_both c a) (requests.Update (Volume (taken_for a c)) (Some 2))
  pub unbinds_is_refused : Refuses seats.Scheduler (tells_both (naming (codes "b") c) taken_a) (requests.Update (Volume (unbound_volume taken_a)) (Some 4))

-- SelectedNode, as it is set

abbrev pub choose : Request
choose = requests.Update (Claim chosen_c) (Some 2)

abbrev pub completed_plain : ClaimData
completed_plain = let old = c in record old { meta = record old.meta { annotations = (bind_completed, yes) ∷ [] } }

abbrev pub completed_on_node : ClaimData
completed_on_node = let old = c in record old { meta = record old.meta { annotations = (bind_completed, yes) ∷ (selected_node, codes "n1") ∷ [] } }

abbrev pub later_fast : ClassData
later_fast = record fast { meta = record fast.meta { version = 9 } }

-- another node than those that were told; and a claim that names its volume beside
abbrev pub on_other_node : ClaimData
on_other_node = let old = c in record old { meta = record old.meta { annotations = (selected_node, codes "n2") ∷ [] } }

pub record SelectNodeExamples : Type 0 where
  pub chooses_node : Allows seats.Scheduler (tells_three c late n1) choose
  pub chooses_again : Allows seats.Scheduler (tells_three on_other_node late n1) choose
  pub completed_claim_is_refused : Refuses seats.Scheduler (tells_three completed_plain late n1) (requests.Update (Claim completed_on_node) (Some 2))
  pub class_never_told_is_refused : Refuses seats.Scheduler (tells_claim c ∷ tells_node n1 ∷ []) choose
  pub class_without_delay_is_refused : Refuses seats.Scheduler (tells_three c fast n1) choose
  pub older_telling_of_the_class_is_refused : Refuses seats.Scheduler (tells_class later_fast ∷ tells_three c late n1) choose
  pub node_never_told_is_refused : Refuses seats.Scheduler (tells_claim c ∷ tells_class late ∷ []) choose
  pub node_told_gone_is_refused : Refuses seats.Scheduler (lists kinds.Node [] 9 ∷ tells_three c late n1) choose
  pub other_node_is_refused : Refuses seats.Scheduler (tells_three c late n1) (requests.Update (Claim on_other_node) (Some 2))
  pub names_a_volume_too_is_refused : Refuses seats.Scheduler (tells_three c late n1) (requests.Update (Claim (naming (codes "a") chosen_c)) (Some 2))
  pub other_version_is_refused : Refuses seats.Scheduler (tells_three c late n1) (requests.Update (Claim chosen_c) (Some 1))

-- BindPod

-- the pod, the node, the claim and the volume were told
abbrev pub tells_four : VolumeData → ClaimData → NodeData → PodData → List Exchange
tells_four v x n q = tells_volume v ∷ tells_claim x ∷ tells_node n ∷ tells_pod q ∷ []

abbrev pub told_ready : List Exchange
told_ready = tells_four bound_a bound_c n1 waiting_p

abbrev pub assign : Request
assign = requests.BindPod key_p uid_p node_1

abbrev pub here_a : VolumeData
here_a = record bound_a { terms = terms_for (Some (codes "zone", codes "z1")) }

abbrev pub plain_pod : PodData
plain_pod = record waiting_p { claims = [] }

abbrev pub other_pod : PodData
other_pod = record waiting_p { meta = record waiting_p.meta { uid = Some (uid_of_serial 8) } }

abbrev pub pod_of_two : PodData
pod_of_two = record waiting_p { claims = codes "c" ∷ codes "d" ∷ [] }

abbrev pub scheduled_pod : PodData
scheduled_pod = record p { meta = record p.meta { version = 10 } }

abbrev pub uncompleted_c : ClaimData
uncompleted_c = let old = bound_c in record old { meta = record old.meta { annotations = []; version = 9 } }

pub record BindPodExamples : Type 0 where
  pub assigns : Allows seats.Scheduler told_ready assign
  pub assigns_where_volume_admits : Allows seats.Scheduler (tells_four here_a bound_c n1 waiting_p) assign
  pub assigns_pod_without_claims : Allows seats.Scheduler (tells_node n1 ∷ tells_pod plain_pod ∷ []) assign
  pub other_uid_is_refused : Refuses seats.Scheduler (tells_four bound_a bound_c n1 other_pod) assign
  pub scheduled_pod_is_refused : Refuses seats.Scheduler (tells_four bound_a bound_c n1 p) assign
  pub older_telling_of_the_pod_is_refused : Refuses seats.Scheduler (tells_pod scheduled_pod ∷ told_ready) assign
  pub pod_never_told_is_refused : Refuses seats.Scheduler (tells_both bound_c bound_a ++ tells_node n1 ∷ []) assign
  pub pod_told_gone_is_refused : Refuses seats.Scheduler (lists kinds.Pod [] 10 ∷ told_ready) assign
  pub key_of_other_kind_is_refused : Refuses seats.Scheduler told_ready (requests.BindPod key_c uid_p node_1)
  pub node_never_told_is_refused : Refuses seats.Scheduler (tells_volume bound_a ∷ tells_claim bound_c ∷ tells_pod waiting_p ∷ []) assign
  pub node_told_gone_is_refused : Refuses seats.Scheduler (lists kinds.Node [] 10 ∷ told_ready) assign
  pub claim_never_told_is_refused : Refuses seats.Scheduler (tells_volume bound_a ∷ tells_node n1 ∷ tells_pod waiting_p ∷ []) assign
  pub claim_before_completion_is_refused : Refuses seats.Scheduler (tells_four bound_a (naming (codes "a") c) n1 waiting_p) assign
  pub older_telling_of_the_claim_is_refused : Refuses seats.Scheduler (tells_claim uncompleted_c ∷ told_ready) assign
  pub second_claim_never_told_is_refused : Refuses seats.Scheduler (tells_four bound_a bound_c n1 pod_of_two) assign
  pub volume_never_told_is_refused : Refuses seats.Scheduler (tells_claim bound_c ∷ tells_node n1 ∷ tells_pod waiting_p ∷ []) assign
  pub volume_told_gone_is_refused : Refuses seats.Scheduler (lists kinds.PersistentVolume [] 10 ∷ told_ready) assign
  pub volume_far_from_the_node_is_refused : Refuses seats.Scheduler (tells_four far_a bound_c n1 waiting_p) assign
  pub older_telling_of_the_volume_is_refused : Refuses seats.Scheduler (tells_volume (volume_at 9 far_a) ∷ told_ready) assign
