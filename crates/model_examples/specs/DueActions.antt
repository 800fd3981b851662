-- What is due for an object of a small world: each action once, and for each of its conditions a world that misses it.
-- Source: as for the single actions; a choice of this project.
use Rattle.std.specs.Prelude.{◌*◌, ◌^◌, true, false, List, [], ◌∷◌, Option, Some, None, codes}
use Rattle.kube_parts.specs.declared.names.Due.{Due}
use Rattle.kube_parts.specs.declared.names.Due.TheVariants as dues
use Rattle.kube_parts.specs.declared.parts.ClaimPhase.TheVariants as claims
use Rattle.kube_parts.specs.declared.parts.Policy.TheVariants as policies
use Rattle.kube_parts.specs.declared.parts.VolumePhase.TheVariants as volumes
use Rattle.kube_objects.specs.declared.objects.Claim.{Claim as ClaimData}
use Rattle.kube_objects.specs.declared.objects.Pod.{Pod as PodData}
use Rattle.kube_objects.specs.declared.objects.Volume.{Volume as VolumeData}
use Rattle.kube_objects.specs.declared.objects.Object.{Object}
use Rattle.kube_objects.specs.declared.objects.Object.TheVariants.{Class, Node, Volume, Claim, Pod}
use Rattle.kube_objects.specs.Bindings.{bound_by_controller, provisioned_by, no_provisioner, yes}
use Rattle.call_types.specs.declared.setup.Setup.{Setup}
use Rattle.binder_model.specs.Devices.{MountAt, no_devices}
use Rattle.binder_model.specs.Provisioning.{data_name, terms_for}
use Rattle.binder_model.specs.World.{World, first_world}
use Rattle.binder_model.specs.Due.{IsDue, IsSettled, IsFirstDue}
use Rattle.model_laws.specs.Worked.{no_setup}
use Rattle.model_examples.specs.Samples.{
  amount,
  a,
  c,
  other_c,
  in_phase,
  with_reference,
  naming,
  deleting,
  key_a,
  key_c,
  uid_c,
  name_c,
  other_ref_c,
  taken_a,
  bound_a,
  released_a,
  completed_c,
  bound_c,
  fast,
  late,
  n1,
  chosen_c,
  p,
  waiting_p,
  ending_p,
  uid_p,
  node_1,
  ended_a,
  elsewhere_c,
  failed_a,
  far_a,
  here_c,
  idle_class,
  leaving_bound_a,
  nameless_c,
  selecting_c,
  uncompleted_c,
  unguarded_a,
  unguarded_c,
  lost_c,
  d,
  zone,
}
use Rattle.model_examples.specs.DefaultClass.{classless_c, classless_by_annotation, of_class, gold, unmarked}

-- a pool of 10 gibibytes, also one for a zone alone
abbrev pub pool_setup : Setup
pool_setup = record { pools = record { name = codes "pool"; provisioner = codes "x/y"; bytes = 10 * 2 ^ 30; topology = None } ∷ []; faults = []; imports = [] }

abbrev pub small_setup : Setup
small_setup = record { pools = record { name = codes "pool"; provisioner = codes "x/y"; bytes = 2 * 2 ^ 30; topology = None } ∷ []; faults = []; imports = [] }

abbrev pub far_setup : Setup
far_setup = record { pools = record { name = codes "pool"; provisioner = codes "x/y"; bytes = 10 * 2 ^ 30; topology = Some (codes "zone", codes "z2") } ∷ []; faults = []; imports = [] }

abbrev pub with_rows : List Object → World
with_rows rows = record (first_world no_setup) { store = record { rows = rows; version = 20 } }

-- a pool whose provisioner has the name of the one that provisions nothing
abbrev pub idle_setup : Setup
idle_setup = record { pools = record { name = codes "pool"; provisioner = no_provisioner; bytes = 10 * 2 ^ 30; topology = None } ∷ []; faults = []; imports = [] }

-- the action is due for the object in the world of these rows
abbrev pub DueOf : Object → List Object → Option Due → Type 0
DueOf o rows action = IsDue no_setup (with_rows rows) o action

-- volumes, for the binder

abbrev pub pending_a : VolumeData
pending_a = in_phase volumes.Pending a

abbrev pub prebound_a : VolumeData
prebound_a = with_reference (Some name_c) pending_a

abbrev pub reclaimed_a : VolumeData
reclaimed_a = let old = bound_a in record old { meta = record old.meta { annotations = (bound_by_controller, yes) ∷ (provisioned_by, codes "x/y") ∷ [] }; policy = policies.Delete }

pub record VolumeDueExamples : Type 0 where
  pub available_without_reference : DueOf (Volume pending_a) (Volume pending_a ∷ []) (Some dues.Available)
  pub available_where_prebound : DueOf (Volume prebound_a) (Volume prebound_a ∷ []) (Some dues.Available)
  pub not_available_twice_where_prebound : DueOf (Volume (in_phase volumes.Available prebound_a)) (Volume (in_phase volumes.Available prebound_a) ∷ []) None
  pub not_available_twice : DueOf (Volume a) (Volume a ∷ []) None
  pub bound_where_claim_names_it : DueOf (Volume taken_a) (Volume taken_a ∷ Claim here_c ∷ []) (Some dues.Bound)
  pub not_bound_before_claim_names_it : DueOf (Volume taken_a) (Volume taken_a ∷ Claim c ∷ []) None
  pub not_bound_twice : DueOf (Volume bound_a) (Volume bound_a ∷ Claim here_c ∷ []) None
  pub not_bound_unprotected : DueOf (Volume unguarded_a) (Volume unguarded_a ∷ Claim here_c ∷ []) (Some dues.Guard)
  pub release_of_absent_claim : DueOf (Volume bound_a) (Volume bound_a ∷ []) (Some dues.Release)
  pub release_of_other_uid : DueOf (Volume bound_a) (Volume bound_a ∷ Claim other_c ∷ []) (Some dues.Release)
  pub release_of_claim_elsewhere : DueOf (Volume reclaimed_a) (Volume reclaimed_a ∷ Claim elsewhere_c ∷ []) (Some dues.Release)
  pub not_released_twice : DueOf (Volume released_a) (Volume released_a ∷ []) None
  pub unbind_of_claim_elsewhere : DueOf (Volume bound_a) (Volume bound_a ∷ Claim elsewhere_c ∷ []) (Some dues.Unbind)
  pub no_unbind_of_ended : DueOf (Volume released_a) (Volume released_a ∷ Claim elsewhere_c ∷ []) None

-- volumes, for ops and their protection

abbrev pub leaving_ended_a : VolumeData
leaving_ended_a = let old = ended_a in record old { meta = deleting old.meta }

abbrev pub bare_a : VolumeData
bare_a = record a { meta = record a.meta { finalizers = [] } }

abbrev pub leaving_a : VolumeData
leaving_a = record a { meta = deleting a.meta }

abbrev pub leaving_bare_a : VolumeData
leaving_bare_a = record bare_a { meta = deleting bare_a.meta }

pub record ReclaimDueExamples : Type 0 where
  pub reclaim_of_released : DueOf (Volume ended_a) (Volume ended_a ∷ []) (Some dues.Reclaim)
  pub reclaim_of_failed : DueOf (Volume failed_a) (Volume failed_a ∷ []) (Some dues.Reclaim)
  pub no_reclaim_of_bound : DueOf (Volume (in_phase volumes.Bound ended_a)) (Volume (in_phase volumes.Bound ended_a) ∷ Claim here_c ∷ []) None
  pub no_reclaim_with_retain : DueOf (Volume released_a) (Volume released_a ∷ []) None
  pub no_reclaim_without_uid : DueOf (Volume (with_reference (Some name_c) ended_a)) [] (Some dues.Available)
  pub no_reclaim_of_deleting : DueOf (Volume leaving_ended_a) (Volume leaving_ended_a ∷ []) (Some dues.Unguard)
  pub guard_of_unprotected : DueOf (Volume bare_a) (Volume bare_a ∷ []) (Some dues.Guard)
  pub no_guard_of_deleting : DueOf (Volume leaving_bare_a) (Volume leaving_bare_a ∷ []) None
  pub unguard_of_deleting : DueOf (Volume leaving_a) (Volume leaving_a ∷ []) (Some dues.Unguard)
  pub no_unguard_of_bound : DueOf (Volume leaving_bound_a) (Volume leaving_bound_a ∷ Claim here_c ∷ []) None

-- claims

abbrev pub bare_c : ClaimData
bare_c = record c { meta = record c.meta { finalizers = [] } }

abbrev pub leaving_c : ClaimData
leaving_c = record c { meta = deleting c.meta }

abbrev pub big_c : ClaimData
big_c = record c { amount = amount 6 }

abbrev pub prebound_to_other : VolumeData
prebound_to_other = with_reference (Some (record name_c { name = codes "d" })) a

abbrev pub unshown_c : ClaimData
unshown_c = record completed_c { phase = claims.Pending }

pub record ClaimDueExamples : Type 0 where
  pub guard_of_unprotected : DueOf (Claim bare_c) (Claim bare_c ∷ []) (Some dues.Guard)
  pub unguard_of_deleting : DueOf (Claim leaving_c) (Claim leaving_c ∷ Pod waiting_p ∷ []) (Some dues.Unguard)
  pub no_unguard_of_used : DueOf (Claim leaving_c) (Claim leaving_c ∷ Pod p ∷ []) None
  pub bind_where_volume_matches : DueOf (Claim c) (Volume a ∷ Claim c ∷ []) (Some dues.Bind)
  pub no_bind_of_too_large : DueOf (Claim big_c) (Volume a ∷ Claim big_c ∷ []) None
  pub no_bind_of_pending_volume : DueOf (Claim c) (Volume pending_a ∷ Claim c ∷ []) None
  pub no_bind_under_delay : DueOf (Claim c) (Class late ∷ Volume a ∷ Claim c ∷ []) None
  pub bind_to_own_under_delay : DueOf (Claim c) (Class late ∷ Volume prebound_a ∷ Claim c ∷ []) (Some dues.Bind)
  pub no_bind_of_deleting : DueOf (Claim leaving_c) (Volume a ∷ Claim leaving_c ∷ Pod p ∷ []) None
  pub bind_to_named_volume : DueOf (Claim here_c) (Volume a ∷ Claim here_c ∷ []) (Some dues.Bind)
  pub bind_to_named_own_volume : DueOf (Claim here_c) (Volume taken_a ∷ Claim here_c ∷ []) (Some dues.Bind)
  pub no_bind_to_named_absent : DueOf (Claim here_c) (Claim here_c ∷ []) None
  pub no_bind_to_named_unprotected : DueOf (Claim here_c) (Volume bare_a ∷ Claim here_c ∷ []) None
  pub no_bind_to_named_deleting : DueOf (Claim here_c) (Volume leaving_a ∷ Claim here_c ∷ []) None
  pub no_bind_to_named_ended : DueOf (Claim here_c) (Volume released_a ∷ Claim here_c ∷ []) None
  pub no_bind_to_named_of_other : DueOf (Claim here_c) (Volume prebound_to_other ∷ Claim here_c ∷ []) None
  pub no_bind_to_named_too_small : DueOf (Claim (naming (codes "a") big_c)) (Volume a ∷ Claim (naming (codes "a") big_c) ∷ []) None
  pub bind_where_status_lacks : DueOf (Claim unshown_c) (Volume bound_a ∷ Claim unshown_c ∷ []) (Some dues.Bind)
  pub bind_where_reference_lacks : DueOf (Claim bound_c) (Volume a ∷ Claim bound_c ∷ []) (Some dues.Bind)
  pub no_bind_where_done : DueOf (Claim bound_c) (Volume bound_a ∷ Claim bound_c ∷ []) None
  pub lost_without_name : DueOf (Claim nameless_c) (Claim nameless_c ∷ []) (Some dues.Lost)
  pub lost_where_volume_is_absent : DueOf (Claim bound_c) (Claim bound_c ∷ []) (Some dues.Lost)
  pub lost_where_volume_is_of_other : DueOf (Claim bound_c) (Volume (with_reference (Some other_ref_c) bound_a) ∷ Claim bound_c ∷ []) (Some dues.Lost)
  pub none_where_reference_lacks_the_uid : DueOf (Claim bound_c) (Volume (with_reference (Some name_c) bound_a) ∷ Claim bound_c ∷ []) None
  pub not_lost_twice_without_name : DueOf (Claim (naming [] lost_c)) (Claim (naming [] lost_c) ∷ []) None
  pub not_lost_twice_where_volume_is_absent : DueOf (Claim lost_c) (Claim lost_c ∷ []) None
  pub not_lost_twice_where_volume_is_of_other : DueOf (Claim lost_c) (Volume (with_reference (Some other_ref_c) bound_a) ∷ Claim lost_c ∷ []) None
  pub bind_of_lost_where_volume_is_back : DueOf (Claim lost_c) (Volume bound_a ∷ Claim lost_c ∷ []) (Some dues.Bind)

-- the default class, for a claim without one

abbrev pub leaving_classless_c : ClaimData
leaving_classless_c = record classless_c { meta = deleting c.meta }

pub record ClassDueExamples : Type 0 where
  pub assign_where_no_volume_matches : DueOf (Claim classless_c) (Class gold ∷ Claim classless_c ∷ []) (Some dues.AssignClass)
  pub assign_where_only_volumes_of_classes_are_free : DueOf (Claim classless_c) (Class gold ∷ Volume a ∷ Claim classless_c ∷ []) (Some dues.AssignClass)
  pub bind_where_a_volume_without_class_matches : DueOf (Claim classless_c) (Class gold ∷ Volume (record a { class = [] }) ∷ Claim classless_c ∷ []) (Some dues.Bind)
  pub guard_comes_first : DueOf (Claim (record bare_c { class = None })) (Class gold ∷ Claim (record bare_c { class = None }) ∷ []) (Some dues.Guard)
  pub no_assign_without_classes : DueOf (Claim classless_c) (Claim classless_c ∷ []) None
  pub no_assign_where_none_is_marked : DueOf (Claim classless_c) (Class (unmarked gold) ∷ Claim classless_c ∷ []) None
  pub no_assign_with_a_class : DueOf (Claim c) (Class gold ∷ Claim c ∷ []) None
  pub no_assign_with_the_empty_class : DueOf (Claim (of_class [] c)) (Class gold ∷ Claim (of_class [] c) ∷ []) None
  pub no_assign_with_class_in_annotation : DueOf (Claim classless_by_annotation) (Class gold ∷ Claim classless_by_annotation ∷ []) None
  pub no_assign_where_a_volume_is_named : DueOf (Claim (naming (codes "a") classless_c)) (Class gold ∷ Claim (naming (codes "a") classless_c) ∷ []) None
  pub no_assign_of_deleting : DueOf (Claim leaving_classless_c) (Class gold ∷ Claim leaving_classless_c ∷ Pod p ∷ []) None
  pub no_assign_of_completed : DueOf (Claim (record bound_c { class = None })) (Class gold ∷ Volume bound_a ∷ Claim (record bound_c { class = None }) ∷ []) None

-- provisioning

abbrev pub ProvisionOf : Setup → ClaimData → List Object → Option Due → Type 0
ProvisionOf setup x rows action = IsDue setup (with_rows rows) (Claim x) action

-- the volume that a provisioner would make, under another class; and the data, where they were given before
abbrev pub pvc_volume : VolumeData
pvc_volume = record pending_a { meta = record pending_a.meta { name = data_name uid_c }; class = codes "other" }

abbrev pub with_data : List Object → World
with_data rows = let w = with_rows rows in
    record w { devices = record no_devices { stored = record { id = record { driver = codes "x/y"; id = codes "data-1" }; name = data_name uid_c; pool = 0; bytes = 3 * 2 ^ 30; there = true } ∷ [] } }

abbrev pub with_erased : List Object → World
with_erased rows = let w = with_rows rows in
    record w { devices = record no_devices { stored = record { id = record { driver = codes "x/y"; id = codes "data-1" }; name = data_name uid_c; pool = 0; bytes = 3 * 2 ^ 30; there = false } ∷ [] } }

pub record ProvisionDueExamples : Type 0 where
  pub provision_at_once : ProvisionOf pool_setup c (Class fast ∷ Claim c ∷ []) (Some dues.Provision)
  pub no_provision_where_pool_is_small : ProvisionOf small_setup c (Class fast ∷ Claim c ∷ []) None
  pub no_provision_without_class : ProvisionOf pool_setup c (Claim c ∷ []) None
  pub no_provision_by_idle_class : ProvisionOf pool_setup c (Class idle_class ∷ Claim c ∷ []) None
  pub no_provision_by_idle_class_with_a_pool_of_its_name : ProvisionOf idle_setup c (Class idle_class ∷ Claim c ∷ []) None
  pub no_provision_with_selector : ProvisionOf pool_setup selecting_c (Class fast ∷ Claim selecting_c ∷ []) None
  pub no_provision_where_named : ProvisionOf pool_setup here_c (Class fast ∷ Claim here_c ∷ []) None
  pub no_provision_of_deleting : ProvisionOf pool_setup leaving_c (Class fast ∷ Claim leaving_c ∷ Pod p ∷ []) None
  pub no_provision_where_volume_matches : ProvisionOf pool_setup c (Class fast ∷ Volume a ∷ Claim c ∷ []) (Some dues.Bind)
  pub provision_on_chosen_node : ProvisionOf pool_setup chosen_c (Class late ∷ Node n1 ∷ Claim chosen_c ∷ []) (Some dues.Provision)
  pub no_provision_before_node_is_chosen : ProvisionOf pool_setup c (Class late ∷ Node n1 ∷ Claim c ∷ []) None
  pub clear_where_node_is_absent : ProvisionOf pool_setup chosen_c (Class late ∷ Claim chosen_c ∷ []) (Some dues.ClearNode)
  pub clear_where_pool_is_small : ProvisionOf small_setup chosen_c (Class late ∷ Node n1 ∷ Claim chosen_c ∷ []) (Some dues.ClearNode)
  pub clear_where_pool_is_far : ProvisionOf far_setup chosen_c (Class late ∷ Node n1 ∷ Claim chosen_c ∷ []) (Some dues.ClearNode)
  pub provision_where_data_stand : IsDue small_setup (with_data (Class fast ∷ Claim c ∷ [])) (Claim c) (Some dues.Provision)
  pub no_provision_where_data_were_erased : IsDue small_setup (with_erased (Class fast ∷ Claim c ∷ [])) (Claim c) None
  pub no_clear_where_data_stand : IsDue small_setup (with_data (Class late ∷ Node n1 ∷ Claim chosen_c ∷ [])) (Claim chosen_c) (Some dues.Provision)
  pub no_provision_where_volume_stands : ProvisionOf pool_setup c (Class fast ∷ Volume pvc_volume ∷ Claim c ∷ []) None
  pub no_clear_without_delay : ProvisionOf small_setup chosen_c (Class fast ∷ Node n1 ∷ Claim chosen_c ∷ []) None

-- pods

abbrev pub mount_of_p : MountAt
mount_of_p = record { node = node_1; row = record { pod = uid_p; claims = uid_c ∷ [] } }

abbrev pub mounted : List Object → World
mounted rows = let w = with_rows rows in record w { devices = record no_devices { mounts = mount_of_p ∷ [] } }

abbrev pub leaving_bound_c : ClaimData
leaving_bound_c = record bound_c { meta = deleting bound_c.meta }

pub record PodDueExamples : Type 0 where
  pub finish_of_deleting : DueOf (Pod ending_p) (Pod ending_p ∷ []) (Some dues.Finish)
  pub mount_of_ready : DueOf (Pod p) (Volume bound_a ∷ Claim bound_c ∷ Pod p ∷ []) (Some dues.Mount)
  pub no_mount_twice : IsDue no_setup (mounted (Volume bound_a ∷ Claim bound_c ∷ Pod p ∷ [])) (Pod p) None
  pub no_mount_without_claim : DueOf (Pod p) (Volume bound_a ∷ Pod p ∷ []) None
  pub no_mount_of_deleting_claim : DueOf (Pod p) (Volume bound_a ∷ Claim leaving_bound_c ∷ Pod p ∷ []) None
  pub no_mount_of_unprotected_claim : DueOf (Pod p) (Volume bound_a ∷ Claim unguarded_c ∷ Pod p ∷ []) None
  pub no_mount_before_completion : DueOf (Pod p) (Volume bound_a ∷ Claim uncompleted_c ∷ Pod p ∷ []) None
  pub no_mount_before_phase_bound : DueOf (Pod p) (Volume bound_a ∷ Claim unshown_c ∷ Pod p ∷ []) None
  pub no_mount_without_volume : DueOf (Pod p) (Claim bound_c ∷ Pod p ∷ []) None
  pub no_mount_of_volume_of_other : DueOf (Pod p) (Volume (with_reference (Some other_ref_c) bound_a) ∷ Claim bound_c ∷ Pod p ∷ []) None
  pub assign_where_node_serves : DueOf (Pod waiting_p) (Node n1 ∷ Volume bound_a ∷ Claim bound_c ∷ Pod waiting_p ∷ []) (Some dues.Assign)
  pub no_assign_without_node : DueOf (Pod waiting_p) (Volume bound_a ∷ Claim bound_c ∷ Pod waiting_p ∷ []) None
  pub no_assign_without_claim : DueOf (Pod waiting_p) (Node n1 ∷ Volume bound_a ∷ Pod waiting_p ∷ []) None
  pub no_assign_of_deleting_claim : DueOf (Pod waiting_p) (Node n1 ∷ Volume bound_a ∷ Claim leaving_bound_c ∷ Pod waiting_p ∷ []) None
  pub no_assign_far_from_volume : DueOf (Pod waiting_p) (Node n1 ∷ Volume far_a ∷ Claim bound_c ∷ Pod waiting_p ∷ []) None
  pub no_assign_without_volume : DueOf (Pod waiting_p) (Node n1 ∷ Claim bound_c ∷ Pod waiting_p ∷ []) None
  pub no_assign_before_completion : DueOf (Pod waiting_p) (Node n1 ∷ Volume bound_a ∷ Claim here_c ∷ Pod waiting_p ∷ []) None
  pub none_of_node : DueOf (Node n1) (Node n1 ∷ []) None
  pub none_of_class : DueOf (Class fast) (Class fast ∷ []) None

-- what the scheduler prepares under a delayed class

abbrev pub searched : List Object
searched = Class late ∷ Node n1 ∷ Claim c ∷ Pod waiting_p ∷ []

-- a pod of two claims, and one whose second claim is larger than the pool
abbrev pub pod_of_two : PodData
pod_of_two = record waiting_p { claims = codes "c" ∷ codes "d" ∷ [] }

abbrev pub searched_two : List Object
searched_two = Class late ∷ Node n1 ∷ Claim c ∷ Claim d ∷ Pod pod_of_two ∷ []

abbrev pub large_d : ClaimData
large_d = record d { amount = amount 12 }

abbrev pub searched_large : List Object
searched_large = Class late ∷ Node n1 ∷ Claim c ∷ Claim large_d ∷ Pod pod_of_two ∷ []

-- the first claim is completed, with a volume that does not carry it, near the node or far
abbrev pub near_a : VolumeData
near_a = record a { terms = terms_for (Some (codes "zone", codes "z1")) }

abbrev pub far_free_a : VolumeData
far_free_a = record a { terms = terms_for (Some (codes "zone", codes "z2")) }

abbrev pub beside_completed : VolumeData → List Object
beside_completed v = Class late ∷ Node n1 ∷ Volume v ∷ Claim bound_c ∷ Claim d ∷ Pod pod_of_two ∷ []

-- the larger claim selects the one volume that the smaller one takes before it
abbrev pub selected_a : VolumeData
selected_a = record a { meta = record a.meta { labels = zone }; amount = amount 3 }

abbrev pub unselected_b : VolumeData
unselected_b = record a { meta = record a.meta { name = codes "b" } }

abbrev pub small_d : ClaimData
small_d = record d { amount = amount 2 }

abbrev pub smaller_first : List Object
smaller_first = Class late ∷ Node n1 ∷ Volume selected_a ∷ Volume unselected_b ∷ Claim selecting_c ∷ Claim small_d ∷ Pod pod_of_two ∷ []

abbrev pub PrepareOf : Setup → List Object → Option Due → Type 0
PrepareOf setup rows action = IsDue setup (with_rows rows) (Pod waiting_p) action

pub record PrepareDueExamples : Type 0 where
  pub prepare_by_provisioning : PrepareOf pool_setup searched (Some dues.Prepare)
  pub prepare_by_volume : PrepareOf no_setup (Class late ∷ Node n1 ∷ Volume a ∷ Claim c ∷ Pod waiting_p ∷ []) (Some dues.Prepare)
  pub prepare_by_provisioning_two : IsDue pool_setup (with_rows searched_two) (Pod pod_of_two) (Some dues.Prepare)
  pub no_prepare_where_the_second_is_too_large : IsDue pool_setup (with_rows searched_large) (Pod pod_of_two) None
  pub prepare_beside_a_completed_claim : IsDue pool_setup (with_rows (beside_completed near_a)) (Pod pod_of_two) (Some dues.Prepare)
  pub no_prepare_far_from_the_volume_of_a_completed_claim : IsDue pool_setup (with_rows (beside_completed far_free_a)) (Pod pod_of_two) None
  pub no_prepare_where_the_smaller_claim_takes_the_volume : IsDue no_setup (with_rows smaller_first) (Pod pod_of_two) None
  pub no_prepare_where_pool_is_small : PrepareOf small_setup searched None
  pub no_prepare_without_node : PrepareOf pool_setup (Class late ∷ Claim c ∷ Pod waiting_p ∷ []) None
  pub no_prepare_where_chosen : PrepareOf pool_setup (Class late ∷ Node n1 ∷ Claim chosen_c ∷ Pod waiting_p ∷ []) None
  pub no_prepare_without_delay : PrepareOf pool_setup (Class fast ∷ Node n1 ∷ Claim c ∷ Pod waiting_p ∷ []) None

-- settled worlds, and the first action that is due

abbrev pub done_rows : List Object
done_rows = Volume bound_a ∷ Claim bound_c ∷ []

abbrev pub two_rows : List Object
two_rows = Volume pending_a ∷ Claim bare_c ∷ []

pub record SettledExamples : Type 0 where
  pub empty_is_settled : IsSettled no_setup (with_rows [])
  pub bound_is_settled : IsSettled no_setup (with_rows done_rows)
  pub unbound_is_not : IsSettled no_setup (with_rows (Volume pending_a ∷ [])) → ⊥
  pub first_is_the_volume : IsFirstDue no_setup (with_rows two_rows) (Some (key_a, dues.Available))
  pub first_is_not_the_claim : IsFirstDue no_setup (with_rows two_rows) (Some (key_c, dues.Guard)) → ⊥
  pub other_action_is_not_first : IsFirstDue no_setup (with_rows two_rows) (Some (key_a, dues.Bound)) → ⊥
  pub none_is_not_first : IsFirstDue no_setup (with_rows two_rows) None → ⊥
