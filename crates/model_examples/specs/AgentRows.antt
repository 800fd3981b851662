-- Where a node agent may read the mounts of a node, unmount and finish a pod, and where it may not: for each row cases
-- that hold, and for each of its conditions one that misses it alone. A choice of this project, as the rows are.
-- The newest exchange stands first.
use Rattle.std.specs.Prelude.{ℕ, List, [], ◌∷◌, Some, codes}
use Rattle.kube_objects.specs.declared.key.Key.{Key}
use Rattle.kube_parts.specs.declared.uid.Uid.{Uid}
use Rattle.kube_objects.specs.declared.objects.Pod.{Pod as PodData}
use Rattle.kube_parts.specs.Uids.{uid_of_serial}
use Rattle.call_types.specs.declared.request.SeatKind.TheVariants as seats
use Rattle.call_types.specs.declared.request.Request.{Request}
use Rattle.call_types.specs.declared.request.Request.TheVariants as requests
use Rattle.call_types.specs.declared.reply.MountRow.{MountRow}
use Rattle.call_types.specs.declared.reply.Refusal.TheVariants as refusals
use Rattle.call_types.specs.declared.reply.Reply.TheVariants as replies
use Rattle.binder_model.specs.ObjectKeys.{pod_key}
use Rattle.model_examples.specs.Samples.{Allows, Refuses, Exchange, heard, unheard, tells_pod, takes, node_1, node_2, key_c, uid_c, p, ending_p, uid_p, key_p}

-- Mounts

pub record MountsExamples : Type 0 where
  pub reads_mounts : Allows seats.Agent (takes node_1 1 ∷ []) (requests.Mounts node_1 1)
  pub reads_mounts_by_last_epoch : Allows seats.Agent (takes node_1 3 ∷ takes node_1 1 ∷ []) (requests.Mounts node_1 3)
  pub older_epoch_is_refused : Refuses seats.Agent (takes node_1 3 ∷ takes node_1 1 ∷ []) (requests.Mounts node_1 1)
  pub node_never_taken_is_refused : Refuses seats.Agent [] (requests.Mounts node_1 1)
  pub other_node_is_refused : Refuses seats.Agent (takes node_2 1 ∷ []) (requests.Mounts node_1 1)
  pub answer_lost_is_refused : Refuses seats.Agent (unheard (takes node_1 1) ∷ []) (requests.Mounts node_1 1)

-- Unmount

abbrev pub unmount : ℕ → Request
unmount epoch = requests.Unmount node_1 epoch uid_p

abbrev pub other_pod : PodData
other_pod = record ending_p { meta = record ending_p.meta { uid = Some (uid_of_serial 8) } }

abbrev pub elsewhere_pod : PodData
elsewhere_pod = record ending_p { node = node_2 }

abbrev pub nowhere_pod : PodData
nowhere_pod = record ending_p { node = [] }

pub record UnmountExamples : Type 0 where
  pub unmounts : Allows seats.Agent (tells_pod ending_p ∷ takes node_1 1 ∷ []) (unmount 1)
  pub other_epoch_is_refused : Refuses seats.Agent (tells_pod ending_p ∷ takes node_1 3 ∷ takes node_1 1 ∷ []) (unmount 1)
  pub pod_never_told_is_refused : Refuses seats.Agent (takes node_1 1 ∷ []) (unmount 1)
  pub answer_lost_is_refused : Refuses seats.Agent (unheard (tells_pod ending_p) ∷ takes node_1 1 ∷ []) (unmount 1)
  pub other_pod_is_refused : Refuses seats.Agent (tells_pod other_pod ∷ takes node_1 1 ∷ []) (unmount 1)
  pub pod_on_other_node_is_refused : Refuses seats.Agent (tells_pod elsewhere_pod ∷ takes node_1 1 ∷ []) (unmount 1)
  pub pod_on_no_node_is_refused : Refuses seats.Agent (tells_pod nowhere_pod ∷ takes [] 1 ∷ []) (requests.Unmount [] 1 uid_p)
  pub staying_pod_is_refused : Refuses seats.Agent (tells_pod p ∷ takes node_1 1 ∷ []) (unmount 1)

-- FinishPod

abbrev pub finish : Key → ℕ → Request
finish key epoch = requests.FinishPod key uid_p node_1 epoch

abbrev pub row_of : Uid → MountRow
row_of uid = record { pod = uid; claims = uid_c ∷ [] }

-- answers with the mounts of the node
abbrev pub mounted : List ℕ → ℕ → List MountRow → Exchange
mounted node epoch rows = heard (requests.Mounts node epoch) (replies.Mounted rows)

abbrev pub unmounts_at : List ℕ → ℕ → Exchange
unmounts_at node epoch = heard (requests.Unmount node epoch uid_p) (replies.Mounted [])

abbrev pub unmounted : Exchange
unmounted = unmounts_at node_1 1

abbrev pub mounts_it : Exchange
mounts_it = heard (requests.Mount node_1 1 uid_p (uid_c ∷ [])) (replies.Mounted (row_of uid_p ∷ []))

abbrev pub mounts_other_at : List ℕ → ℕ → Exchange
mounts_other_at node epoch = heard (requests.Mount node epoch (uid_of_serial 8) (uid_c ∷ [])) (replies.Mounted (row_of (uid_of_serial 8) ∷ []))

abbrev pub mounts_other : Exchange
mounts_other = mounts_other_at node_1 1

-- the pod was told, after the node was taken
abbrev pub told_ending : List Exchange
told_ending = tells_pod ending_p ∷ takes node_1 1 ∷ []

pub record FinishPodExamples : Type 0 where
  pub finishes_after_unmount : Allows seats.Agent (unmounted ∷ told_ending) (finish key_p 1)
  pub finishes_after_mounts : Allows seats.Agent (mounted node_1 1 [] ∷ told_ending) (finish key_p 1)
  pub finishes_beside_other_pod : Allows seats.Agent (mounted node_1 1 (row_of (uid_of_serial 8) ∷ []) ∷ told_ending) (finish key_p 1)
  pub finishes_after_a_mount_before : Allows seats.Agent (unmounted ∷ mounts_it ∷ told_ending) (finish key_p 1)
  pub finishes_by_uid_whatever_the_name : Allows seats.Agent (unmounted ∷ told_ending) (finish (pod_key (codes "default") (codes "q")) 1)
  pub finishes_after_mount_of_other_pod : Allows seats.Agent (mounts_other ∷ told_ending) (finish key_p 1)
  pub finishes_before_mount_of_other_pod : Allows seats.Agent (unheard mounts_other ∷ unmounted ∷ told_ending) (finish key_p 1)
  pub older_epoch_is_refused : Refuses seats.Agent (mounted node_1 1 [] ∷ tells_pod ending_p ∷ takes node_1 3 ∷ takes node_1 1 ∷ []) (finish key_p 1)
  pub key_of_other_kind_is_refused : Refuses seats.Agent (unmounted ∷ told_ending) (finish key_c 1)
  pub pod_never_told_is_refused : Refuses seats.Agent (unmounted ∷ takes node_1 1 ∷ []) (finish key_p 1)
  pub other_pod_is_refused : Refuses seats.Agent (unmounted ∷ tells_pod other_pod ∷ takes node_1 1 ∷ []) (finish key_p 1)
  pub pod_on_other_node_is_refused : Refuses seats.Agent (unmounted ∷ tells_pod elsewhere_pod ∷ takes node_1 1 ∷ []) (finish key_p 1)
  pub pod_on_no_node_is_refused : Refuses seats.Agent (unmounts_at [] 1 ∷ tells_pod nowhere_pod ∷ takes [] 1 ∷ []) (requests.FinishPod key_p uid_p [] 1)
  pub staying_pod_is_refused : Refuses seats.Agent (unmounted ∷ tells_pod p ∷ takes node_1 1 ∷ []) (finish key_p 1)
  pub mounts_never_told_is_refused : Refuses seats.Agent told_ending (finish key_p 1)
  pub still_mounted_is_refused : Refuses seats.Agent (mounted node_1 1 (row_of (uid_of_serial 8) ∷ row_of uid_p ∷ []) ∷ told_ending) (finish key_p 1)
  pub mounts_of_other_node_is_refused : Refuses seats.Agent (mounted node_2 1 [] ∷ told_ending) (finish key_p 1)
  pub mounts_of_other_epoch_is_refused : Refuses seats.Agent (mounted node_1 2 [] ∷ told_ending) (finish key_p 1)
  pub unmounted_on_other_node_is_refused : Refuses seats.Agent (unmounts_at node_2 1 ∷ told_ending) (finish key_p 1)
  pub unmounted_in_other_epoch_is_refused : Refuses seats.Agent (unmounts_at node_1 2 ∷ told_ending) (finish key_p 1)
  pub mount_of_other_pod_on_other_node_is_refused : Refuses seats.Agent (mounts_other_at node_2 1 ∷ told_ending) (finish key_p 1)
  pub mount_of_other_pod_in_other_epoch_is_refused : Refuses seats.Agent (mounts_other_at node_1 2 ∷ told_ending) (finish key_p 1)
  pub mounts_before_taken_is_refused : Refuses seats.Agent (tells_pod ending_p ∷ takes node_1 1 ∷ mounted node_1 1 [] ∷ []) (finish key_p 1)
  pub answer_lost_is_refused : Refuses seats.Agent (unheard unmounted ∷ told_ending) (finish key_p 1)
  pub refusal_is_refused : Refuses seats.Agent (heard (unmount 1) (replies.Refused (refusals.StaleEpoch 2)) ∷ told_ending) (finish key_p 1)
  pub mount_asked_since_is_refused : Refuses seats.Agent (mounts_it ∷ unmounted ∷ told_ending) (finish key_p 1)
  pub mount_asked_since_without_answer_is_refused : Refuses seats.Agent (unheard mounts_it ∷ unmounted ∷ told_ending) (finish key_p 1)
