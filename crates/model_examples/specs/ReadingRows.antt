-- Which reads a controller may make and which it may not: cases that hold, and for each condition one that misses it
-- alone. Source of the lists and watches: API concepts, "Efficient detection of changes"; else a choice of this
-- project. The newest exchange stands first.
use Rattle.std.specs.Prelude.{ℕ, List, [], ◌∷◌, Some, None, codes}
use Rattle.kube_parts.specs.declared.parts.Kind.{Kind}
use Rattle.kube_parts.specs.declared.parts.Kind.TheVariants as kinds
use Rattle.kube_objects.specs.declared.objects.Claim.{Claim as ClaimData}
use Rattle.kube_objects.specs.declared.objects.Pod.{Pod as PodData}
use Rattle.kube_objects.specs.declared.objects.Volume.{Volume as VolumeData}
use Rattle.kube_objects.specs.declared.objects.Object.TheVariants.{Claim}
use Rattle.call_types.specs.declared.request.SeatKind.TheVariants as seats
use Rattle.call_types.specs.declared.request.Request.{Request}
use Rattle.call_types.specs.declared.request.Request.TheVariants as requests
use Rattle.call_types.specs.declared.reply.Refusal.TheVariants as refusals
use Rattle.call_types.specs.declared.reply.Reply.TheVariants as replies
use Rattle.binder_model.specs.ObjectKeys.{claim_key, pod_key}
use Rattle.model_examples.specs.Samples.{
  Allows,
  Refuses,
  Exchange,
  heard,
  unheard,
  lists,
  lists_in,
  tells_volume,
  tells_claim,
  tells_pod,
  tells_both,
  finds,
  takes,
  node_1,
  node_2,
  a,
  c,
  other_c,
  naming,
  volume_at,
  with_reference,
  deleting,
  key_a,
  key_c,
  taken_a,
  released_a,
  completed_c,
  bound_c,
  p,
  waiting_p,
  ended_a,
  deleting_a,
  key_b,
  key_d,
  list_volumes,
  never_bound_a,
  prebound_a,
  still_bound_a,
}

-- the kinds that each controller follows

pub record FollowsExamples : Type 0 where
  pub binder_lists_classes : Allows seats.Binder [] (requests.List kinds.StorageClass None)
  pub binder_never_lists_nodes : Refuses seats.Binder [] (requests.List kinds.Node None)
  pub binder_lists_volumes : Allows seats.Binder [] (requests.List kinds.PersistentVolume None)
  pub binder_lists_claims : Allows seats.Binder [] (requests.List kinds.PersistentVolumeClaim None)
  pub binder_never_lists_pods : Refuses seats.Binder [] (requests.List kinds.Pod None)
  pub ops_lists_classes : Allows seats.Ops [] (requests.List kinds.StorageClass None)
  pub ops_lists_nodes : Allows seats.Ops [] (requests.List kinds.Node None)
  pub ops_lists_volumes : Allows seats.Ops [] (requests.List kinds.PersistentVolume None)
  pub ops_lists_claims : Allows seats.Ops [] (requests.List kinds.PersistentVolumeClaim None)
  pub ops_never_lists_pods : Refuses seats.Ops [] (requests.List kinds.Pod None)
  pub scheduler_lists_classes : Allows seats.Scheduler [] (requests.List kinds.StorageClass None)
  pub scheduler_lists_nodes : Allows seats.Scheduler [] (requests.List kinds.Node None)
  pub scheduler_lists_volumes : Allows seats.Scheduler [] (requests.List kinds.PersistentVolume None)
  pub scheduler_lists_claims : Allows seats.Scheduler [] (requests.List kinds.PersistentVolumeClaim None)
  pub scheduler_lists_pods : Allows seats.Scheduler [] (requests.List kinds.Pod None)
  pub claim_protection_never_lists_classes : Refuses seats.ClaimProtect [] (requests.List kinds.StorageClass None)
  pub claim_protection_never_lists_nodes : Refuses seats.ClaimProtect [] (requests.List kinds.Node None)
  pub claim_protection_never_lists_volumes : Refuses seats.ClaimProtect [] (requests.List kinds.PersistentVolume None)
  pub claim_protection_lists_claims : Allows seats.ClaimProtect [] (requests.List kinds.PersistentVolumeClaim None)
  pub claim_protection_lists_pods : Allows seats.ClaimProtect [] (requests.List kinds.Pod None)
  pub volume_protection_never_lists_classes : Refuses seats.VolumeProtect [] (requests.List kinds.StorageClass None)
  pub volume_protection_never_lists_nodes : Refuses seats.VolumeProtect [] (requests.List kinds.Node None)
  pub volume_protection_lists_volumes : Allows seats.VolumeProtect [] (requests.List kinds.PersistentVolume None)
  pub volume_protection_never_lists_claims : Refuses seats.VolumeProtect [] (requests.List kinds.PersistentVolumeClaim None)
  pub volume_protection_never_lists_pods : Refuses seats.VolumeProtect [] (requests.List kinds.Pod None)
  pub agent_never_lists_classes : Refuses seats.Agent [] (requests.List kinds.StorageClass None)
  pub agent_never_lists_nodes : Refuses seats.Agent [] (requests.List kinds.Node None)
  pub agent_never_lists_volumes : Refuses seats.Agent [] (requests.List kinds.PersistentVolume None)
  pub agent_never_lists_claims : Refuses seats.Agent [] (requests.List kinds.PersistentVolumeClaim None)
  pub agent_lists_pods : Allows seats.Agent [] (requests.List kinds.Pod None)

-- lists: one of a kind, until the answer to a watch is that its version is gone

abbrev pub listed : ℕ → Exchange
listed version = lists kinds.PersistentVolume [] version

-- watches of the volumes from a version: told up to another, or that it is gone
abbrev pub watched : ℕ → ℕ → Exchange
watched from upto = heard (requests.Watch kinds.PersistentVolume from) (replies.Events (record { events = []; upto = upto }))

abbrev pub gone_from : Kind → ℕ → Exchange
gone_from kind from = heard (requests.Watch kind from) (replies.Refused (refusals.Gone 100))

abbrev pub leaving_c : ClaimData
leaving_c = record c { meta = deleting c.meta }

abbrev pub list_pods_of : List ℕ → Request
list_pods_of namespace = requests.List kinds.Pod (Some namespace)

pub record ListExamples : Type 0 where
  pub lists_again_after_gone : Allows seats.Binder (gone_from kinds.PersistentVolume 3 ∷ listed 3 ∷ []) list_volumes
  pub lists_again_after_lost_answer : Allows seats.Binder (unheard (listed 3) ∷ []) list_volumes
  pub lists_another_kind : Allows seats.Binder (lists kinds.StorageClass [] 3 ∷ []) list_volumes
  pub lists_twice_is_refused : Refuses seats.Binder (listed 3 ∷ []) list_volumes
  pub lists_beside_watch_is_refused : Refuses seats.Binder (watched 3 5 ∷ listed 3 ∷ []) list_volumes
  pub lists_after_gone_of_other_kind_is_refused : Refuses seats.Binder (gone_from kinds.StorageClass 3 ∷ listed 3 ∷ []) list_volumes
  pub lists_after_gone_without_answer_is_refused : Refuses seats.Binder (unheard (gone_from kinds.PersistentVolume 3) ∷ listed 3 ∷ []) list_volumes
  pub lists_pods_of_namespace : Allows seats.ClaimProtect (tells_claim leaving_c ∷ []) (list_pods_of (codes "default"))
  pub lists_pods_of_namespace_again : Allows seats.ClaimProtect (lists_in (codes "default") [] 9 ∷ tells_claim leaving_c ∷ []) (list_pods_of (codes "default"))
  pub lists_all_pods_after_those_of_namespace : Allows seats.ClaimProtect (lists_in (codes "default") [] 9 ∷ tells_claim leaving_c ∷ []) (requests.List kinds.Pod None)
  pub namespace_of_no_claim_is_refused : Refuses seats.ClaimProtect [] (list_pods_of (codes "default"))
  pub namespace_of_staying_claim_is_refused : Refuses seats.ClaimProtect (tells_claim c ∷ []) (list_pods_of (codes "default"))
  pub other_namespace_is_refused : Refuses seats.ClaimProtect (tells_claim leaving_c ∷ []) (list_pods_of (codes "x"))
  pub claims_of_namespace_is_refused : Refuses seats.ClaimProtect (tells_claim leaving_c ∷ []) (requests.List kinds.PersistentVolumeClaim (Some (codes "default")))
  pub pods_of_namespace_by_scheduler_is_refused : Refuses seats.Scheduler (tells_claim leaving_c ∷ []) (list_pods_of (codes "default"))

-- watches: from the version of the list, or from the one that was reached last

-- a watch of the classes
abbrev pub watched_classes : ℕ → ℕ → Exchange
watched_classes from upto = heard (requests.Watch kinds.StorageClass from) (replies.Events (record { events = []; upto = upto }))

abbrev pub watch_from : ℕ → Request
watch_from from = requests.Watch kinds.PersistentVolume from

pub record WatchExamples : Type 0 where
  pub watches_from_list : Allows seats.Binder (listed 3 ∷ []) (watch_from 3)
  pub watches_from_last_reached : Allows seats.Binder (watched 5 7 ∷ watched 3 5 ∷ listed 3 ∷ []) (watch_from 7)
  pub watches_from_list_again : Allows seats.Binder (watched 5 7 ∷ watched 3 5 ∷ listed 3 ∷ []) (watch_from 3)
  pub watches_unlisted_is_refused : Refuses seats.Binder [] (watch_from 0)
  pub watches_after_list_of_other_kind_is_refused : Refuses seats.Binder (lists kinds.StorageClass [] 3 ∷ []) (watch_from 3)
  pub other_version_is_refused : Refuses seats.Binder (listed 3 ∷ []) (watch_from 4)
  pub version_reached_before_is_refused : Refuses seats.Binder (watched 5 7 ∷ watched 3 5 ∷ listed 3 ∷ []) (watch_from 5)
  pub version_of_older_list_is_refused : Refuses seats.Binder (listed 9 ∷ gone_from kinds.PersistentVolume 3 ∷ listed 3 ∷ []) (watch_from 3)
  pub version_reached_by_watch_of_other_kind_is_refused : Refuses seats.Binder (watched_classes 3 7 ∷ lists kinds.StorageClass [] 3 ∷ listed 3 ∷ []) (watch_from 7)
  pub watches_from_list_beside_watch_of_other_kind : Allows seats.Binder (watched_classes 3 7 ∷ watched 3 5 ∷ lists kinds.StorageClass [] 3 ∷ listed 3 ∷ []) (watch_from 5)
  pub version_in_lost_answer_is_refused : Refuses seats.Binder (unheard (watched 3 5) ∷ listed 3 ∷ []) (watch_from 5)
  pub version_after_gone_is_refused : Refuses seats.Binder (gone_from kinds.PersistentVolume 3 ∷ listed 3 ∷ []) (watch_from 3)
  pub kind_not_followed_is_refused : Refuses seats.Binder (lists kinds.Pod [] 3 ∷ []) (requests.Watch kinds.Pod 3)

-- the binder's reads

abbrev pub released_later : VolumeData
released_later = with_reference None (volume_at 9 a)

pub record BinderGetExamples : Type 0 where
  pub reads_claim_that_is_unknown : Allows seats.Binder (tells_volume taken_a ∷ []) (requests.Get key_c)
  pub reads_claim_known_with_other_uid : Allows seats.Binder (tells_both other_c taken_a) (requests.Get key_c)
  pub claim_known_with_the_uid_is_refused : Refuses seats.Binder (tells_both c taken_a) (requests.Get key_c)
  pub claim_without_uid_in_reference_is_refused : Refuses seats.Binder (tells_volume prebound_a ∷ []) (requests.Get key_c)
  pub claim_of_no_volume_is_refused : Refuses seats.Binder (tells_volume a ∷ []) (requests.Get key_c)
  pub other_claim_is_refused : Refuses seats.Binder (tells_volume taken_a ∷ []) (requests.Get key_d)
  pub older_telling_of_the_volume_is_refused : Refuses seats.Binder (tells_volume released_later ∷ tells_volume taken_a ∷ []) (requests.Get key_c)
  pub reads_volume_of_completed_claim : Allows seats.Binder (tells_claim completed_c ∷ []) (requests.Get key_a)
  pub volume_before_completion_is_refused : Refuses seats.Binder (tells_claim (naming (codes "a") c) ∷ []) (requests.Get key_a)
  pub other_volume_is_refused : Refuses seats.Binder (tells_claim completed_c ∷ []) (requests.Get key_b)
  pub older_telling_of_the_claim_is_refused : Refuses seats.Binder (lists kinds.PersistentVolumeClaim [] 9 ∷ tells_claim completed_c ∷ []) (requests.Get key_a)

-- the reads of ops

pub record OpsGetExamples : Type 0 where
  pub reads_ended_volume : Allows seats.Ops (tells_volume ended_a ∷ []) (requests.Get key_a)
  pub bound_volume_is_refused : Refuses seats.Ops (tells_volume still_bound_a ∷ []) (requests.Get key_a)
  pub policy_retain_is_refused : Refuses seats.Ops (tells_volume released_a ∷ []) (requests.Get key_a)
  pub volume_without_uid_is_refused : Refuses seats.Ops (tells_volume never_bound_a ∷ []) (requests.Get key_a)
  pub deleting_volume_is_refused : Refuses seats.Ops (tells_volume deleting_a ∷ []) (requests.Get key_a)
  pub volume_never_told_is_refused : Refuses seats.Ops [] (requests.Get key_a)
  pub volume_told_gone_is_refused : Refuses seats.Ops (lists kinds.PersistentVolume [] 9 ∷ tells_volume ended_a ∷ []) (requests.Get key_a)
  pub other_volume_is_refused : Refuses seats.Ops (tells_volume ended_a ∷ []) (requests.Get key_b)

-- the agent's reads

abbrev pub elsewhere_p : PodData
elsewhere_p = record p { node = node_2 }

pub record AgentGetExamples : Type 0 where
  pub reads_claim_of_pod : Allows seats.Agent (tells_pod p ∷ takes node_1 1 ∷ []) (requests.Get key_c)
  pub reads_volume_of_claim : Allows seats.Agent (finds key_c (Claim bound_c) ∷ []) (requests.Get key_a)
  pub pod_never_told_is_refused : Refuses seats.Agent (takes node_1 1 ∷ []) (requests.Get key_c)
  pub node_never_taken_is_refused : Refuses seats.Agent (tells_pod p ∷ []) (requests.Get key_c)
  pub pod_on_other_node_is_refused : Refuses seats.Agent (tells_pod elsewhere_p ∷ takes node_1 1 ∷ []) (requests.Get key_c)
  pub claim_of_pod_on_no_node_is_refused : Refuses seats.Agent (tells_pod waiting_p ∷ takes [] 1 ∷ []) (requests.Get key_c)
  pub claim_of_other_name_is_refused : Refuses seats.Agent (tells_pod p ∷ takes node_1 1 ∷ []) (requests.Get key_d)
  pub claim_of_other_namespace_is_refused : Refuses seats.Agent (tells_pod p ∷ takes node_1 1 ∷ []) (requests.Get (claim_key (codes "x") (codes "c")))
  pub other_kind_is_refused : Refuses seats.Agent (tells_pod p ∷ takes node_1 1 ∷ []) (requests.Get (pod_key (codes "default") (codes "c")))
  pub other_volume_is_refused : Refuses seats.Agent (finds key_c (Claim bound_c) ∷ []) (requests.Get key_b)
  pub volume_of_listed_claim_is_refused : Refuses seats.Agent (tells_claim bound_c ∷ []) (requests.Get key_a)
  pub read_without_answer_is_refused : Refuses seats.Agent (unheard (finds key_c (Claim bound_c)) ∷ []) (requests.Get key_a)

-- the others read nothing by itself

pub record OtherGetExamples : Type 0 where
  pub scheduler_is_refused : Refuses seats.Scheduler (tells_claim completed_c ∷ tells_volume taken_a ∷ []) (requests.Get key_a)
  pub claim_protection_is_refused : Refuses seats.ClaimProtect (tells_claim leaving_c ∷ []) (requests.Get key_c)
  pub volume_protection_is_refused : Refuses seats.VolumeProtect (tells_volume a ∷ []) (requests.Get key_a)
