-- Where a node agent may mount a pod, and where it may not: cases that hold, and for each condition one that misses it
-- alone. A choice of this project, as the row is. The newest exchange stands first.
use Rattle.std.specs.Prelude.{ℕ, List, [], ◌∷◌, Some, codes}
use Rattle.kube_parts.specs.declared.parts.Kind.TheVariants as kinds
use Rattle.kube_parts.specs.declared.parts.ClaimPhase.TheVariants as claims
use Rattle.kube_parts.specs.declared.uid.Uid.{Uid}
use Rattle.kube_objects.specs.declared.objects.Claim.{Claim as ClaimData}
use Rattle.kube_objects.specs.declared.objects.Pod.{Pod as PodData}
use Rattle.kube_objects.specs.declared.objects.Volume.{Volume as VolumeData}
use Rattle.kube_objects.specs.declared.objects.Object.TheVariants.{Volume, Claim, Pod}
use Rattle.kube_parts.specs.Uids.{uid_of_serial}
use Rattle.call_types.specs.declared.request.SeatKind.TheVariants as seats
use Rattle.call_types.specs.declared.request.Request.{Request}
use Rattle.call_types.specs.declared.request.Request.TheVariants as requests
use Rattle.call_types.specs.declared.reply.Change.TheVariants as changes
use Rattle.call_types.specs.declared.reply.Reply.TheVariants as replies
use Rattle.binder_model.specs.ObjectKeys.{pod_key}
use Rattle.model_examples.specs.Samples.{
  Allows,
  Refuses,
  Exchange,
  heard,
  unheard,
  lists,
  tells_pod,
  finds,
  finds_none,
  watches,
  takes,
  node_1,
  node_2,
  a,
  with_uid,
  deleting,
  key_a,
  key_c,
  uid_c,
  bound_a,
  bound_c,
  p,
  waiting_p,
  ending_p,
  uid_p,
  bound_for_other,
  lost_c,
  uncompleted_c,
  unguarded_c,
  lists_in,
}

abbrev pub mount : ℕ → List Uid → Request
mount epoch uids = requests.Mount node_1 epoch uid_p uids

-- the node is taken, the pods are listed, the claim and its volume are read
abbrev pub reads : VolumeData → ClaimData → PodData → List Exchange
reads v x q = finds key_a (Volume v) ∷ finds key_c (Claim x) ∷ tells_pod q ∷ takes node_1 1 ∷ []

abbrev pub reads_claim : Exchange
reads_claim = finds key_c (Claim bound_c)

abbrev pub reads_volume : Exchange
reads_volume = finds key_a (Volume bound_a)

-- the order of what was told

abbrev pub watches_p : Exchange
watches_p = watches kinds.Pod changes.Modified (Pod p) 9

abbrev pub watches_end : Exchange
watches_end = watches kinds.Pod changes.Modified (Pod ending_p) 10

abbrev pub watches_gone : Exchange
watches_gone = watches kinds.Pod changes.Deleted (Pod p) 10

-- another pod under the name, later
abbrev pub next_p : PodData
next_p = record p { meta = record p.meta { uid = Some (uid_of_serial 8); version = 10 } }

abbrev pub watches_next : Exchange
watches_next = watches kinds.Pod changes.Added (Pod next_p) 10

abbrev pub asks_to_finish : Exchange
asks_to_finish = heard (requests.FinishPod (pod_key (codes "default") (codes "p")) uid_p node_1 1) (replies.Left (Pod ending_p))

abbrev pub other_pod : PodData
other_pod = record p { meta = record p.meta { uid = Some (uid_of_serial 8) } }

abbrev pub finished_other : List Exchange
finished_other = reads_volume ∷ reads_claim ∷ tells_pod p ∷ takes node_1 1 ∷ heard
    (requests.FinishPod (pod_key (codes "default") (codes "q")) (uid_of_serial 8) node_1 1) (replies.Left (Pod other_pod)) ∷ []

-- the claim was read again, and that answer was lost
abbrev pub read_again_unheard : List Exchange
read_again_unheard = unheard reads_claim ∷ reads bound_a bound_c p

pub record MountOrderExamples : Type 0 where
  pub mounts : Allows seats.Agent (reads bound_a bound_c p) (mount 1 (uid_c ∷ []))
  pub mounts_pod_told_by_watch : Allows seats.Agent (reads_volume ∷ reads_claim ∷ watches_p ∷ lists kinds.Pod [] 8 ∷ takes node_1 1 ∷ []) (mount 1 (uid_c ∷ []))
  pub mounts_after_finish_of_other_pod : Allows seats.Agent finished_other (mount 1 (uid_c ∷ []))
  pub mounts_where_a_second_read_was_not_answered : Allows seats.Agent read_again_unheard (mount 1 (uid_c ∷ []))
  pub older_epoch_is_refused : Refuses seats.Agent (reads_volume ∷ reads_claim ∷ tells_pod p ∷ takes node_1 3 ∷ takes node_1 1 ∷ []) (mount 1 (uid_c ∷ []))
  pub pods_never_listed_is_refused : Refuses seats.Agent (reads_volume ∷ reads_claim ∷ watches_p ∷ takes node_1 1 ∷ []) (mount 1 (uid_c ∷ []))
  pub pods_listed_in_a_namespace_is_refused : Refuses seats.Agent (reads_volume ∷ reads_claim ∷ watches_p ∷ lists_in (codes "default") [] 8 ∷ takes node_1 1 ∷ []) (mount 1 (uid_c ∷ []))
  pub pods_listed_without_answer_is_refused : Refuses seats.Agent (reads_volume ∷ reads_claim ∷ watches_p ∷ unheard (lists kinds.Pod [] 8) ∷ takes node_1 1 ∷ []) (mount 1 (uid_c ∷ []))
  pub pods_listed_before_taken_is_refused : Refuses seats.Agent (reads_volume ∷ reads_claim ∷ watches_p ∷ takes node_1 1 ∷ lists kinds.Pod [] 8 ∷ []) (mount 1 (uid_c ∷ []))
  pub pods_listed_after_told_is_refused : Refuses seats.Agent (reads_volume ∷ reads_claim ∷ lists kinds.Pod [] 8 ∷ watches_p ∷ takes node_1 1 ∷ []) (mount 1 (uid_c ∷ []))
  pub pod_told_before_taken_is_refused : Refuses seats.Agent (reads_volume ∷ reads_claim ∷ takes node_1 1 ∷ tells_pod p ∷ []) (mount 1 (uid_c ∷ []))
  pub claim_read_before_pod_told_is_refused : Refuses seats.Agent (tells_pod p ∷ reads_volume ∷ reads_claim ∷ takes node_1 1 ∷ []) (mount 1 (uid_c ∷ []))
  pub volume_read_before_claim_is_refused : Refuses seats.Agent (reads_claim ∷ reads_volume ∷ tells_pod p ∷ takes node_1 1 ∷ []) (mount 1 (uid_c ∷ []))
  pub pod_told_deleting_since_is_refused : Refuses seats.Agent (watches_end ∷ reads bound_a bound_c p) (mount 1 (uid_c ∷ []))
  pub pod_told_gone_since_is_refused : Refuses seats.Agent (watches_gone ∷ reads bound_a bound_c p) (mount 1 (uid_c ∷ []))
  pub other_pod_told_since_is_refused : Refuses seats.Agent (watches_next ∷ reads bound_a bound_c p) (mount 1 (uid_c ∷ []))
  pub finish_asked_is_refused : Refuses seats.Agent (reads_volume ∷ reads_claim ∷ tells_pod p ∷ takes node_1 1 ∷ asks_to_finish ∷ []) (mount 1 (uid_c ∷ []))
  pub finish_asked_without_answer_is_refused : Refuses seats.Agent (reads_volume ∷ reads_claim ∷ tells_pod p ∷ takes node_1 1 ∷ unheard asks_to_finish ∷ []) (mount 1 (uid_c ∷ []))
  pub claim_read_without_answer_is_refused : Refuses seats.Agent (reads_volume ∷ unheard reads_claim ∷ tells_pod p ∷ takes node_1 1 ∷ []) (mount 1 (uid_c ∷ []))
  pub volume_read_without_answer_is_refused : Refuses seats.Agent (unheard reads_volume ∷ reads_claim ∷ tells_pod p ∷ takes node_1 1 ∷ []) (mount 1 (uid_c ∷ []))
  pub claim_gone_in_a_later_read_is_refused : Refuses seats.Agent (finds_none key_c ∷ reads bound_a bound_c p) (mount 1 (uid_c ∷ []))
  pub volume_gone_in_a_later_read_is_refused : Refuses seats.Agent (finds_none key_a ∷ reads bound_a bound_c p) (mount 1 (uid_c ∷ []))
  pub claim_read_again_since_is_refused : Refuses seats.Agent (reads_claim ∷ reads bound_a bound_c p) (mount 1 (uid_c ∷ []))

-- what was read

abbrev pub later_p : PodData
later_p = record p { meta = record p.meta { version = 10 } }

abbrev pub elsewhere_pod : PodData
elsewhere_pod = record p { node = node_2 }

abbrev pub deleting_c : ClaimData
deleting_c = record bound_c { meta = deleting bound_c.meta }

abbrev pub pending_c : ClaimData
pending_c = record bound_c { phase = claims.Pending }

abbrev pub next_c : ClaimData
next_c = with_uid (Some (uid_of_serial 9)) bound_c

abbrev pub pod_of_two : PodData
pod_of_two = record p { claims = codes "c" ∷ codes "d" ∷ [] }

-- the pod itself, told before the pods were listed, at a later version than another pod that the list tells
abbrev pub stale_list : List Exchange
stale_list = reads_volume ∷ reads_claim ∷ tells_pod other_pod ∷ watches kinds.Pod changes.Added (Pod later_p) 10 ∷ takes node_1 1 ∷ []

pub record MountExamples : Type 0 where
  pub pod_of_other_uid_in_the_list_is_refused : Refuses seats.Agent stale_list (mount 1 (uid_c ∷ []))
  pub other_pod_is_refused : Refuses seats.Agent (reads bound_a bound_c other_pod) (mount 1 (uid_c ∷ []))
  pub pod_on_other_node_is_refused : Refuses seats.Agent (reads bound_a bound_c elsewhere_pod) (mount 1 (uid_c ∷ []))
  pub waiting_pod_on_node_without_name_is_refused : Refuses seats.Agent (reads_volume ∷ reads_claim ∷ tells_pod waiting_p ∷ takes [] 1 ∷ []) (requests.Mount [] 1 uid_p (uid_c ∷ []))
  pub deleting_pod_is_refused : Refuses seats.Agent (reads bound_a bound_c ending_p) (mount 1 (uid_c ∷ []))
  pub claim_of_other_uid_is_refused : Refuses seats.Agent (reads bound_for_other next_c p) (mount 1 (uid_c ∷ []))
  pub deleting_claim_is_refused : Refuses seats.Agent (reads bound_a deleting_c p) (mount 1 (uid_c ∷ []))
  pub unprotected_claim_is_refused : Refuses seats.Agent (reads bound_a unguarded_c p) (mount 1 (uid_c ∷ []))
  pub claim_before_completion_is_refused : Refuses seats.Agent (reads bound_a uncompleted_c p) (mount 1 (uid_c ∷ []))
  pub claim_in_phase_pending_is_refused : Refuses seats.Agent (reads bound_a pending_c p) (mount 1 (uid_c ∷ []))
  pub claim_in_phase_lost_is_refused : Refuses seats.Agent (reads bound_a lost_c p) (mount 1 (uid_c ∷ []))
  pub volume_of_other_uid_is_refused : Refuses seats.Agent (reads bound_for_other bound_c p) (mount 1 (uid_c ∷ []))
  pub volume_without_reference_is_refused : Refuses seats.Agent (reads a bound_c p) (mount 1 (uid_c ∷ []))
  pub second_claim_unread_is_refused : Refuses seats.Agent (reads bound_a bound_c pod_of_two) (mount 1 (uid_c ∷ uid_of_serial 3 ∷ []))
  pub fewer_claims_is_refused : Refuses seats.Agent (reads bound_a bound_c p) (mount 1 [])
  pub more_claims_is_refused : Refuses seats.Agent (reads bound_a bound_c p) (mount 1 (uid_c ∷ uid_c ∷ []))
