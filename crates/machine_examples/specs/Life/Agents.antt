-- Which pods are due for a node agent, and when a life of one is diligent and when it is played: cases that hold, and cases
-- beside them that must not. A choice of this project, as the actors are. The newest call stands first.
use Rattle.std.specs.Prelude.{List, [], ◌∷◌, Some, map}
use Rattle.kube_objects.specs.declared.key.Key.{Key}
use Rattle.kube_parts.specs.declared.parts.Kind.TheVariants as kinds
use Rattle.call_types.specs.declared.request.Request.TheVariants as requests
use Rattle.call_types.specs.declared.request.SeatKind.TheVariants as seats
use Rattle.call_types.specs.declared.reply.MountRow.{MountRow}
use Rattle.call_types.specs.declared.reply.Refusal.TheVariants as refusals
use Rattle.call_types.specs.declared.reply.Reply.TheVariants as replies
use Rattle.model_examples.specs.AgentRows.{elsewhere_pod, mounted, row_of}
use Rattle.model_examples.specs.Samples.{Exchange, ending_p, entry_of, finds_none, heard, key_c, key_p, node_1, p, seat_of, takes, tells_pod, uid_p, waiting_p}
use Rattle.worker_core.specs.declared.role.Role.{Role}
use Rattle.worker_core.specs.Stands.{IsNew}
use Rattle.worker_core.specs.States.{ActorState}
use Rattle.attention_law.specs.Diligence.{Call, IsDiligent, IsKeyDue}
use Rattle.attention_law.specs.Played.{IsPlayed}
use Rattle.attention_law.specs.Showing.{IsDiligentInOrder}

abbrev pub agent : Role
agent = record { kind = seats.Agent; node = node_1 }

abbrev pub PodDue : Key → List Exchange → Type 0
PodDue key xs = IsKeyDue agent key (seat_of seats.Agent xs)

-- the node was taken, and these mounts of it were told
abbrev pub started : List MountRow → List Exchange
started rows = mounted node_1 1 rows ∷ takes node_1 1 ∷ []

pub record AgentDueExamples : Type 0 where
  pub pod_to_be_mounted : PodDue key_p (tells_pod p ∷ started [])
  pub still_once_its_claim_was_not_found : PodDue key_p (finds_none key_c ∷ tells_pod p ∷ started [])
  pub leaving_pod : PodDue key_p (tells_pod ending_p ∷ started (row_of uid_p ∷ []))
  pub not_a_mounted_pod : PodDue key_p (tells_pod p ∷ started (row_of uid_p ∷ [])) → ⊥
  pub not_a_pod_without_a_node : PodDue key_p (tells_pod waiting_p ∷ started []) → ⊥
  pub not_a_leaving_pod_of_another_node : PodDue key_p (tells_pod elsewhere_pod ∷ started []) → ⊥
  pub not_another_key : PodDue key_c (tells_pod p ∷ started []) → ⊥
  pub not_before_the_mounts_were_told : PodDue key_p (tells_pod p ∷ takes node_1 1 ∷ []) → ⊥
  pub not_once_the_node_was_taken_anew : PodDue key_p (takes node_1 2 ∷ tells_pod p ∷ started []) → ⊥

-- lives

abbrev pub agent_calls : List Exchange → List Call
agent_calls xs = map (λ x. Some (entry_of seats.Agent x)) xs

-- a watch of the pods without events
abbrev pub watch_of_pods : Exchange
watch_of_pods = heard (requests.Watch kinds.Pod 9) (replies.Events (record { events = []; upto = 9 }))

-- a pod of the node was told beside these mounts, and four watches followed
abbrev pub pod_left : List MountRow → List Exchange
pod_left rows = watch_of_pods ∷ watch_of_pods ∷ watch_of_pods ∷ watch_of_pods ∷ tells_pod p ∷ started rows

-- its claim was read, and not found, once it was told and then before each watch from the third on
abbrev pub pod_called_for : List Exchange
pod_called_for = watch_of_pods ∷ finds_none key_c ∷ watch_of_pods ∷ finds_none key_c ∷ watch_of_pods ∷ watch_of_pods ∷ finds_none key_c ∷ tells_pod p ∷ started []

pub record AgentLifeExamples : Type 0 where
  pub its_claim_is_read : IsDiligent agent (agent_calls pod_called_for)
  pub nothing_is_due_of_a_mounted_pod : IsDiligent agent (agent_calls (pod_left (row_of uid_p ∷ [])))
  pub not_where_its_claim_is_not_read : IsDiligent agent (agent_calls (pod_left [])) → ⊥
  pub nor_in_order : IsDiligentInOrder agent (agent_calls (pod_left [])) → ⊥

-- how a life is played

abbrev pub is_stale : Exchange
is_stale = heard (requests.Mounts node_1 1) (replies.Refused (refusals.StaleEpoch 2))

pub record AgentPlayedExamples : Type 0 where
  pub a_new_life : (s : ActorState) → IsNew agent s → IsPlayed agent s []
  pub not_with_a_list_before_its_node : (s : ActorState) → IsPlayed agent s (agent_calls (tells_pod p ∷ [])) → ⊥
  pub not_with_a_call_after_a_stale_epoch : (s : ActorState) → IsPlayed agent s (agent_calls (mounted node_1 1 [] ∷ is_stale ∷ takes node_1 1 ∷ [])) → ⊥
  pub not_where_a_pod_is_left : (s : ActorState) → IsPlayed agent s (agent_calls (pod_left [])) → ⊥
