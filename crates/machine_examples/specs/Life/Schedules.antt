-- Which pods are due for a scheduler, and when a life of one is diligent and when it is played: cases that hold, and cases beside
-- them that must not. A choice of this project, as the actors are. The newest call stands first.
use Rattle.std.specs.Prelude.{List, [], ◌∷◌, Some, map, codes}
use Rattle.kube_objects.specs.declared.key.Key.{Key}
use Rattle.kube_parts.specs.declared.parts.Kind.TheVariants as kinds
use Rattle.kube_objects.specs.declared.objects.Claim.{Claim as ClaimData}
use Rattle.kube_objects.specs.declared.objects.Node.{Node as NodeData}
use Rattle.kube_objects.specs.declared.objects.Object.TheVariants.{Node, Claim}
use Rattle.kube_objects.specs.declared.objects.Pod.{Pod as PodData}
use Rattle.call_types.specs.declared.request.Request.{Request}
use Rattle.call_types.specs.declared.request.Request.TheVariants as requests
use Rattle.call_types.specs.declared.request.SeatKind.TheVariants as seats
use Rattle.model_examples.specs.Samples.{Exchange, entry_of, key_c, key_p, lists, seat_of, tells_claim, tells_class, tells_node, tells_pod}
use Rattle.machine_examples.specs.Delayed.Scenes.{c, chosen_on, late, n1, n2, pod}
use Rattle.machine_examples.specs.Schedule.Beginnings.{scheduled}
use Rattle.machine_examples.specs.Schedule.Refusals.{at_version, selects}
use Rattle.worker_core.specs.declared.role.Role.{Role}
use Rattle.worker_core.specs.Stands.{IsNew}
use Rattle.worker_core.specs.States.{ActorState}
use Rattle.attention_law.specs.Diligence.{Call, IsAskedFor, IsDiligent, IsKeyDue}
use Rattle.attention_law.specs.Played.{IsPlayed}
use Rattle.attention_law.specs.Showing.{IsDiligentInOrder}
use Rattle.machine_examples.specs.Life.Agents.{watch_of_pods}

abbrev pub scheduler : Role
scheduler = record { kind = seats.Scheduler; node = [] }

abbrev pub ScheduleDue : Key → List Exchange → Type 0
ScheduleDue key xs = IsKeyDue scheduler key (seat_of seats.Scheduler xs)

-- a class that waits for the first pod, one node, a claim and a pod were told
abbrev pub tells_all : ClaimData → PodData → List Exchange
tells_all x q = tells_pod q ∷ tells_claim x ∷ tells_node n1 ∷ tells_class late ∷ []

-- the node is selected for the claim
abbrev pub selects_for : ClaimData → NodeData → Request
selects_for x n = requests.Update (Claim (chosen_on n.meta.name x)) (Some x.meta.version)

abbrev pub selection : Request
selection = selects_for c n1

-- there are two nodes; the first was selected for the claim and then taken back
abbrev pub returned : ClaimData
returned = at_version 11 c

abbrev pub tells_refused : List Exchange
tells_refused = tells_pod pod ∷ tells_claim returned ∷ selects (codes "n1") 10 ∷ lists kinds.Node (Node n1 ∷ Node n2 ∷ []) 3 ∷ tells_class late ∷ []

abbrev pub AsksFor : List Exchange → Request → Type 0
AsksFor xs request = IsAskedFor scheduler key_p (seat_of seats.Scheduler xs) request

pub record ScheduleDueExamples : Type 0 where
  pub pod_whose_claim_needs_a_node : ScheduleDue key_p (tells_all c pod)
  pub still_after_a_watch : ScheduleDue key_p (watch_of_pods ∷ tells_all c pod)
  pub its_node_is_asked_for : AsksFor (tells_all c pod) selection
  pub node_after_the_refused_is_asked_for : AsksFor tells_refused (selects_for returned n2)
  pub refused_node_is_not : AsksFor tells_refused (selects_for returned n1) → ⊥
  pub not_its_claim : ScheduleDue key_c (tells_all c pod) → ⊥
  pub not_a_pod_whose_claim_waits : ScheduleDue key_p (tells_all (chosen_on (codes "n1") c) pod) → ⊥
  pub not_a_pod_with_a_node : ScheduleDue key_p (tells_all c scheduled) → ⊥
  pub not_a_pod_without_its_claim : ScheduleDue key_p (tells_pod pod ∷ []) → ⊥

-- lives

abbrev pub schedule_calls : List Exchange → List Call
schedule_calls xs = map (λ x. Some (entry_of seats.Scheduler x)) xs

-- these were told, and four watches of the pods followed
abbrev pub unscheduled : List Exchange → List Exchange
unscheduled told = watch_of_pods ∷ watch_of_pods ∷ watch_of_pods ∷ watch_of_pods ∷ told

-- the node was selected before the fourth watch
abbrev pub selected_in_time : List Exchange
selected_in_time = watch_of_pods ∷ selects (codes "n1") 10 ∷ watch_of_pods ∷ watch_of_pods ∷ watch_of_pods ∷ tells_all c pod

pub record ScheduleLifeExamples : Type 0 where
  pub its_node_is_selected : IsDiligent scheduler (schedule_calls selected_in_time)
  pub nothing_is_due_of_a_pod_with_a_node : IsDiligent scheduler (schedule_calls (unscheduled (tells_pod scheduled ∷ [])))
  pub not_where_a_pod_is_left : IsDiligent scheduler (schedule_calls (unscheduled (tells_all c pod))) → ⊥
  pub nor_in_order : IsDiligentInOrder scheduler (schedule_calls (unscheduled (tells_all c pod))) → ⊥

-- how a life is played

pub record SchedulePlayedExamples : Type 0 where
  pub a_new_life : (s : ActorState) → IsNew scheduler s → IsPlayed scheduler s []
  pub not_with_a_node_for_a_claim_that_was_not_told : (s : ActorState) → IsPlayed scheduler s (schedule_calls (selects (codes "n1") 10 ∷ [])) → ⊥
  pub not_where_a_pod_is_left : (s : ActorState) → IsPlayed scheduler s (schedule_calls (unscheduled (tells_all c pod))) → ⊥
