-- What begins on a pod, on small look-ups: cases that the definitions give, each beside others that they give otherwise.
-- A choice of this project, as the decision is.
use Rattle.std.specs.Prelude.{ℕ, ◌≡◌, true, false, List, [], ◌∷◌, Option, Some, None, codes}
use Rattle.kube_objects.specs.declared.objects.Claim.{Claim as ClaimData}
use Rattle.kube_objects.specs.declared.objects.Pod.{Pod as PodData}
use Rattle.kube_objects.specs.declared.objects.Object.{Object}
use Rattle.kube_objects.specs.declared.objects.Object.TheVariants.{Class, Node, Volume, Claim, Pod}
use Rattle.kube_parts.specs.Uids.{uid_of_serial}
use Rattle.call_types.specs.declared.request.Request.{Request}
use Rattle.call_types.specs.declared.request.Request.TheVariants.{Update}
use Rattle.pod_scheduler.specs.declared.schedule.ScheduleOp.{ScheduleOp}
use Rattle.pod_scheduler.specs.declared.schedule.ScheduleStep.TheVariants as steps
use Rattle.pod_scheduler.specs.declared.tries.Tried.{Tried}
use Rattle.pod_scheduler.specs.Decisions.{BeginsOn, are_known, last_refused}
use Rattle.machine_examples.specs.Delayed.Scenes.{b, c, carrying, chosen_on, completed, e, late, leaving, n1, n2, n3, pod, pod_of_two}
use Rattle.machine_examples.specs.Schedule.Moves.{pod_bind, reference, selection}

abbrev pub on : PodData → Option Object
on p = Some (Pod p)

abbrev pub writing : List Request → Option ScheduleOp
writing writes = Some (record { writes = writes; step = steps.Writes 0 })

-- the node was refused for the claim of this serial
abbrev pub tried : ℕ → List ℕ → Tried
tried serial node = record { claim = uid_of_serial serial; node = node; version = 10 }

abbrev pub selected : List ℕ → Request
selected node = Update (Claim (chosen_on node c)) (Some 7)

abbrev pub scheduled : PodData
scheduled = record pod { node = codes "n1" }

abbrev pub nameless : ClaimData → ClaimData
nameless x = record x { meta = record x.meta { uid = None } }

-- a completed claim; one that waits, three nodes of which each can serve it
abbrev pub bound_rows : List Object
bound_rows = Node n1 ∷ Volume (carrying c e) ∷ Claim (completed (codes "e") c) ∷ []

abbrev pub open_rows : List Object
open_rows = Class late ∷ Node n1 ∷ Node n2 ∷ Node n3 ∷ Claim c ∷ []

pub record BindExamples : Type 0 where
  pub pod_is_bound : BeginsOn bound_rows [] (on pod) (writing (pod_bind ∷ []))
  pub bound_pod_is_left : BeginsOn bound_rows [] (on scheduled) None
  pub bound_pod_is_not_bound_again : BeginsOn bound_rows [] (on scheduled) (writing (pod_bind ∷ [])) → ⊥
  pub pod_whose_claim_waits_is_left : BeginsOn (Class late ∷ Node n1 ∷ Claim (chosen_on (codes "n1") c) ∷ []) [] (on pod) None
  pub pod_whose_claim_waits_is_not_bound : BeginsOn (Class late ∷ Node n1 ∷ Claim (chosen_on (codes "n1") c) ∷ []) [] (on pod) (writing (pod_bind ∷ [])) → ⊥
  pub pod_whose_claim_leaves_is_left : BeginsOn (Class late ∷ Node n1 ∷ Claim (leaving c) ∷ []) [] (on pod) None
  pub claim_is_no_pod : BeginsOn open_rows [] (Some (Claim c)) None
  pub absent_pod_is_left : BeginsOn open_rows [] None None

pub record SelectExamples : Type 0 where
  pub first_node_is_selected : BeginsOn open_rows [] (on pod) (writing (selected (codes "n1") ∷ []))
  pub reference_comes_before_the_selection : BeginsOn (Class late ∷ Node n1 ∷ Volume e ∷ Claim b ∷ Claim c ∷ []) [] (on pod_of_two) (writing (reference ∷ selection ∷ []))
  pub claim_of_another_pod_is_not_written : BeginsOn (Class late ∷ Node n1 ∷ Claim b ∷ Claim c ∷ []) [] (on pod) (writing (selected (codes "n1") ∷ []))
  pub node_after_the_refused_is_selected : BeginsOn open_rows (tried 7 (codes "n1") ∷ []) (on pod) (writing (selected (codes "n2") ∷ []))
  pub refused_node_is_not_selected : BeginsOn open_rows (tried 7 (codes "n1") ∷ []) (on pod) (writing (selected (codes "n1") ∷ [])) → ⊥
  pub last_refused_counts : BeginsOn open_rows (tried 7 (codes "n2") ∷ tried 7 (codes "n1") ∷ []) (on pod) (writing (selected (codes "n3") ∷ []))
  pub refusal_of_another_claim_does_not_count : BeginsOn open_rows (tried 8 (codes "n1") ∷ []) (on pod) (writing (selected (codes "n1") ∷ []))
  pub refusal_of_each_claim_counts : last_refused (Claim b ∷ Claim c ∷ []) pod_of_two (tried 9 (codes "n3") ∷ tried 8 (codes "n2") ∷ tried 7 (codes "n1") ∷ []) ≡ Some (codes "n2")
  pub nothing_was_refused : last_refused (Claim b ∷ Claim c ∷ []) pod_of_two [] ≡ None
  pub claim_without_a_uid_is_left : BeginsOn (Class late ∷ Node n1 ∷ Claim (nameless c) ∷ []) [] (on pod) None
  pub claims_are_known : are_known open_rows pod ≡ true
  pub claim_without_a_uid_is_not : are_known (Claim (nameless c) ∷ []) pod ≡ false
