-- What agents and schedulers remember: cases that the entries tell, and cases beside them that they do not.
-- A choice of this project, as the actors are.
use Rattle.std.specs.Prelude.{ℕ, ◌≡◌, true, false, codes, List, [], ◌∷◌, Some, None}
use Rattle.plain_data.specs.Pairs.{Pair}
use Rattle.kube_objects.specs.declared.objects.Claim.{Claim as ClaimData}
use Rattle.kube_objects.specs.declared.objects.Object.TheVariants.{Claim}
use Rattle.kube_objects.specs.Bindings.{selected_node}
use Rattle.kube_parts.specs.Uids.{uid_of_serial}
use Rattle.call_types.specs.declared.request.Request.TheVariants as requests
use Rattle.call_types.specs.declared.request.SeatKind.TheVariants as seats
use Rattle.call_types.specs.declared.reply.Refusal.TheVariants as refusals
use Rattle.call_types.specs.declared.reply.Reply.TheVariants as replies
use Rattle.model_examples.specs.Samples.{Exchange, c, heard, seat_of, tells_claim, unheard}
use Rattle.pod_scheduler.specs.declared.tries.Tried.{Tried}
use Rattle.pod_scheduler.specs.Tries.{no_tries}
use Rattle.worker_core.specs.declared.role.Role.{Role}
use Rattle.worker_core.specs.Memories.{Memory, memory_of}

-- an agent of node n

abbrev pub agent : Role
agent = record { kind = seats.Agent; node = codes "n" }

abbrev pub agent_knows : List Exchange → Memory
agent_knows xs = memory_of agent (seat_of seats.Agent xs)

abbrev pub takes : List ℕ → ℕ → Exchange
takes node epoch = heard (requests.TakeNode node) (replies.Epoch epoch)

abbrev pub reads_mounts : ℕ → Exchange
reads_mounts epoch = heard (requests.Mounts (codes "n") epoch) (replies.Mounted [])

pub record AgentExamples : Type 0 where
  pub nothing_at_first : (agent_knows []).epoch ≡ None
  pub its_epoch : (agent_knows (takes (codes "n") 3 ∷ [])).epoch ≡ Some 3
  pub not_of_another_node : (agent_knows (takes (codes "m") 3 ∷ [])).epoch ≡ None
  pub not_where_the_answer_was_lost : (agent_knows (unheard (takes (codes "n") 3) ∷ [])).epoch ≡ None
  pub its_mounts : (agent_knows (reads_mounts 3 ∷ takes (codes "n") 3 ∷ [])).mounts ≡ Some []
  pub not_of_an_older_epoch : (agent_knows (reads_mounts 2 ∷ takes (codes "n") 3 ∷ [])).mounts ≡ None
  pub a_new_epoch_begins_without : (agent_knows (takes (codes "n") 4 ∷ reads_mounts 3 ∷ takes (codes "n") 3 ∷ [])).mounts ≡ None
  pub stale : (agent_knows (heard (requests.Mounts (codes "n") 3) (replies.Refused (refusals.StaleEpoch 4)) ∷ takes (codes "n") 3 ∷ [])).stale ≡ true
  pub not_stale_before : (agent_knows (takes (codes "n") 3 ∷ [])).stale ≡ false

-- a scheduler

abbrev pub scheduler : Role
scheduler = record { kind = seats.Scheduler; node = [] }

abbrev pub scheduler_knows : List Exchange → Memory
scheduler_knows xs = memory_of scheduler (seat_of seats.Scheduler xs)

-- the claim with these annotations, at a version
abbrev pub noted : ℕ → List Pair → ClaimData
noted version pairs = record c { meta = record c.meta { version = version; annotations = pairs } }

abbrev pub chosen_c : ClaimData
chosen_c = noted 3 ((selected_node, codes "n") ∷ [])

-- the write of the node was done
abbrev pub selects : Exchange
selects = heard (requests.Update (Claim chosen_c) (Some 2)) (replies.Done (Claim chosen_c))

abbrev pub selected_n : Tried
selected_n = record { claim = uid_of_serial 2; node = codes "n"; version = 3 }

pub record SchedulerExamples : Type 0 where
  pub selected_where_the_write_was_done : (scheduler_knows (selects ∷ [])).tries ≡ record { selected = selected_n ∷ []; refused = [] }
  pub refused_where_it_is_seen_without : (scheduler_knows (tells_claim (noted 4 []) ∷ selects ∷ [])).tries ≡ record { selected = []; refused = selected_n ∷ [] }
  pub refused_where_it_is_seen_with_another : (scheduler_knows (tells_claim (noted 4 ((selected_node, codes "m") ∷ [])) ∷ selects ∷ [])).tries.refused ≡ selected_n ∷ []
  pub not_while_it_stands : (scheduler_knows (tells_claim chosen_c ∷ selects ∷ [])).tries.refused ≡ []
  pub not_by_a_stale_list : (scheduler_knows (tells_claim (noted 2 []) ∷ selects ∷ [])).tries.refused ≡ []
  pub not_where_no_node_was_written : (scheduler_knows (tells_claim (noted 4 []) ∷ [])).tries ≡ no_tries
  pub not_where_the_write_was_lost : (scheduler_knows (tells_claim (noted 4 []) ∷ unheard selects ∷ [])).tries ≡ no_tries
  pub not_where_the_answer_was_lost : (scheduler_knows (unheard (tells_claim (noted 4 [])) ∷ selects ∷ [])).tries.refused ≡ []
  pub agent_remembers_none : (agent_knows (tells_claim (noted 4 []) ∷ selects ∷ [])).tries ≡ no_tries
