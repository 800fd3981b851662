-- Examples of the definitions: cases that hold, and cases beside them that do not. A choice of this project.
use Rattle.std.specs.Prelude.{ℕ, ◌≡◌, ◌≢◌, true, false, List, [], ◌∷◌, Some, None, codes}
use Rattle.kube_objects.specs.declared.objects.Meta.{Meta}
use Rattle.kube_objects.specs.declared.objects.Object.{Object}
use Rattle.kube_objects.specs.declared.objects.Object.TheVariants.{Node, Pod}
use Rattle.kube_parts.specs.Uids.{uid_of_serial}
use Rattle.kube_parts.specs.declared.parts.Kind.TheVariants as kinds
use Rattle.call_types.specs.declared.entry.Entry.{Entry}
use Rattle.call_types.specs.declared.request.Request.TheVariants as requests
use Rattle.call_types.specs.declared.request.SeatKind.TheVariants as seats
use Rattle.script_lines.specs.declared.actors.Actor.{Actor}
use Rattle.script_lines.specs.declared.actors.Actor.TheVariants.{Worker, Agent}
use Rattle.script_lines.specs.declared.actors.WorkerKind.{WorkerKind}
use Rattle.script_lines.specs.declared.actors.WorkerKind.TheVariants as workers
use Rattle.script_lines.specs.declared.actors.WorkerNumber.{WorkerNumber}
use Rattle.script_lines.specs.declared.actors.WorkerNumber.TheVariants.{One, Two, Three, Four}
use Rattle.script_text.specs.declared.script.Line.{Line}
use Rattle.script_text.specs.declared.script.Line.TheVariants as lines
use Rattle.script_text.specs.declared.script.Script.{Script}
use Rattle.actor_turns.specs.declared.loss.Fate.TheVariants.{Told, LostBefore, LostAfter}
use Rattle.actor_turns.specs.declared.loss.Loss.{Loss}
use Rattle.script_runs.specs.Budget.{at_most, faults_ahead, first_budget, most_budget, raise_for, raised, size_of_all}
use Rattle.actor_turns.specs.Fates.{fate_of}
use Rattle.script_runs.specs.Limits.{AreWithinLimits, IsReadable}
use Rattle.actor_turns.specs.Parts.{lives_of}
use Rattle.script_runs.specs.Parts.{drain_seats, seat_kind_of, part_of}

-- a worker of this kind and number
abbrev pub worker : WorkerKind → WorkerNumber → Actor
worker kind number = Worker (record { kind = kind; number = number })

-- the first binder
abbrev pub binder_1 : Actor
binder_1 = worker workers.Binder One

-- the second binder
abbrev pub binder_2 : Actor
binder_2 = worker workers.Binder Two

-- the third binder
abbrev pub binder_3 : Actor
binder_3 = worker workers.Binder Three

-- the first of ops
abbrev pub ops_1 : Actor
ops_1 = worker workers.Ops One

-- the first scheduler
abbrev pub scheduler_1 : Actor
scheduler_1 = worker workers.Scheduler One

-- the first claim protection controller
abbrev pub claims_1 : Actor
claims_1 = worker workers.Claims One

-- the fourth volume protection controller
abbrev pub volumes_4 : Actor
volumes_4 = worker workers.Volumes Four

-- a script with these nodes and lines
abbrev pub script_of : List (List ℕ) → List Line → Script
script_of nodes ls = record { setup = record { pools = []; faults = []; imports = [] }; lines = ls; node_names = nodes; sizes = [] }

-- ---- what becomes of calls

-- two calls that are lost, one before its effect and one after
abbrev pub two_losses : List Loss
two_losses = record { call = 2; after = true } ∷ record { call = 4; after = false } ∷ []

-- which fates calls have
pub record FateExamples : Type 0 where
  pub told_before_them : fate_of two_losses 1 ≡ Told
  pub lost_after : fate_of two_losses 2 ≡ LostAfter
  pub told_between_them : fate_of two_losses 3 ≡ Told
  pub lost_before : fate_of two_losses 4 ≡ LostBefore
  pub not_lost_the_other_way : fate_of two_losses 4 ≢ LostAfter

-- ---- the parts of actors

-- turns of the first binder, which is restarted twice and loses two calls, and of the third, which is restarted once; the
-- second has no turn, though it is restarted
abbrev pub two_binders : Script
two_binders = script_of (codes "n1" ∷ codes "n2" ∷ []) (
    lines.Turn binder_3 9 ∷ lines.Turn binder_1 5 ∷ lines.Restart binder_1 3 ∷ lines.Lose binder_1 2 true ∷ lines.Restart binder_2 1
    ∷ lines.Lose binder_1 4 false ∷ lines.Restart binder_3 7 ∷ lines.Restart binder_1 1 ∷ lines.Drain ∷ [])

-- a turn of ops, which is restarted and loses a call
abbrev pub with_ops : Script
with_ops = script_of (codes "n1" ∷ []) (lines.Restart ops_1 4 ∷ lines.Turn ops_1 6 ∷ lines.Lose ops_1 5 false ∷ lines.Turn binder_1 5 ∷ lines.Restart binder_1 3 ∷ lines.Turn claims_1 1 ∷ [])

-- a turn of a scheduler, and one of a binder that is restarted
abbrev pub with_scheduler : Script
with_scheduler = script_of (codes "n1" ∷ []) (lines.Turn scheduler_1 1 ∷ lines.Turn binder_1 5 ∷ lines.Restart binder_1 3 ∷ [])

-- turns of workers of three kinds
abbrev pub with_protection : Script
with_protection = script_of [] (lines.Turn volumes_4 1 ∷ lines.Restart claims_1 2 ∷ lines.Turn claims_1 5 ∷ lines.Turn binder_1 5 ∷ [])

-- the agent of a node
abbrev pub agent_of : List ℕ → Actor
agent_of node = Agent node

-- turns of the agents of two nodes, the first of which is restarted; the third has none
abbrev pub with_agents : Script
with_agents = script_of (codes "n1" ∷ codes "n2" ∷ codes "n3" ∷ []) (
    lines.Turn (agent_of (codes "n2")) 5 ∷ lines.Restart (agent_of (codes "n1")) 6 ∷ lines.Lose (agent_of (codes "n1")) 6 true
    ∷ lines.Turn (agent_of (codes "n1")) 6 ∷ lines.Turn volumes_4 1 ∷ [])

-- what lines say of an actor
pub record PartExamples : Type 0 where
  pub the_first_begins_after_the_users : (part_of two_binders binder_1).first ≡ 5
  pub a_life_more_for_each_restart : lives_of (part_of two_binders binder_1) ≡ 3
  pub restarts_in_the_order_of_lines : (part_of two_binders binder_1).restarts ≡ 3 ∷ 1 ∷ []
  pub the_lost_calls : (part_of two_binders binder_1).losses ≡ two_losses
  pub losses_are_of_one_actor : (part_of two_binders binder_3).losses ≡ []
  pub without_turns_it_has_no_life : lives_of (part_of two_binders binder_2) ≡ 0
  pub and_takes_no_seat : (part_of two_binders binder_2).first ≡ 8
  pub the_next_begins_after_all_lives : (part_of two_binders binder_3).first ≡ 8
  pub not_after_the_first_life_alone : (part_of two_binders binder_3).first ≢ 6
  pub not_in_the_order_of_lines : (part_of two_binders binder_3).first ≢ 5
  pub later_kinds_come_later : (part_of with_ops ops_1).first ≡ 7
  pub its_kind : (part_of with_ops ops_1).kind ≡ seats.Ops
  pub its_lives : lives_of (part_of with_ops ops_1) ≡ 2
  pub its_lost_calls : (part_of with_ops ops_1).losses ≡ record { call = 5; after = false } ∷ []
  pub protection_comes_after_its_lives : (part_of with_ops claims_1).first ≡ 9
  pub not_after_its_first_life : (part_of with_ops claims_1).first ≢ 8
  pub schedulers_come_after_ops : (part_of with_scheduler scheduler_1).first ≡ 7
  pub not_before_binders : (part_of with_scheduler scheduler_1).first ≢ 5
  pub they_schedule : (part_of with_scheduler scheduler_1).kind ≡ seats.Scheduler
  pub claims_come_after_binders : (part_of with_protection claims_1).first ≡ 6
  pub they_protect_claims : (part_of with_protection claims_1).kind ≡ seats.ClaimProtect
  pub volumes_come_after_claims : (part_of with_protection volumes_4).first ≡ 8
  pub not_before_them : (part_of with_protection volumes_4).first ≢ 6
  pub agents_have_theirs : seat_kind_of (agent_of (codes "n1")) ≡ seats.Agent
  pub agents_come_after_workers : (part_of with_agents (agent_of (codes "n1"))).first ≡ 6
  pub an_agent_has_a_life_more_for_each_restart : lives_of (part_of with_agents (agent_of (codes "n1"))) ≡ 2
  pub the_lost_calls_of_an_agent : (part_of with_agents (agent_of (codes "n1"))).losses ≡ record { call = 6; after = true } ∷ []
  pub agents_by_the_names_of_nodes : (part_of with_agents (agent_of (codes "n2"))).first ≡ 8
  pub not_in_the_order_of_their_turns : (part_of with_agents (agent_of (codes "n2"))).first ≢ 6
  pub an_agent_without_turns_has_no_life : lives_of (part_of with_agents (agent_of (codes "n3"))) ≡ 0

-- which seats lives and drains have
pub record SeatExamples : Type 0 where
  pub drains_come_after_all_lives : drain_seats two_binders ≡ 12 ∷ 11 ∷ 10 ∷ 13 ∷ 14 ∷ 15 ∷ 16 ∷ []
  pub a_seat_for_each_node : drain_seats (script_of (codes "n1" ∷ []) []) ≡ 7 ∷ 6 ∷ 5 ∷ 8 ∷ 9 ∷ 10 ∷ []
  pub none_where_no_node_is : drain_seats with_protection ≡ 11 ∷ 10 ∷ 9 ∷ 12 ∷ 13 ∷ []
  pub after_a_scheduler_too : drain_seats with_scheduler ≡ 10 ∷ 9 ∷ 8 ∷ 11 ∷ 12 ∷ 13 ∷ []
  pub a_scheduler_takes_a_seat : drain_seats with_scheduler ≢ 9 ∷ 8 ∷ 7 ∷ 10 ∷ 11 ∷ 12 ∷ []

-- ---- budgets

-- the metadata of an object
abbrev pub some_meta : Meta
some_meta = record { namespace = []; name = codes "a"; uid = None; version = 0; created = []; deleted = None; labels = []; annotations = []; finalizers = [] }

-- a node
abbrev pub some_node : Object
some_node = Node (record { meta = some_meta; extra = [] })

-- a pod that names two claims
abbrev pub two_claims : Object
two_claims = Pod (record { meta = some_meta; claims = codes "x" ∷ codes "y" ∷ []; node = []; extra = [] })

-- no entries
abbrev pub no_entries : List Entry
no_entries = []

-- a script with planned faults
abbrev pub with_faults : Script
with_faults = record (script_of [] []) { setup = record { pools = []; faults = 1 ∷ 2 ∷ []; imports = [] } }

-- how large budgets are
pub record BudgetExamples : Type 0 where
  pub an_object_counts_one : size_of_all (some_node ∷ []) ≡ 1
  pub a_pod_counts_its_claims : size_of_all (some_node ∷ two_claims ∷ []) ≡ 4
  pub each_pod_by_itself : size_of_all (two_claims ∷ two_claims ∷ []) ≢ 4
  pub faults_behind_do_not_count : faults_ahead 2 (1 ∷ 2 ∷ 3 ∷ []) ≡ 1
  pub two_objects_and_a_fault : raise_for 2 1 ≡ 4608
  pub an_empty_world : raised None two_binders.setup no_entries 0 ≡ 2048
  pub faults_ahead_raise_it : raised None with_faults.setup no_entries 0 ≡ 6144
  pub it_grows_at_each_drain : raised None two_binders.setup no_entries 2048 ≡ 4096
  pub never_above_the_most : raised None two_binders.setup no_entries 133000 ≡ 133120
  pub not_by_the_whole_there : raised None two_binders.setup no_entries 133000 ≢ 135048
  pub up_to_the_most : at_most most_budget 133120 ≡ 133120
  pub a_given_one_stays : raised (Some 5) two_binders.setup no_entries 5 ≡ 5
  pub also_above_the_most : raised (Some 200000) two_binders.setup no_entries 200000 ≡ 200000
  pub nothing_before_the_first_drain : first_budget None ≡ 0
  pub but_what_was_given : first_budget (Some 7) ≡ 7

-- ---- the limits

-- a line of a user
abbrev pub user_line : ℕ → Line
user_line user = lines.Call user (requests.List kinds.Pod None)

-- an object of an older store, and a script that begins with one
abbrev pub imported_node : Object
imported_node = Node (record { meta = record some_meta { uid = Some (uid_of_serial 7); version = 9 }; extra = [] })

-- a script that imports an object
abbrev pub importing : Object → Script
importing object = record (script_of [] []) { setup = record { pools = []; faults = []; imports = object ∷ [] }; node_names = codes "a" ∷ [] }

-- which scripts are within the limits
pub record LimitExamples : Type 0 where
  pub within : IsReadable two_binders
  pub the_last_user_and_the_most_calls : AreWithinLimits (user_line 4 ∷ lines.Turn binder_1 1000 ∷ [])
  pub no_fifth_user : AreWithinLimits (lines.Drain ∷ user_line 5 ∷ []) → ⊥
  pub no_user_before_the_first : AreWithinLimits (user_line 0 ∷ []) → ⊥
  pub no_longer_turn : IsReadable (script_of [] (lines.Turn binder_1 1001 ∷ [])) → ⊥
  pub no_ninth_node : IsReadable (script_of ([] ∷ [] ∷ [] ∷ [] ∷ [] ∷ [] ∷ [] ∷ [] ∷ [] ∷ []) []) → ⊥
  pub agents_of_its_nodes : IsReadable with_agents
  pub no_other_agent : IsReadable (script_of (codes "n1" ∷ []) (lines.Turn (agent_of (codes "n2")) 1 ∷ [])) → ⊥
  pub no_node_twice : IsReadable (script_of (codes "n1" ∷ codes "n1" ∷ []) []) → ⊥
  pub no_other_order : IsReadable (script_of (codes "n2" ∷ codes "n1" ∷ []) []) → ⊥
  pub an_import : IsReadable (importing imported_node)
  pub none_without_a_uid : IsReadable (importing some_node) → ⊥
