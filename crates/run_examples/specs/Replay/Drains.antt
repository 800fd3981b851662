-- Drains, and how they end: cases that hold, and cases beside them that do not. A choice of this project.
use Rattle.std.specs.Prelude.{ℕ, ◌≡◌, ◌+◌, true, false, List, [], ◌∷◌, Option, Some, None, codes, slice_get}
use Rattle.kube_parts.specs.declared.names.Due.TheVariants as dues
use Rattle.kube_parts.specs.declared.parts.Kind.TheVariants as kinds
use Rattle.kube_parts.specs.declared.parts.VolumePhase.TheVariants as phases
use Rattle.kube_objects.specs.declared.objects.Object.TheVariants.{Node, Pod, Volume}
use Rattle.kube_objects.specs.declared.objects.Pod.{Pod as PodData}
use Rattle.kube_objects.specs.declared.objects.Volume.{Volume as VolumeData}
use Rattle.kube_objects.specs.Sources.{data_id_of}
use Rattle.call_types.specs.declared.entry.Entry.{Entry}
use Rattle.call_types.specs.declared.reply.Reply.{Reply}
use Rattle.call_types.specs.declared.reply.Reply.TheVariants as replies
use Rattle.call_types.specs.declared.request.Request.{Request}
use Rattle.call_types.specs.declared.request.Request.TheVariants as requests
use Rattle.call_types.specs.declared.request.SeatKind.{SeatKind}
use Rattle.call_types.specs.declared.request.SeatKind.TheVariants as seats
use Rattle.binder_model.specs.ObjectKeys.{volume_key}
use Rattle.model_laws.specs.Worked.{volume, volume_at}
use Rattle.script_lines.specs.declared.actors.Actor.{Actor}
use Rattle.sync_queue.specs.Work.{Work, no_work}
use Rattle.worker_core.specs.declared.task.Under.{Under}
use Rattle.world_core.specs.declared.drained.Drained.{Drained}
use Rattle.world_core.specs.declared.drained.Drained.TheVariants.{Settled, Spent}
use Rattle.actor_rounds.specs.declared.drainers.Drainer.{Drainer}
use Rattle.actor_rounds.specs.Drainers.{AreNew, roles_of, seats_of}
use Rattle.actor_rounds.specs.Rounds.{all_pass}
use Rattle.script_text.specs.declared.script.Line.TheVariants as lines
use Rattle.script_text.specs.declared.script.Script.{Script}
use Rattle.model_examples.specs.DueActions.{pending_a}
use Rattle.model_examples.specs.Samples.{deleting_a, ended_a, key_a, key_p, n1, node_1, uid_p, waiting_p}
use Rattle.script_runs.specs.declared.stage.Stage.{Stage}
use Rattle.script_runs.specs.Examples.{script_of}
use Rattle.script_runs.specs.Parts.{drain_roles, drain_seat, drain_seats}
use Rattle.script_runs.specs.Drains.{AreDrainers}
use Rattle.script_runs.specs.Replays.{EndsAs, IsDrain, IsMove, IsReplay, Progress, first_progress}
use Rattle.script_runs.specs.Steps.Standing.{StageStands}
use Rattle.run_examples.specs.Replay.Calls.{reads}
use Rattle.run_examples.specs.Replay.Replays.{empty_script}

-- a world that begins with a volume, which is to become available
abbrev pub volume_script : Script
volume_script = record empty_script { setup = record { pools = []; faults = []; imports = Volume pending_a ∷ [] } }

-- the same with a node
abbrev pub node_script : Script
node_script = record volume_script { node_names = codes "n1" ∷ [] }

-- with a budget of so many calls a first drain, by new actors, makes so many, which are these entries
pub record Drains (script : Script) (budget made : ℕ) (past : List Entry) : Type 0 where
  pub drainers : List Drainer
  pub new : AreNew (drain_seat script) script.node_names drainers
  pub after : Progress
  pub drain : IsDrain all_pass script (Some budget) (first_progress (Some budget) drainers) after
  pub past_is : after.past ≡ past
  pub made_is : after.drained ≡ made

-- the list with which the scheduler of a drain begins, at this seat
abbrev pub begins_with : ℕ → Entry
begins_with seat = record { seat = seat; kind = seats.Scheduler; request = requests.List kinds.PersistentVolume None; reply = replies.Listed (Volume pending_a ∷ []) 1; told = true }

-- the seats of the drain: binder 5, ops 6, scheduler 7, claim protection 8, volume protection 9, and the agent of a node 10
pub record DrainExamples : Type 0 where
  pub the_scheduler_begins : Drains volume_script 1 1 (begins_with 7 ∷ [])
  pub also_where_there_is_an_agent : Drains node_script 1 1 (begins_with 7 ∷ [])
  pub not_the_binder : Drains volume_script 1 1 (reads 5 true ∷ []) → ⊥
  pub not_volume_protection : Drains volume_script 1 1 (reads 9 true ∷ []) → ⊥
  pub not_the_agent_of_a_node : Drains node_script 1 1 (reads 10 true ∷ []) → ⊥
  pub not_a_seat_after_them : Drains volume_script 1 1 (reads 10 true ∷ []) → ⊥
  pub not_at_the_seat_of_the_binder : Drains volume_script 1 1 (begins_with 5 ∷ []) → ⊥
  pub nor_at_that_of_the_agent : Drains node_script 1 1 (begins_with 10 ∷ []) → ⊥
  pub not_a_user : Drains volume_script 1 1 (reads 4 true ∷ []) → ⊥
  pub not_a_user_at_its_seat : Drains volume_script 1 1 (record (begins_with 7) { kind = seats.User } ∷ []) → ⊥
  pub not_another_kind_at_its_seat : Drains volume_script 1 1 (record (begins_with 7) { kind = seats.VolumeProtect } ∷ []) → ⊥
  pub not_by_a_read_of_one_object : Drains volume_script 1 1 (record (begins_with 7) { request = requests.Get key_a } ∷ []) → ⊥
  pub not_by_a_watch : Drains volume_script 1 1 (record (begins_with 7) { request = requests.Watch kinds.PersistentVolume 1 } ∷ []) → ⊥
  pub not_with_its_answer_lost : Drains volume_script 1 1 (record (begins_with 7) { told = false } ∷ []) → ⊥
  pub not_past_the_budget : Drains volume_script 0 1 (begins_with 7 ∷ []) → ⊥
  pub not_short_of_it_while_something_is_due : Drains volume_script 1 0 [] → ⊥
  pub none_where_nothing_is_due : Drains empty_script 1 0 []
  pub not_even_one : Drains empty_script 1 1 (begins_with 7 ∷ []) → ⊥

-- ---- its actors

-- the actors of a drain of a script with a node, made for no node: the agent lacks. Or made for the seats after theirs
pub record ActorExamples : Type 0 where
  pub no_replay_without_its_agent : (past : List Entry) (ending : Drained) (r : IsReplay node_script None past ending) → AreNew (drain_seat node_script) [] r.drainers → ⊥
  pub nor_at_any_drain : (p : Progress) → AreNew (drain_seat node_script) [] p.drainers → AreDrainers node_script (drain_seat node_script) None p → ⊥
  pub no_stage_without_it : (p : Progress) (s : Stage) → AreNew (drain_seat node_script) [] s.drainers → StageStands node_script None p s → ⊥
  pub no_replay_at_later_seats : (past : List Entry) (ending : Drained) (r : IsReplay node_script None past ending)
      → AreNew (drain_seat node_script + 1) node_script.node_names r.drainers → ⊥
  pub nor_any_drain_there : (p : Progress) → AreNew (drain_seat node_script + 1) node_script.node_names p.drainers → AreDrainers node_script (drain_seat node_script) None p → ⊥
  pub with_it_they_are_its_actors : (ds : List Drainer) → AreNew (drain_seat node_script) node_script.node_names ds → (seats_of ds ≡ drain_seats node_script) × (roles_of ds ≡ drain_roles node_script)

-- ---- drains go on from where the last one left their actors

-- a queue in which a volume waits
abbrev pub one_waits : Work
one_waits = record { waiting = key_a ∷ []; taken = []; parked = [] }

-- the binder of the drains is the third in a round
pub record KeptExamples : Type 0 where
  pub no_queue_at_first : (past : List Entry) (ending : Drained) (r : IsReplay volume_script None past ending) (d : Drainer)
      → slice_get r.drainers 2 ≡ Some d → d.actor.work ≡ one_waits → ⊥
  pub nothing_under_way_at_first : (past : List Entry) (ending : Drained) (r : IsReplay volume_script None past ending) (d : Drainer) (u : Under)
      → slice_get r.drainers 2 ≡ Some d → d.actor.under ≡ Some u → ⊥
  pub a_drain_begins_with_what_the_last_one_left : (script : Script) (option : Option ℕ) (before middle after : Progress)
      (one : IsDrain all_pass script option before middle) (two : IsDrain all_pass script option middle after) (d : Drainer)
      → slice_get one.ran 2 ≡ Some d → slice_get middle.drainers 2 ≡ Some d
  pub not_with_another_queue : (script : Script) (option : Option ℕ) (before middle after : Progress)
      (one : IsDrain all_pass script option before middle) (two : IsDrain all_pass script option middle after) (d other : Drainer)
      → slice_get one.ran 2 ≡ Some d → slice_get middle.drainers 2 ≡ Some other → d.actor.work ≡ no_work → other.actor.work ≡ one_waits → ⊥
  pub nor_with_something_else_under_way : (script : Script) (option : Option ℕ) (before middle after : Progress)
      (one : IsDrain all_pass script option before middle) (two : IsDrain all_pass script option middle after) (d other : Drainer) (u : Under)
      → slice_get one.ran 2 ≡ Some d → slice_get middle.drainers 2 ≡ Some other → d.actor.under ≡ None → other.actor.under ≡ Some u → ⊥
  pub lines_between_leave_them : (script : Script) (option : Option ℕ) (user : ℕ) (request : Request) (before after : Progress)
      → IsMove script option (lines.Call user request) before after → after.drainers ≡ before.drainers
  pub turns_too : (script : Script) (option : Option ℕ) (actor : Actor) (calls : ℕ) (before after : Progress)
      → IsMove script option (lines.Turn actor calls) before after → after.drainers ≡ before.drainers

-- ---- drains that do something else than rounds of all controllers in their order

-- a user makes the volume, and then the calls are drained
abbrev pub made_script : Script
made_script = script_of [] (lines.Call 1 (requests.Create (Volume (volume (codes "a") 5))) ∷ [])

abbrev pub made_a : VolumeData
made_a = volume_at (codes "a") 5 1 1 phases.Pending

abbrev pub made : List Entry
made = record { seat = 1; kind = seats.User; request = requests.Create (Volume (volume (codes "a") 5)); reply = replies.Done (Volume made_a); told = true } ∷ []

-- the list and the watch of an actor of this kind, at this seat

abbrev pub lists_made : ℕ → SeatKind → Entry
lists_made seat kind = record { seat = seat; kind = kind; request = requests.List kinds.PersistentVolume None; reply = replies.Listed (Volume made_a ∷ []) 1; told = true }

abbrev pub watches_made : ℕ → SeatKind → Entry
watches_made seat kind = record { seat = seat; kind = kind; request = requests.Watch kinds.PersistentVolume 1; reply = replies.Events (record { events = []; upto = 1 }); told = true }

-- what the drain's binder or its scheduler would have made if it had listed the volumes, and watched them until four calls were spent
abbrev pub only_watched : ℕ → SeatKind → List Entry
only_watched seat kind = watches_made seat kind ∷ watches_made seat kind ∷ watches_made seat kind ∷ lists_made seat kind ∷ made

pub record RoundExamples : Type 0 where
  pub only_watches : IsReplay made_script (Some 4) (only_watched 5 seats.Binder) (Spent 4 (volume_key (codes "a")) dues.Available) → ⊥
  pub nor_does_the_scheduler : IsReplay made_script (Some 4) (only_watched 7 seats.Scheduler) (Spent 4 (volume_key (codes "a")) dues.Available) → ⊥
  pub wrong_kinds : IsReplay made_script (Some 1) (lists_made 5 seats.VolumeProtect ∷ made) (Spent 1 (volume_key (codes "a")) dues.Available) → ⊥
  pub nor_at_the_seat_of_the_scheduler : IsReplay made_script (Some 1) (lists_made 7 seats.VolumeProtect ∷ made) (Spent 1 (volume_key (codes "a")) dues.Available) → ⊥
  pub but_the_scheduler_lists_them : IsReplay made_script (Some 1) (lists_made 7 seats.Scheduler ∷ made) (Spent 1 (volume_key (codes "a")) dues.Available)

-- the empty lines of that script, with a budget of no calls
pub record SpentExamples : Type 0 where
  pub the_first_that_is_due : IsReplay volume_script (Some 0) [] (Spent 0 key_a dues.Available)
  pub not_another_action : IsReplay volume_script (Some 0) [] (Spent 0 key_a dues.Bound) → ⊥
  pub not_settled : IsReplay volume_script (Some 0) [] (Settled 0) → ⊥

-- ---- a volume is reclaimed

-- a world that begins with a volume that has ended with policy Delete
abbrev pub ended_script : Script
ended_script = record empty_script { setup = record { pools = []; faults = []; imports = Volume ended_a ∷ [] } }

-- a call of the ops of the drains, which have the seat after the binder's
abbrev pub ops_asks : Request → Reply → Entry
ops_asks request reply = record { seat = 6; kind = seats.Ops; request = request; reply = reply; told = true }

-- the volume is read, and its data are erased; then it is deleted, and stays for its protection
abbrev pub data_erased : List Entry
data_erased = ops_asks (requests.Erase (data_id_of ended_a.source)) (replies.Erased false) ∷ ops_asks (requests.Get key_a) (replies.Found (Volume ended_a)) ∷ []

abbrev pub volume_deleted : List Entry
volume_deleted = ops_asks (requests.Delete key_a ended_a.meta.uid) (replies.Done (Volume deleting_a)) ∷ data_erased

-- all drains have made so many calls, as many as they may, and these are the entries
abbrev pub drained : ℕ → List Entry → Progress
drained calls past = record (first_progress (Some calls) []) { past = past; drained = calls }

pub record ReclaimExamples : Type 0 where
  pub due_until_it_is_deleted : EndsAs ended_script.setup (drained 2 data_erased) (Spent 2 key_a dues.Reclaim)
  pub then_its_protection_is_dropped : EndsAs ended_script.setup (drained 3 volume_deleted) (Spent 3 key_a dues.Unguard)
  pub not_by_ops_alone : IsReplay ended_script (Some 2) data_erased (Spent 2 key_a dues.Reclaim) → ⊥
  pub not_reclaimed_twice : IsReplay ended_script (Some 3) volume_deleted (Spent 3 key_a dues.Reclaim) → ⊥
  pub not_settled_before : IsReplay ended_script (Some 3) data_erased (Settled 2) → ⊥

-- ---- a pod is given a node

-- a pod without claims that no node runs
abbrev pub lone_p : PodData
lone_p = record waiting_p { claims = [] }

-- a world that begins with a node and that pod
abbrev pub pod_script : Script
pod_script = record empty_script { setup = record { pools = []; faults = []; imports = Node n1 ∷ Pod lone_p ∷ [] }; node_names = node_1 ∷ [] }

-- the pod as it is once the node was given
abbrev pub assigned_p : PodData
assigned_p = record lone_p { meta = record lone_p.meta { version = 10 }; node = node_1 }

-- the scheduler of the drains has the second seat after the binder's; it gives the pod the node
abbrev pub pod_assigned : List Entry
pod_assigned = record { seat = 7; kind = seats.Scheduler; request = requests.BindPod key_p uid_p node_1; reply = replies.Done (Pod assigned_p); told = true } ∷ []

pub record AssignExamples : Type 0 where
  pub due_until_it_has_a_node : IsReplay pod_script (Some 0) [] (Spent 0 key_p dues.Assign)
  pub then_it_is_to_be_mounted : EndsAs pod_script.setup (drained 1 pod_assigned) (Spent 1 key_p dues.Mount)
  pub not_before_anything_was_listed : IsReplay pod_script (Some 1) pod_assigned (Spent 1 key_p dues.Mount) → ⊥
  pub not_assigned_twice : IsReplay pod_script (Some 1) pod_assigned (Spent 1 key_p dues.Assign) → ⊥
  pub not_settled_before : IsReplay pod_script (Some 0) [] (Settled 0) → ⊥
