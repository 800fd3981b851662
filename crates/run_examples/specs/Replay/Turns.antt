-- What a turn may not leave undone, and what it may not do beside: cases that hold, and cases beside them that do not.
-- A choice of this project. The newest entry and the newest call stand first.
use Rattle.std.specs.Prelude.{ℕ, ◌≡◌, true, List, [], ◌∷◌, Some, None, codes}
use Rattle.kube_parts.specs.declared.parts.Kind.{Kind}
use Rattle.kube_parts.specs.declared.parts.Kind.TheVariants as kinds
use Rattle.kube_parts.specs.declared.parts.VolumePhase.TheVariants as volumes
use Rattle.kube_objects.specs.declared.objects.Object.{Object}
use Rattle.kube_objects.specs.declared.objects.Object.TheVariants.{Volume}
use Rattle.kube_objects.specs.declared.objects.Volume.{Volume as VolumeData}
use Rattle.call_types.specs.declared.entry.Entry.{Entry}
use Rattle.call_types.specs.declared.request.Request.{Request}
use Rattle.call_types.specs.declared.request.Request.TheVariants as requests
use Rattle.call_types.specs.declared.request.SeatKind.TheVariants as seats
use Rattle.call_types.specs.declared.reply.Change.TheVariants as changes
use Rattle.call_types.specs.declared.reply.Refusal.TheVariants.{StaleEpoch}
use Rattle.call_types.specs.declared.reply.Reply.{Reply}
use Rattle.call_types.specs.declared.reply.Reply.TheVariants as replies
use Rattle.attention_law.specs.Diligence.{Call}
use Rattle.attention_law.specs.Resting.{IsDone}
use Rattle.model_examples.specs.Samples.{a, in_phase}
use Rattle.script_lines.specs.declared.actors.Actor.{Actor}
use Rattle.script_lines.specs.declared.actors.Actor.TheVariants.{Agent}
use Rattle.script_text.specs.declared.script.Line.TheVariants as lines
use Rattle.actor_turns.specs.declared.part.Part.{Part}
use Rattle.script_runs.specs.Examples.{binder_1, script_of}
use Rattle.script_runs.specs.Parts.{part_of, role_of}
use Rattle.actor_turns.specs.Calls.{and_idle}
use Rattle.actor_turns.specs.Diligent.{IsNeededLife}
use Rattle.actor_turns.specs.Lives.{ArePlayedLives, IsIdleLife}
use Rattle.script_runs.specs.Replays.{IsTurnLine, Progress, and_made, first_progress}
use Rattle.run_examples.specs.Replay.Calls.{told_calls, watches, whole_pass}
use Rattle.run_examples.specs.Replay.Replays.{plain_part}
use Rattle.actor_rounds.specs.Answers.Answered.{all_pass}

-- ---- a turn goes on only where its life is not idle

-- each kind was listed, and then watched in a pass without events: the life is idle after these six
abbrev pub lists : Kind → List Object → Entry
lists kind os = record { seat = 5; kind = seats.Binder; request = requests.List kind None; reply = replies.Listed os 1; told = true }

abbrev pub six : List Entry
six = watches kinds.StorageClass ∷ watches kinds.PersistentVolumeClaim ∷ watches kinds.PersistentVolume ∷ lists kinds.StorageClass []
    ∷ lists kinds.PersistentVolumeClaim [] ∷ lists kinds.PersistentVolume [] ∷ []

-- after a turn of so many calls, with these entries
abbrev pub made_all : Part → ℕ → List Entry → Progress → Progress
made_all part calls past before = record before { past = past; made = and_made part.name calls before.made }

pub record NeededExamples : Type 0 where
  pub as_many_as_its_actor_gives : ArePlayedLives [] (role_of binder_1) plain_part 6 six (first_progress None []).idle
      → IsTurnLine all_pass [] (role_of binder_1) plain_part 6 (first_progress None []) (made_all plain_part 6 six (first_progress None []))
  pub not_one_more : (after : Progress) → after.past ≡ watches kinds.PersistentVolume ∷ six → IsTurnLine all_pass [] (role_of binder_1) plain_part 7 (first_progress None []) after → ⊥

-- ---- a turn that ends leaves no key that it was told, and that was due since, without a call

-- a volume that is still to become Available
abbrev pub pending_a : VolumeData
pending_a = in_phase volumes.Pending a

-- it is listed, and the life only watches
abbrev pub only_watches : List Entry
only_watches = watches kinds.StorageClass ∷ watches kinds.PersistentVolumeClaim ∷ watches kinds.PersistentVolume ∷ lists kinds.StorageClass []
    ∷ lists kinds.PersistentVolumeClaim [] ∷ lists kinds.PersistentVolume (Volume pending_a ∷ []) ∷ []

-- after a turn that gave it fewer, and these were its calls
abbrev pub made_fewer : Part → ℕ → List Entry → Progress
made_fewer part calls past = record (first_progress None []) {
  past = past;
  made = and_made part.name calls (first_progress None []).made;
  idle =
      and_idle 5 (told_calls past) (first_progress None []).idle;
}

pub record LeftExamples : Type 0 where
  pub where_its_life_is_idle : IsIdleLife [] (role_of binder_1) plain_part 5 6 six [] (told_calls six)
      → IsTurnLine all_pass [] (role_of binder_1) plain_part 9 (first_progress None []) (made_fewer plain_part 6 six)
  pub not_where_a_life_is_left : (since : List Call) → IsIdleLife [] (role_of binder_1) plain_part 5 6 only_watches [] since → ⊥
  pub not_where_a_told_key_is_left : (after : Progress) → after.past ≡ only_watches → IsTurnLine all_pass [] (role_of binder_1) plain_part 50 (first_progress None []) after → ⊥
  -- the call that was lost may have been that of the key
  pub a_lost_call_counts_for_it : IsDone (role_of binder_1) []
      (Some (watches kinds.StorageClass) ∷ Some (watches kinds.PersistentVolumeClaim) ∷ Some (watches kinds.PersistentVolume) ∷ None ∷ Some
      (lists kinds.StorageClass []) ∷ Some (lists kinds.PersistentVolumeClaim []) ∷ Some (lists kinds.PersistentVolume (Volume pending_a ∷ [])) ∷ [])
  pub not_one_lost_before_it_was_told : IsDone (role_of binder_1) []
      (Some (watches kinds.StorageClass) ∷ Some (watches kinds.PersistentVolumeClaim) ∷ Some (watches kinds.PersistentVolume) ∷ Some
      (lists kinds.StorageClass []) ∷ Some (lists kinds.PersistentVolumeClaim []) ∷ Some (lists kinds.PersistentVolume (Volume pending_a ∷ [])) ∷ None ∷ []) → ⊥

-- ---- when a life has nothing left to call for

-- a watch that told of the volume
abbrev pub tells_event : Entry
tells_event = record (watches kinds.PersistentVolume) {
  reply = replies.Events (record { events = record { change = changes.Modified; object = Volume pending_a; version = 3 } ∷ []; upto = 3 });
}

-- by these calls, after those before them
abbrev pub BinderIsDone : List Call → List Call → Type 0
BinderIsDone before since = IsDone (role_of binder_1) before since

pub record DoneExamples : Type 0 where
  pub after_a_whole_pass : BinderIsDone [] (told_calls whole_pass)
  pub not_at_once : BinderIsDone [] [] → ⊥
  pub not_before_each_kind_was_watched : BinderIsDone [] (told_calls (watches kinds.PersistentVolumeClaim ∷ watches kinds.PersistentVolume ∷ [])) → ⊥
  pub not_where_the_pass_brought_an_event : BinderIsDone [] (told_calls (watches kinds.StorageClass ∷ watches kinds.PersistentVolumeClaim ∷ tells_event ∷ [])) → ⊥
  -- the volume was told before, and is due at each point since
  pub not_where_a_key_of_before_is_left : BinderIsDone (told_calls only_watches) (told_calls whole_pass) → ⊥
  pub a_lost_call_since_counts_for_it : BinderIsDone (told_calls only_watches)
      (Some (watches kinds.StorageClass) ∷ Some (watches kinds.PersistentVolumeClaim) ∷ Some (watches kinds.PersistentVolume) ∷ None ∷ [])

-- ---- lives one after the other: each call of an earlier one was needed, and a turn ends by the life that would make its next call

-- a binder that is restarted after so many calls
abbrev pub restarted_after : ℕ → Part
restarted_after calls = part_of (script_of [] (lines.Turn binder_1 9 ∷ lines.Restart binder_1 calls ∷ [])) binder_1

abbrev pub restarted_late : Part
restarted_late = restarted_after 6

pub record NextLifeExamples : Type 0 where
  pub each_call_of_an_earlier_life_was_needed : IsNeededLife [] (role_of binder_1) restarted_late 5 7 six []
  pub not_a_watch_after_its_quiet_pass : IsNeededLife [] (role_of binder_1) (restarted_after 7) 5 8 (watches kinds.PersistentVolume ∷ six) [] → ⊥
  pub a_new_life_is_not_idle : (since : List Call) → IsIdleLife [] (role_of binder_1) restarted_late 6 6 six [] since → ⊥
  pub not_where_an_earlier_life_is_idle : (after : Progress) → after.past ≡ six → IsTurnLine all_pass [] (role_of binder_1) restarted_late 9 (first_progress None []) after → ⊥

-- ---- an agent that was told StaleEpoch asks nothing more

abbrev pub agent_n : Actor
agent_n = Agent (codes "n")

abbrev pub agent_part : Part
agent_part = part_of (script_of [] (lines.Turn agent_n 9 ∷ [])) agent_n

abbrev pub asks : ℕ → Request → Reply → Entry
asks seat request reply = record { seat = seat; kind = seats.Agent; request = request; reply = reply; told = true }

abbrev pub takes : ℕ → ℕ → Entry
takes seat epoch = asks seat (requests.TakeNode (codes "n")) (replies.Epoch epoch)

abbrev pub is_stale : Entry
is_stale = asks 5 (requests.Mounts (codes "n") 1) (replies.Refused (StaleEpoch 2))

-- another took the node since its first call
abbrev pub lost_node : Progress
lost_node = record (first_progress None []) { past = takes 9 2 ∷ takes 5 1 ∷ []; made = and_made agent_part.name 1 (first_progress None []).made }

pub record StaleExamples : Type 0 where
  pub it_is_told_so : ArePlayedLives [] (role_of agent_n) agent_part 2 (is_stale ∷ lost_node.past) lost_node.idle
      → IsTurnLine all_pass [] (role_of agent_n) agent_part 1 lost_node (made_all agent_part 1 (is_stale ∷ lost_node.past) lost_node)
  pub it_takes_no_node_back : (after : Progress) → after.past ≡ takes 5 3 ∷ is_stale ∷ lost_node.past → IsTurnLine all_pass [] (role_of agent_n) agent_part 2 lost_node after → ⊥
