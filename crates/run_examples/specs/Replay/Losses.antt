-- A life that lost a call, and was told of two keys: what one lost call excuses, and what it does not. The newest entry and the newest
-- call stand first. A choice of this project.
use Rattle.std.specs.Prelude.{true, false, List, [], ◌∷◌, Some, None, codes}
use Rattle.kube_parts.specs.declared.parts.Kind.TheVariants as kinds
use Rattle.kube_objects.specs.declared.objects.Object.{Object}
use Rattle.kube_objects.specs.declared.objects.Object.TheVariants.{Volume}
use Rattle.kube_objects.specs.declared.objects.Volume.{Volume as VolumeData}
use Rattle.call_types.specs.declared.entry.Entry.{Entry}
use Rattle.call_types.specs.declared.reply.Reply.TheVariants as replies
use Rattle.call_types.specs.declared.request.Request.TheVariants as requests
use Rattle.call_types.specs.declared.request.SeatKind.TheVariants as seats
use Rattle.attention_law.specs.Diligence.{Call}
use Rattle.attention_law.specs.Resting.{IsDone}
use Rattle.model_examples.specs.ProtectionRows.{leaving_a}
use Rattle.script_lines.specs.declared.actors.Actor.{Actor}
use Rattle.script_lines.specs.declared.actors.WorkerKind.TheVariants as workers
use Rattle.script_lines.specs.declared.actors.WorkerNumber.TheVariants.{One}
use Rattle.script_text.specs.declared.script.Line.TheVariants as lines
use Rattle.actor_turns.specs.declared.part.Part.{Part}
use Rattle.actor_turns.specs.Lives.{IsIdleLife}
use Rattle.script_runs.specs.Examples.{script_of, worker}
use Rattle.script_runs.specs.Parts.{part_of, role_of}

-- the volume protection controller, which loses its second call before its effect
abbrev pub volumes_1 : Actor
volumes_1 = worker workers.Volumes One

abbrev pub losing_part : Part
losing_part = part_of (script_of [] (lines.Turn volumes_1 9 ∷ lines.Lose volumes_1 2 false ∷ [])) volumes_1

-- another volume that is to leave and has its protection, as `leaving_a` has
abbrev pub leaving_b : VolumeData
leaving_b = let old = leaving_a in record old { meta = record old.meta { name = codes "b" } }

-- its list of the volumes, and a watch of them without events
abbrev pub listed : List Object → Entry
listed os = record { seat = 5; kind = seats.VolumeProtect; request = requests.List kinds.PersistentVolume None; reply = replies.Listed os 3; told = true }

abbrev pub quiet_watch : Entry
quiet_watch = record {
  seat = 5;
  kind = seats.VolumeProtect;
  request = requests.Watch kinds.PersistentVolume 3;
  reply = replies.Events (record { events = []; upto = 3 });
  told = true;
}

-- it listed these volumes, lost a call, and watched
abbrev pub lost_one : List Object → List Call
lost_one os = Some quiet_watch ∷ None ∷ Some (listed os) ∷ []

-- what these calls left
abbrev pub left_two : List Object → List Entry
left_two os = quiet_watch ∷ listed os ∷ []

abbrev pub both_leave : List Object
both_leave = Volume leaving_a ∷ Volume leaving_b ∷ []

pub record OneLossExamples : Type 0 where
  -- the call that was lost may have been that of the one volume
  pub of_one_volume : IsDone (role_of volumes_1) [] (lost_one (Volume leaving_a ∷ []))
  -- it was the call of one volume at most: of two volumes one is left, and the life is not idle
  pub not_of_two : (since : List Call) → IsIdleLife [] (role_of volumes_1) losing_part 5 3 (left_two both_leave) [] since → ⊥
