-- When a life is diligent and when it is played: cases that hold, and cases beside them that must not.
-- A choice of this project, as the actors are. The newest call stands first.
use Rattle.std.specs.Prelude.{List, [], ◌∷◌, Some, None}
use Rattle.kube_objects.specs.declared.key.Key.{Key}
use Rattle.kube_parts.specs.declared.parts.Kind.{Kind}
use Rattle.kube_parts.specs.declared.parts.Kind.TheVariants as kinds
use Rattle.kube_parts.specs.declared.parts.VolumePhase.TheVariants as volumes
use Rattle.kube_objects.specs.declared.objects.Object.TheVariants.{Volume}
use Rattle.kube_objects.specs.declared.objects.Volume.{Volume as VolumeData}
use Rattle.call_types.specs.declared.entry.Entry.{Entry}
use Rattle.call_types.specs.declared.request.NewStatus.TheVariants as statuses
use Rattle.call_types.specs.declared.request.Request.TheVariants as requests
use Rattle.call_types.specs.declared.request.SeatKind.TheVariants as seats
use Rattle.call_types.specs.declared.reply.Change.TheVariants as changes
use Rattle.call_types.specs.declared.reply.Event.{Event}
use Rattle.call_types.specs.declared.reply.Refusal.TheVariants as refusals
use Rattle.call_types.specs.declared.reply.Reply.TheVariants as replies
use Rattle.model_examples.specs.Samples.{Exchange, a, entry_of, finds_none, heard, in_phase, key_a, key_c, seat_of, taken_a, tells_volume, unheard}
use Rattle.worker_core.specs.declared.role.Role.{Role}
use Rattle.worker_core.specs.States.{ActorState}
use Rattle.worker_core.specs.Stands.{IsNew}
use Rattle.attention_law.specs.Diligence.{AreFourWatches, Call, IsDiligent, IsKeyDue, WasAskedSince}
use Rattle.attention_law.specs.Played.{IsPlayed}
use Rattle.attention_law.specs.Showing.{IsDiligentInOrder}

abbrev pub binder : Role
binder = record { kind = seats.Binder; node = [] }

abbrev pub entry : Exchange → Entry
entry x = entry_of seats.Binder x

abbrev pub call : Exchange → Call
call x = Some (entry x)

abbrev pub watches : Kind → List Event → Exchange
watches kind events = heard (requests.Watch kind 4) (replies.Events (record { events = events; upto = 4 }))

-- a watch of the volumes without events
abbrev pub watch : Exchange
watch = watches kinds.PersistentVolume []

abbrev pub change : Event
change = record { change = changes.Modified; object = Volume a; version = 4 }

abbrev pub frees : VolumeData → Exchange
frees v = heard (requests.UpdateStatus key_a (statuses.Volume volumes.Available) (Some v.meta.version)) (replies.Done (Volume v))

-- four watches, with these calls after the second of them

abbrev pub AreFour : List Call → Type 0
AreFour calls = AreFourWatches kinds.PersistentVolume (entry watch) (entry watch) (call watch ∷ calls)

pub record WatchExamples : Type 0 where
  pub four : AreFour (call watch ∷ [])
  pub five : AreFour (call watch ∷ call watch ∷ [])
  pub beside_a_read : AreFour (call watch ∷ call (finds_none key_c) ∷ [])
  pub beside_a_watch_of_claims : AreFour (call watch ∷ call (watches kinds.PersistentVolumeClaim []) ∷ [])
  pub not_three : AreFour [] → ⊥
  pub not_by_a_watch_of_claims : AreFour (call (watches kinds.PersistentVolumeClaim []) ∷ []) → ⊥
  pub not_with_a_lost_call : AreFour (call watch ∷ None ∷ []) → ⊥
  pub not_with_a_lost_answer : AreFour (call watch ∷ call (unheard watch) ∷ []) → ⊥
  pub not_with_an_event : AreFour (call watch ∷ call (watches kinds.PersistentVolumeClaim (change ∷ [])) ∷ []) → ⊥
  pub not_where_one_is_gone : AreFour (call watch ∷ call (heard (requests.Watch kinds.PersistentVolume 1) (replies.Refused (refusals.Gone 3))) ∷ []) → ⊥
  pub not_with_a_write : AreFour (call watch ∷ call (frees a) ∷ []) → ⊥

-- what is due

-- a volume that is still to become Available
abbrev pub pending_a : VolumeData
pending_a = in_phase volumes.Pending a

abbrev pub Due : Key → List Exchange → Type 0
Due key xs = IsKeyDue binder key (seat_of seats.Binder xs)

pub record DueExamples : Type 0 where
  pub pending_volume : Due key_a (tells_volume pending_a ∷ [])
  pub still_after_a_watch : Due key_a (watch ∷ tells_volume pending_a ∷ [])
  pub not_another_key : Due key_c (tells_volume pending_a ∷ []) → ⊥
  pub not_an_available_volume : Due key_a (tells_volume a ∷ []) → ⊥
  pub not_before_it_was_told : Due key_a [] → ⊥
  pub reference_without_its_claim : Due key_a (tells_volume taken_a ∷ [])

-- whole lives

-- this volume was told, and four watches followed
abbrev pub watched : VolumeData → List Call
watched v = call watch ∷ call watch ∷ call watch ∷ call watch ∷ call (tells_volume v) ∷ []

pub record LifeExamples : Type 0 where
  pub nothing_is_due : IsDiligent binder (watched a)
  pub not_where_a_due_key_is_left : IsDiligent binder (watched pending_a) → ⊥
  pub nor_in_order : IsDiligentInOrder binder (watched pending_a) → ⊥
  pub not_where_the_claim_is_not_read : IsDiligent binder (watched taken_a) → ⊥
  pub the_claim_was_read : WasAskedSince binder key_a (call watch ∷ call (tells_volume taken_a) ∷ []) (call watch ∷ call (finds_none key_c) ∷ call watch ∷ [])

-- how a life is played

pub record PlayedExamples : Type 0 where
  pub a_new_life : (s : ActorState) → IsNew binder s → IsPlayed binder s []
  pub not_with_a_watch_before_a_list : (s : ActorState) → IsPlayed binder s (call watch ∷ []) → ⊥
  pub not_with_a_write_of_what_was_not_told : (s : ActorState) → IsPlayed binder s (call (frees a) ∷ []) → ⊥
  pub not_where_a_due_key_is_left : (s : ActorState) → IsPlayed binder s (watched pending_a) → ⊥
