-- When a kind has no news, and what an answer makes of a pass: cases that hold, and cases beside them that must not.
-- A choice of this project, as the actors are.
use Rattle.std.specs.Prelude.{◌≡◌, true, false, List, [], ◌∷◌, None}
use Rattle.kube_parts.specs.declared.parts.Kind.{Kind}
use Rattle.kube_parts.specs.declared.parts.Kind.TheVariants as kinds
use Rattle.kube_objects.specs.declared.objects.Object.TheVariants.{Volume}
use Rattle.call_types.specs.declared.request.Request.TheVariants as requests
use Rattle.call_types.specs.declared.request.SeatKind.TheVariants as seats
use Rattle.call_types.specs.declared.reply.Change.TheVariants as changes
use Rattle.call_types.specs.declared.reply.Event.{Event}
use Rattle.call_types.specs.declared.reply.Refusal.TheVariants as refusals
use Rattle.call_types.specs.declared.reply.Reply.TheVariants as replies
use Rattle.model_examples.specs.Samples.{Exchange, a, c, heard, seat_of, tells_claim, tells_volume, unheard}
use Rattle.worker_core.specs.declared.turn.Pass.{Pass}
use Rattle.worker_core.specs.Absorbs.{pass_after}
use Rattle.worker_core.specs.Stands.{HasNoNews}

abbrev pub change : Event
change = record { change = changes.Modified; object = Volume a; version = 3 }

abbrev pub watches : Kind → List Event → Exchange
watches kind events = heard (requests.Watch kind 3) (replies.Events (record { events = events; upto = 3 }))

-- after these exchanges the volumes have no news
abbrev pub Quiet : List Exchange → Type 0
Quiet xs = HasNoNews kinds.PersistentVolume (seat_of seats.Binder xs)

pub record NewsExamples : Type 0 where
  pub after_an_empty_watch : Quiet (watches kinds.PersistentVolume [] ∷ tells_volume a ∷ [])
  pub not_before_any : Quiet [] → ⊥
  pub not_after_a_list : Quiet (tells_volume a ∷ watches kinds.PersistentVolume [] ∷ []) → ⊥
  pub not_after_an_event : Quiet (watches kinds.PersistentVolume (change ∷ []) ∷ []) → ⊥
  pub not_where_the_answer_was_lost : Quiet (unheard (watches kinds.PersistentVolume []) ∷ []) → ⊥
  pub a_lost_answer_brings_none : Quiet (unheard (watches kinds.PersistentVolume (change ∷ [])) ∷ watches kinds.PersistentVolume [] ∷ [])
  pub other_kinds_bring_none : Quiet (tells_claim c ∷ watches kinds.PersistentVolume [] ∷ [])
  pub not_by_another_kind : Quiet (watches kinds.PersistentVolumeClaim [] ∷ []) → ⊥

-- a pass that has one kind behind it, and had no event
abbrev pub under_way : Pass
under_way = record { behind = 1; event = false }

pub record PassExamples : Type 0 where
  pub goes_on : pass_after under_way true (requests.Watch kinds.PersistentVolumeClaim 3) (replies.Events (record { events = []; upto = 3 })) ≡ record { behind = 2; event = false }
  pub has_an_event : pass_after under_way true (requests.Watch kinds.PersistentVolumeClaim 3)
      (replies.Events (record { events = change ∷ []; upto = 3 })) ≡ record { behind = 2; event = true }
  pub waits_where_it_is_gone : pass_after under_way true (requests.Watch kinds.PersistentVolumeClaim 3) (replies.Refused (refusals.Gone 9)) ≡ record { behind = 1; event = true }
  pub lists_do_not_count : pass_after under_way false (requests.List kinds.PersistentVolumeClaim None) (replies.Listed [] 3) ≡ under_way
