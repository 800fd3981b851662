-- Which keys are due for ops, and when a life of ops is diligent and when it is played: cases that hold, and cases beside them
-- that must not. A choice of this project, as the actors are. The newest call stands first.
use Rattle.std.specs.Prelude.{true, List, [], ◌∷◌, Some, map}
use Rattle.kube_objects.specs.declared.key.Key.{Key}
use Rattle.kube_parts.specs.declared.parts.Kind.{Kind}
use Rattle.kube_parts.specs.declared.parts.Kind.TheVariants as kinds
use Rattle.kube_objects.specs.declared.objects.Volume.{Volume as VolumeData}
use Rattle.call_types.specs.declared.request.Request.TheVariants as requests
use Rattle.call_types.specs.declared.request.SeatKind.TheVariants as seats
use Rattle.call_types.specs.declared.reply.Reply.TheVariants as replies
use Rattle.model_examples.specs.OpsRows.{deleting_c}
use Rattle.model_examples.specs.Samples.{
  Exchange,
  a,
  c,
  chosen_c,
  deleting_a,
  ended_a,
  entry_of,
  fast,
  finds_none,
  heard,
  id_a,
  key_a,
  key_c,
  late,
  released_a,
  seat_of,
  still_bound_a,
  tells_claim,
  tells_class,
  tells_volume,
}
use Rattle.worker_core.specs.declared.role.Role.{Role}
use Rattle.worker_core.specs.States.{ActorState}
use Rattle.worker_core.specs.Stands.{IsNew}
use Rattle.attention_law.specs.Diligence.{Call, IsDiligent, IsKeyDue}
use Rattle.attention_law.specs.Played.{IsPlayed}
use Rattle.attention_law.specs.Showing.{IsDiligentInOrder}

abbrev pub ops : Role
ops = record { kind = seats.Ops; node = [] }

abbrev pub OpsDue : Key → List Exchange → Type 0
OpsDue key xs = IsKeyDue ops key (seat_of seats.Ops xs)

pub record OpsDueExamples : Type 0 where
  pub claim_that_nothing_serves : OpsDue key_c (tells_claim c ∷ tells_class fast ∷ [])
  pub claim_whose_node_is_absent : OpsDue key_c (tells_claim chosen_c ∷ tells_class late ∷ [])
  pub ended_volume : OpsDue key_a (tells_volume ended_a ∷ [])
  pub still_once_it_was_not_found : OpsDue key_a (finds_none key_a ∷ tells_volume ended_a ∷ [])
  pub not_a_claim_that_a_volume_serves : OpsDue key_c (tells_claim c ∷ tells_class fast ∷ tells_volume a ∷ []) → ⊥
  pub not_a_claim_without_its_class : OpsDue key_c (tells_claim c ∷ []) → ⊥
  pub not_a_claim_that_waits_for_its_node : OpsDue key_c (tells_claim c ∷ tells_class late ∷ []) → ⊥
  pub not_a_deleting_claim : OpsDue key_c (tells_claim deleting_c ∷ tells_class fast ∷ []) → ⊥
  pub not_a_volume_to_be_kept : OpsDue key_a (tells_volume released_a ∷ []) → ⊥
  pub not_a_bound_volume : OpsDue key_a (tells_volume still_bound_a ∷ []) → ⊥
  pub not_a_deleting_volume : OpsDue key_a (tells_volume deleting_a ∷ []) → ⊥

-- lives

abbrev pub ops_calls : List Exchange → List Call
ops_calls xs = map (λ x. Some (entry_of seats.Ops x)) xs

-- a watch of the kind without events
abbrev pub watch_of : Kind → Exchange
watch_of kind = heard (requests.Watch kind 9) (replies.Events (record { events = []; upto = 9 }))

-- these were told, and four watches of the kind followed
abbrev pub left_alone : Kind → List Exchange → List Exchange
left_alone kind told = watch_of kind ∷ watch_of kind ∷ watch_of kind ∷ watch_of kind ∷ told

abbrev pub volume_left : VolumeData → List Exchange
volume_left v = left_alone kinds.PersistentVolume (tells_volume v ∷ [])

abbrev pub claim_left : List Exchange
claim_left = left_alone kinds.PersistentVolumeClaim (tells_claim c ∷ tells_class fast ∷ [])

-- the volume was read, and not found, once it was told and then before each watch from the third on
abbrev pub volume_called_for : List Exchange
volume_called_for = let w = watch_of kinds.PersistentVolume in w ∷ finds_none key_a ∷ w ∷ finds_none key_a ∷ w ∷ w ∷ finds_none key_a ∷ tells_volume ended_a ∷ []

pub record OpsLifeExamples : Type 0 where
  pub its_volume_is_read : IsDiligent ops (ops_calls volume_called_for)
  pub nothing_is_due_of_a_volume_to_be_kept : IsDiligent ops (ops_calls (volume_left released_a))
  pub not_where_an_ended_volume_is_left : IsDiligent ops (ops_calls (volume_left ended_a)) → ⊥
  pub nor_in_order : IsDiligentInOrder ops (ops_calls (volume_left ended_a)) → ⊥
  pub not_where_a_claim_is_left : IsDiligent ops (ops_calls claim_left) → ⊥

-- how a life is played

abbrev pub erases_unread : List Exchange
erases_unread = heard (requests.Erase id_a) (replies.Erased true) ∷ tells_volume ended_a ∷ []

pub record OpsPlayedExamples : Type 0 where
  pub a_new_life : (s : ActorState) → IsNew ops s → IsPlayed ops s []
  pub not_with_an_erase_of_what_was_not_read : (s : ActorState) → IsPlayed ops s (ops_calls erases_unread) → ⊥
  pub not_where_an_ended_volume_is_left : (s : ActorState) → IsPlayed ops s (ops_calls (volume_left ended_a)) → ⊥
  pub not_where_a_claim_is_left : (s : ActorState) → IsPlayed ops s (ops_calls claim_left) → ⊥
