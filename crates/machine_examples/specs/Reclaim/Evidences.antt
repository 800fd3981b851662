-- What a seat was told that lets a machine of the provisioner and reclaimer stand on it, and what does not: the newest exchange stands first.
-- A choice of this project, as the machines are.
use Rattle.std.specs.Prelude.{true, List, [], ◌∷◌, Some, None}
use Rattle.kube_parts.specs.declared.parts.Kind.TheVariants as kinds
use Rattle.kube_objects.specs.declared.objects.Object.TheVariants.{Node, Volume}
use Rattle.call_types.specs.declared.request.SeatKind.TheVariants as seats
use Rattle.call_types.specs.declared.reply.Change.TheVariants as changes
use Rattle.call_types.specs.declared.reply.Reply.TheVariants.{Erased}
use Rattle.reclaim_ops.specs.declared.provision.ProvisionOp.{ProvisionOp}
use Rattle.reclaim_ops.specs.declared.provision.ProvisionStep.TheVariants as provision_steps
use Rattle.reclaim_ops.specs.declared.erase.EraseOp.{EraseOp}
use Rattle.reclaim_ops.specs.declared.erase.EraseStep.TheVariants as erase_steps
use Rattle.reclaim_ops.specs.Decisions.{at_step}
use Rattle.reclaim_ops.specs.Evidence.{EraseKeeps, MayDecide, ProvisionKeeps}
use Rattle.model_examples.specs.OpsRows.{deleting_c, gives, id_1, id_2, moved_class, pool_pair}
use Rattle.model_examples.specs.Reclaiming.{done, erases, exhausted, faults, uid_a}
use Rattle.model_examples.specs.Samples.{
  Exchange,
  c,
  chosen_c,
  ended_a,
  fast,
  finds,
  idle_class,
  id_a,
  key_a,
  late,
  lists,
  n1,
  seat_of,
  still_bound_a,
  tells_claim,
  tells_class,
  tells_node,
  tells_three,
  tells_volume,
  uid_c,
  unheard,
  volume_at,
  watches,
  zone,
}
use Rattle.machine_examples.specs.Reclaim.EraseMoves.{on_a}
use Rattle.machine_examples.specs.Reclaim.ProvisionMoves.{at_once, on_node}

abbrev pub AfterClaims : List Exchange → ProvisionOp → Type 0
AfterClaims xs op = ProvisionKeeps op (seat_of seats.Ops xs)

abbrev pub AfterVolumes : List Exchange → EraseOp → Type 0
AfterVolumes xs op = EraseKeeps op (seat_of seats.Ops xs)

abbrev pub Decides : List Exchange → Type 0
Decides xs = MayDecide (seat_of seats.Ops xs)

pub record ProvisionEvidenceExamples : Type 0 where
  pub asks_by_what_was_told : AfterClaims (tells_three c fast n1) (at_once (provision_steps.Provisions None))
  pub asks_on_the_node_that_was_told : AfterClaims (tells_three chosen_c late n1) (on_node (provision_steps.Provisions (Some zone)))
  pub not_for_a_deleting_claim : AfterClaims (tells_three deleting_c fast n1) (at_step deleting_c uid_c fast (provision_steps.Provisions None)) → ⊥
  pub not_by_a_class_that_provisions_nothing : AfterClaims (tells_three c idle_class n1) (at_step c uid_c idle_class (provision_steps.Provisions None)) → ⊥
  pub not_by_an_older_class : AfterClaims (tells_class moved_class ∷ tells_three c fast n1) (at_once (provision_steps.Provisions None)) → ⊥
  pub not_by_other_labels : AfterClaims (tells_three chosen_c late n1) (on_node (provision_steps.Provisions None)) → ⊥
  pub not_for_a_claim_that_was_not_told : AfterClaims (tells_class fast ∷ []) (at_once (provision_steps.Provisions None)) → ⊥
  pub makes_a_volume_of_what_was_given : AfterClaims (gives uid_c id_1 pool_pair ∷ tells_three c fast n1) (at_once (provision_steps.Creates id_1 pool_pair))
  pub not_before_it_was_given : AfterClaims (tells_three c fast n1) (at_once (provision_steps.Creates id_1 None)) → ⊥
  pub not_of_other_data : AfterClaims (gives uid_c id_1 None ∷ tells_three c fast n1) (at_once (provision_steps.Creates id_2 None)) → ⊥
  pub not_where_the_answer_was_lost : AfterClaims (unheard (gives uid_c id_1 None) ∷ tells_three c fast n1) (at_once (provision_steps.Creates id_1 None)) → ⊥
  pub takes_a_node_back_that_is_exhausted : AfterClaims (exhausted ∷ tells_claim chosen_c ∷ []) (on_node provision_steps.ClearsNode)
  pub takes_a_node_back_that_is_gone : AfterClaims (tells_claim chosen_c ∷ lists kinds.Node [] 9 ∷ []) (on_node provision_steps.ClearsNode)
  pub not_where_nothing_was_told_of_it : AfterClaims (tells_claim chosen_c ∷ []) (on_node provision_steps.ClearsNode) → ⊥
  pub not_where_it_was_not_tried : AfterClaims (tells_claim chosen_c ∷ tells_node n1 ∷ []) (on_node provision_steps.ClearsNode) → ⊥
  pub nodes_were_listed : Decides (tells_claim c ∷ tells_node n1 ∷ [])
  pub nodes_were_listed_without_any : Decides (lists kinds.Node [] 9 ∷ [])
  pub list_of_another_kind_does_not_count : Decides (tells_claim c ∷ []) → ⊥
  pub watch_does_not_count : Decides (watches kinds.Node changes.Added (Node n1) 1 ∷ []) → ⊥
  pub lost_list_does_not_count : Decides (unheard (tells_node n1) ∷ []) → ⊥

pub record EraseEvidenceExamples : Type 0 where
  pub reads_what_was_told_ended : AfterVolumes (tells_volume ended_a ∷ []) (on_a erase_steps.ReadsVolume)
  pub not_where_it_was_told_otherwise_since : AfterVolumes (tells_volume (volume_at 9 still_bound_a) ∷ tells_volume ended_a ∷ []) (on_a erase_steps.ReadsVolume) → ⊥
  pub erases_what_was_found : AfterVolumes (finds key_a (Volume ended_a) ∷ []) (on_a (erase_steps.Erases uid_a))
  pub not_what_a_list_told : AfterVolumes (tells_volume ended_a ∷ []) (on_a (erase_steps.Erases uid_a)) → ⊥
  pub not_where_the_answer_was_lost : AfterVolumes (unheard (finds key_a (Volume ended_a)) ∷ []) (on_a (erase_steps.Erases uid_a)) → ⊥
  pub not_where_it_was_found_otherwise_since : AfterVolumes (finds key_a (Volume still_bound_a) ∷ finds key_a (Volume ended_a) ∷ []) (on_a (erase_steps.Erases uid_a)) → ⊥
  pub deletes_what_was_erased : AfterVolumes (done ∷ finds key_a (Volume ended_a) ∷ []) (on_a (erase_steps.Deletes uid_a))
  pub deletes_what_had_no_data : AfterVolumes (erases id_a (Erased true) ∷ finds key_a (Volume ended_a) ∷ []) (on_a (erase_steps.Deletes uid_a))
  pub not_before_it_was_erased : AfterVolumes (finds key_a (Volume ended_a) ∷ []) (on_a (erase_steps.Deletes uid_a)) → ⊥
  pub not_where_it_was_erased_before : AfterVolumes (finds key_a (Volume ended_a) ∷ done ∷ []) (on_a (erase_steps.Deletes uid_a)) → ⊥
  pub writes_failed_after_the_fault : AfterVolumes (faults ∷ finds key_a (Volume ended_a) ∷ []) (on_a erase_steps.WritesFailed)
  pub not_where_it_was_erased : AfterVolumes (done ∷ finds key_a (Volume ended_a) ∷ []) (on_a erase_steps.WritesFailed) → ⊥
