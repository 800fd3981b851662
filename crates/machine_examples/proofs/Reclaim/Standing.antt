-- What a seat must have been told, computed.
use Rattle.std.proofs.Common.{refl, sym, subst, inl, inr, true≢false}
use Rattle.std.specs.Prelude.{[], ◌∷◌, bytes_eq, codes, unwrap_or}
use Rattle.kube_objects.specs.Bindings.{is_bound}
use Rattle.call_types.specs.declared.request.SeatKind.TheVariants as seats
use Rattle.binder_model.specs.ObjectKeys.{node_key}
use Rattle.binder_model.specs.OpsLicence.{IsToErase}
use Rattle.binder_model.specs.Told.{IsNewestAbsent}
use Rattle.model_examples.specs.Samples.{chosen_c, ended_a, n1, seat_of, tells_claim, tells_node}
use Rattle.model_examples.proofs.Tellings.{differ, has_version, neither}
use Rattle.model_laws.proofs.Lists.{none_some}
use Rattle.machine_examples.specs.Reclaim.Evidences.{EraseEvidenceExamples, ProvisionEvidenceExamples}

pub provision_evidence_examples : ProvisionEvidenceExamples
provision_evidence_examples = record {
  asks_by_what_was_told = record { current = record { known = refl; newest = refl; class_newest = refl }; wanting = refl; real = refl; placed = refl };
  asks_on_the_node_that_was_told = record { current = record { known = refl; newest = refl; class_newest = refl }; wanting = refl; real = refl; placed = (codes "n1", refl, (n1, (refl, refl))) };
  not_for_a_deleting_claim = λ h. true≢false (sym h.wanting);
  not_by_a_class_that_provisions_nothing = λ h. true≢false (sym h.real);
  not_by_an_older_class = λ h. differ (has_version 9) h.current.class_newest refl refl;
  not_by_other_labels = λ h. none_some h.placed.2.1.1;
  not_for_a_claim_that_was_not_told = λ h. none_some h.current.newest;
  makes_a_volume_of_what_was_given = record { current = record { known = refl; newest = refl; class_newest = refl }; given = inl ((refl, (refl, refl, refl)), inl (refl, inl refl)) };
  not_before_it_was_given = λ h. neither (λ x. x.0.1) (neither (λ x. x.0.1) (neither (λ x. x.0.1) (λ x. x))) h.given;
  not_of_other_data = λ h. neither (λ x. differ (λ i. bytes_eq i.id (codes "data-1")) x.0.1.1 refl refl) (neither (λ x. x.0.1) (neither (λ x. x.0.1) (neither (λ x. x.0.1) (λ x. x)))) h.given;
  not_where_the_answer_was_lost = λ h. neither (λ x. true≢false (sym x.0.0)) (neither (λ x. x.0.1) (neither (λ x. x.0.1) (neither (λ x. x.0.1) (λ x. x)))) h.given;
  takes_a_node_back_that_is_exhausted = record {
    known = refl;
    told = inr (inl (refl, inl refl));
    undone = refl;
    node = codes "n1";
    selected = refl;
    why = inl (inl ((refl, refl), inl (refl, inl refl)));
  };
  takes_a_node_back_that_is_gone = record { known = refl; told = inl (refl, inl refl); undone = refl; node = codes "n1"; selected = refl; why = inr refl };
  not_where_nothing_was_told_of_it = λ h. neither (neither (λ x. x.0.1) (λ x. x)) (λ x. x) h.why;
  not_where_it_was_not_tried = λ h. neither (neither (λ x. x.0.1) (neither (λ x. x.0.1) (λ x. x))) (λ x. none_some
      (sym (subst (λ o. IsNewestAbsent (seat_of seats.Ops (tells_claim chosen_c ∷ tells_node n1 ∷ [])) (node_key (unwrap_or o []))) (sym h.selected) x))) h.why;
  nodes_were_listed = record { nodes = inr (inl (refl, refl)) };
  nodes_were_listed_without_any = record { nodes = inl (refl, refl) };
  list_of_another_kind_does_not_count = λ h. neither (λ x. true≢false (sym x.1)) (λ x. x) h.nodes;
  watch_does_not_count = λ h. neither (λ x. x.1) (λ x. x) h.nodes;
  lost_list_does_not_count = λ h. neither (λ x. true≢false (sym x.0)) (λ x. x) h.nodes;
}

to_erase : IsToErase ended_a
to_erase = record { ended = refl; policy = refl; referring = refl; staying = refl }

pub erase_evidence_examples : EraseEvidenceExamples
erase_evidence_examples = record {
  reads_what_was_told_ended = record { newest = refl; ended = to_erase };
  not_where_it_was_told_otherwise_since = λ h. differ (has_version 9) h.newest refl refl;
  erases_what_was_found = record { known = refl; told = inl (refl, inl refl); last = refl; ended = to_erase };
  not_what_a_list_told = λ h. none_some h.last;
  not_where_the_answer_was_lost = λ h. none_some h.last;
  not_where_it_was_found_otherwise_since = λ h. differ (λ o. is_bound (unwrap_or o ended_a).phase) h.last refl refl;
  deletes_what_was_erased = record { known = refl; ended = to_erase; erased = inl ((refl, refl), inl (refl, inl refl)) };
  deletes_what_had_no_data = record { known = refl; ended = to_erase; erased = inl ((refl, refl), inl (refl, inl refl)) };
  not_before_it_was_erased = λ h. neither (λ x. x.0.1) (λ x. x) h.erased;
  not_where_it_was_erased_before = λ h. neither (λ x. x.0.1) (neither (λ x. x.1) (λ x. x)) h.erased;
  writes_failed_after_the_fault = record { told = inr (inl (refl, inl refl)); ended = to_erase; failed = inl ((refl, refl), inl (refl, inl refl)) };
  not_where_it_was_erased = λ h. neither (λ x. x.0.1) (neither (λ x. x.0.1) (λ x. x)) h.failed;
}
