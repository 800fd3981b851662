-- What a seat of a node agent must have been told, computed.
use Rattle.std.proofs.Common.{refl, sym, inl, inr, true≢false}
use Rattle.std.specs.Prelude.{ℕ, ◌==◌, List, [], ◌∷◌, Bool, Option, bytes_eq, codes, unwrap_or}
use Rattle.call_types.specs.declared.request.SeatKind.TheVariants as seats
use Rattle.node_agent.specs.declared.step.AgentStep.TheVariants as steps
use Rattle.node_agent.specs.Evidence.{MayReadForPod}
use Rattle.model_examples.specs.Samples.{entry_of, node_1, p, seat_of, takes, tells_pod}
use Rattle.model_examples.proofs.Tellings.{differ, neither}
use Rattle.model_laws.proofs.Lists.{none_some}
use Rattle.machine_examples.specs.Guard.AgentEvidences.{AgentEvidenceExamples}
use Rattle.machine_examples.specs.Guard.AgentMoves.{on_p}

standing : MayReadForPod (on_p steps.Done) (seat_of seats.Agent (tells_pod p ∷ takes node_1 1 ∷ []))
standing = record {
  current = refl;
  recent = [];
  teller = entry_of seats.Agent (tells_pod p);
  earlier = [];
  since = refl;
  listed = inl (refl, refl);
  told = (refl, inl refl);
  on_node = record { same = refl; placed = refl; scheduled = refl };
  newest = refl;
  staying = refl;
  ready = tt;
  unfinished = refl;
}

is_d : Option (List ℕ) → Bool
is_d name = bytes_eq (unwrap_or name []) (codes "d")

is_epoch : ℕ → Option ℕ → Bool
is_epoch n epoch = unwrap_or epoch 0 == n

pub agent_evidence_examples : AgentEvidenceExamples
unfolding is_d is_epoch
agent_evidence_examples = record {
  reads_for_a_pod_that_was_told = record { pod = standing; next = record { place = refl; unread = refl } };
  not_for_a_claim_that_it_does_not_name = λ h. differ is_d (sym h.next.place) refl refl;
  not_for_a_leaving_pod = λ h. true≢false h.pod.staying;
  not_before_each_claim_was_counted = λ h. none_some (sym h.whole);
  unmounts_a_leaving_pod = record { current = refl; told = inl (refl, inl (record { same = refl; placed = refl; scheduled = refl; deleting = refl })) };
  not_by_an_older_epoch = λ h. differ (is_epoch 3) h.current refl refl;
  finishes_after_mounts_without_it = record {
    ending = record
        { current = refl; told = inr (inl (refl, inl (record { same = refl; placed = refl; scheduled = refl; deleting = refl }))) };
    unmounted = refl;
  };
  not_before_the_mounts_were_told = λ h. true≢false (sym h.unmounted);
  not_where_they_have_it = λ h. true≢false (sym h.unmounted);
  started_by_a_list = (λ e. inl (refl, refl), refl);
  started_by_a_list_before_a_watch = (λ e. inr (inl (refl, refl)), (λ e. inl (refl, refl), refl));
  watch_without_a_list_is_no_start = λ h. neither (λ x. true≢false (sym x.1)) (λ x. x) (h.0 refl);
  list_before_the_node_was_taken_is_no_start = λ h. true≢false h;
  node_was_taken_first = record { untold = refl; unlisted = λ h. neither (λ x. true≢false (sym x.1)) (λ x. x) h };
  list_without_pods_came_first = λ h. h.unlisted (inr (inl (refl, refl)));
}
