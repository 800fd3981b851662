-- Which nodes stand selected and which were refused, computed.
use Rattle.std.proofs.Common.{Bool, true, false, true≢false, List, [], ◌∷◌, inl, inr, refl, sym, ap}
use Rattle.pod_scheduler.specs.declared.tries.Tried.{Tried}
use Rattle.pod_scheduler.specs.declared.tries.Tries.{Tries}
use Rattle.machine_examples.specs.Schedule.Refusals.{RefusalExamples, SeenExamples}

abbrev is_none_of : List Tried → Bool
is_none_of [] = true
is_none_of (t ∷ ts) = false

abbrev has_none_selected : Tries → Bool
has_none_selected m = is_none_of m.selected

pub refusal_examples : RefusalExamples
refusal_examples = record {
  nothing_was_told = refl;
  done_write_stands_selected = refl;
  refused_write_does_not = refl;
  lost_answer_does_not = refl;
  node_of_another_writer_does_not = refl;
  node_that_was_taken_back_was_refused = refl;
  it_stands_selected_no_more = λ e. true≢false (ap has_none_selected e);
  stale_watch_refuses_nothing = refl;
  stale_watch_is_no_refusal = λ e. true≢false (sym (ap has_none_selected e));
  own_event_refuses_nothing = refl;
  list_refuses_too = refl;
  live_read_refuses_too = refl;
  completed_claim_refuses_nothing = refl;
  claim_that_left_refuses_nothing = refl;
  write_of_another_node_refuses_the_first = refl;
  write_of_the_same_node_refuses_nothing = refl;
  last_refused_comes_first = refl;
}

pub seen_examples : SeenExamples
seen_examples = record {
  claim_without_the_node_refuses = refl;
  older_claim_does_not = refl;
  claim_with_another_node_refuses = refl;
  claim_with_the_node_does_not = refl;
  completed_claim_does_not = refl;
  write_selects = inl (refl, record { claim = refl; node = refl; version = refl });
  refused_write_does_not = λ h. elim h [ inl here ↦ here.1 | inr more ↦ more ];
  refusal_comes_after = inl ((refl, inl (record { claim = refl; refused = refl })), inl (refl, record { claim = refl; node = refl; version = refl }));
  write_alone_refuses_nothing = λ h. elim h [ inl here ↦ here.1 | inr more ↦ more ];
}
