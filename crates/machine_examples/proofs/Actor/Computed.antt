-- The examples compute.
use Rattle.std.proofs.Common.{refl, ap, true≢false}
use Rattle.std.specs.Prelude.{Bool, true, false, List, [], ◌∷◌}
use Rattle.call_types.specs.declared.reply.Event.{Event}
use Rattle.machine_examples.specs.Actor.Memories.{AgentExamples, SchedulerExamples}
use Rattle.machine_examples.specs.Actor.News.{NewsExamples, PassExamples}

abbrev is_filled : List Event → Bool
is_filled [] = false
is_filled (e ∷ es) = true

pub news : NewsExamples
news = record {
  after_an_empty_watch = refl;
  not_before_any = λ h. h;
  not_after_a_list = λ h. h;
  not_after_an_event = λ h. true≢false (ap is_filled h);
  not_where_the_answer_was_lost = λ h. h;
  a_lost_answer_brings_none = refl;
  other_kinds_bring_none = refl;
  not_by_another_kind = λ h. h;
}

pub passes : PassExamples
passes = record { goes_on = refl; has_an_event = refl; waits_where_it_is_gone = refl; lists_do_not_count = refl }

pub agents : AgentExamples
agents = record {
  nothing_at_first = refl;
  its_epoch = refl;
  not_of_another_node = refl;
  not_where_the_answer_was_lost = refl;
  its_mounts = refl;
  not_of_an_older_epoch = refl;
  a_new_epoch_begins_without = refl;
  stale = refl;
  not_stale_before = refl;
}

pub schedulers : SchedulerExamples
schedulers = record {
  selected_where_the_write_was_done = refl;
  refused_where_it_is_seen_without = refl;
  refused_where_it_is_seen_with_another = refl;
  not_while_it_stands = refl;
  not_by_a_stale_list = refl;
  not_where_no_node_was_written = refl;
  not_where_the_write_was_lost = refl;
  not_where_the_answer_was_lost = refl;
  agent_remembers_none = refl;
}
