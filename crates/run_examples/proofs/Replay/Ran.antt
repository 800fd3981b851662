-- The examples of queues and of calls that are held back compute.
use Rattle.std.proofs.Common.{◌≡◌, List, [], ◌∷◌, ◌++◌, length, true≢false, refl, arith}
use Rattle.call_types.specs.declared.entry.Entry.{Entry}
use Rattle.actor_rounds.specs.Rounds.{IsHeld, IsSpent}
use Rattle.actor_rounds.proofs.RunFacts.{run_longer}
use Rattle.run_examples.specs.Replay.Runs.{HeldExamples, QueueExamples, giving_scheduler, list_volumes}
use Rattle.run_examples.proofs.Replay.Scheduled.{gives_list, ready_where}

pub queue_cases : QueueExamples
queue_cases = record {
  nothing_queued = record { once = tt; taken = refl };
  one_waits_and_one_is_parked = record { once = (refl, (refl, tt)); taken = refl };
  none_waits_twice = λ q. true≢false (q.once).0;
  none_waits_and_is_parked = λ q. true≢false (q.once).0;
  none_is_taken_with_nothing_under_way = λ q. let e = q.taken in absurd (cc);
}

no_entry : (xs : List Entry) → [] ≡ xs ++ [] → length xs ≡ 0
no_entry [] is = refl
no_entry (x ∷ xs) is = absurd (cc)

pub held_cases : HeldExamples
held_cases = record {
  a_held_call_counts_and_leaves_no_entry = IsHeld giving_scheduler _ list_volumes (omega arith) (ready_where 7 [] refl) gives_list refl refl (IsSpent refl refl refl refl refl);
  none_is_held_where_all_pass = λ after runs.
      let l = run_longer _ _ _ _ _ _ _ _ runs in
      let none = no_entry l.added l.are in
      let count = l.count in
      absurd (omega (arith, none, count));
}
