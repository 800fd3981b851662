-- The examples of whole runs compute.
use Rattle.std.proofs.Common.{◌≡◌, ◌⊎◌, ℕ, ◌≤◌, ◌<◌, List, [], ◌∷◌, ◌++◌, length, None, inl, inr, refl, sym, ◌∙◌, ap, subst, arith}
use Rattle.std.specs.Prelude.{codes}
use Rattle.call_types.specs.declared.entry.Entry.{Entry}
use Rattle.binder_model.specs.Answers.{after, list, outcome}
use Rattle.binder_model.specs.Devices.{device_answer}
use Rattle.binder_model.specs.Due.{IsSettled}
use Rattle.binder_model.specs.Told.{own}
use Rattle.binder_model.specs.World.{effect, on_devices, world, world_after}
use Rattle.world_core.specs.declared.drained.Drained.{Drained}
use Rattle.actor_rounds.specs.Drainers.{seats_for, seats_of}
use Rattle.actor_rounds.specs.Longer.{AreToldOf, IsLonger, IsOneOf}
use Rattle.actor_rounds.proofs.Entries.{grown_others}
use Rattle.actor_rounds.specs.Rounds.{NothingDue, all_pass}
use Rattle.actor_rounds.proofs.NewFacts.{new_seats_for, new_stand}
use Rattle.script_runs.specs.Budget.{raised}
use Rattle.script_runs.specs.Drains.{DrainComesTo}
use Rattle.script_runs.specs.Examples.{scheduler_1}
use Rattle.script_runs.proofs.Draining.{drains_come_to}
use Rattle.script_runs.proofs.Staging.{after_first}
use Rattle.script_threads.specs.Runs.{progress_after}
use Rattle.run_examples.specs.Threads.Runs.{IsSmallRun, RunExamples, both, with_scheduler}
use Rattle.run_examples.specs.Threads.Works.{small}
use Rattle.script_threads.proofs.Computed.{none_of_it}
use Rattle.run_examples.proofs.Threads.Drainers.{drainers, drainers_new}
use Rattle.run_examples.proofs.Threads.Users.{both_worked}

-- ---- a run whose drain has nothing to do

nothing_due : IsSettled small.setup (world small.setup both)
unfolding world_after effect on_devices device_answer outcome list after
nothing_due key o there = absurd (cc)

budget_is : 2048 ≡ raised None small.setup both 0
unfolding world_after effect on_devices device_answer outcome list after
budget_is = refl

abbrev one_node : List (List ℕ)
one_node = codes "n1" ∷ []

-- ---- what a drain leaves as it was

came : (past : List Entry) (ending : Drained) → (r : IsSmallRun past ending) → DrainComesTo small (progress_after r.worked None r.drainers) r.end
came past ending r = drains_come_to all_pass small None (progress_after r.worked None r.drainers) r.end r.last

its_seats : (past : List Entry) (ending : Drained) → (r : IsSmallRun past ending) → seats_of r.drainers ≡ seats_for 11 one_node
its_seats past ending r = new_seats_for 11 one_node r.drainers r.new

-- no seat past the actors' has an entry but those of the drain
none_beside : (past : List Entry) (ending : Drained) (seat : ℕ) → (seat ≡ 0) ⊎ (11 ≤ seat) → (IsOneOf (seats_for 11 one_node) seat → ⊥) → IsSmallRun past ending → own seat past ≡ []
none_beside past ending seat out not r =
    let grown = (came past ending r).entries in
    let longer = subst (λ ss. IsLonger ss grown.made r.worked r.end.past) (its_seats past ending r) grown.longer in
    ap (own seat) r.history ∙ grown_others (seats_for 11 one_node) r.worked r.end.past (record { made = grown.made; longer = longer }) seat not ∙ r.work.others seat out

not_before : (seat : ℕ) → seat < 11 → IsOneOf (seats_for 11 one_node) seat → ⊥
not_before seat low one = let high = after_first 11 one_node seat one in absurd (omega (arith, low, high))

not_after : (seat : ℕ) → 16 < seat → IsOneOf (seats_for 11 one_node) seat → ⊥
not_after seat high (inl e) = absurd (omega (arith, high, e))
not_after seat high (inr (inl e)) = absurd (omega (arith, high, e))
not_after seat high (inr (inr (inl e))) = absurd (omega (arith, high, e))
not_after seat high (inr (inr (inr (inl e)))) = absurd (omega (arith, high, e))
not_after seat high (inr (inr (inr (inr (inl e))))) = absurd (omega (arith, high, e))
not_after seat high (inr (inr (inr (inr (inr (inl e)))))) = absurd (omega (arith, high, e))
not_after seat high (inr (inr (inr (inr (inr (inr e)))))) = e

-- ---- where nothing is due the drain has no entry

abbrev rest_of : List Entry → List Entry
rest_of [] = []
rest_of (e ∷ es) = es

abbrev head_seat : List Entry → ℕ
head_seat [] = 0
head_seat (e ∷ es) = e.seat

-- a drain's entry before those of the users: the threads left just the users'
users_before : (added worked : List Entry) → with_scheduler 13 ≡ added ++ worked → own 13 worked ≡ [] → AreToldOf (seats_for 11 one_node) added → worked ≡ both
users_before [] worked is none told = let there : own 13 (with_scheduler 13) ≡ [] = ap (own 13) is ∙ none in absurd (cc)
users_before (x ∷ []) worked is none told = sym (ap rest_of is)
users_before (x ∷ y ∷ added) worked is none told =
    let user : 2 ≡ y.seat = ap (λ es. head_seat (rest_of es)) is in
    absurd (not_before y.seat (omega (arith, user)) told.2.0)

no_call : (ending : Drained) → IsSmallRun (with_scheduler 13) ending → ⊥
no_call ending r =
    let comes = came (with_scheduler 13) ending r in
    let longer = comes.entries.longer in
    let worked : r.worked ≡ both = users_before longer.added r.worked (r.history ∙ longer.are) (r.work.others 13 (inr (omega arith)))
    (subst (λ ss. AreToldOf ss longer.added) (its_seats (with_scheduler 13) ending r) longer.of_seats) in
    let same : with_scheduler 13 ≡ both = r.history ∙ comes.none (subst (λ h. IsSettled small.setup (world small.setup h)) (sym worked) nothing_due) ∙ worked in
    let long : 3 ≡ 2 = ap length same in
    absurd (omega (arith, long))

pub run_cases : RunExamples
run_cases = record {
  nothing_is_due_after_the_users = record {
    worked = both;
    work = both_worked;
    drainers = drainers 11 (codes "n1");
    new = drainers_new 11 (codes "n1");
    end = record (progress_after both None (drainers 11 (codes "n1"))) { budget = 2048 };
    last = record {
      past = both;
      made = 0;
      budget = 2048;
      ran = drainers 11 (codes "n1");
      raises = budget_is;
      stand = new_stand 11 one_node (drainers 11 (codes "n1")) (drainers_new 11 (codes "n1")) both (refl, (refl, (refl, (refl, (refl, (refl, tt))))));
      few = omega arith;
      rounds = NothingDue nothing_due refl refl refl;
      is = refl;
    };
    history = refl;
    ends = (refl, nothing_due);
    done = both_worked.done;
  };
  not_without_a_users_line = λ ending r. let lines = r.done.users 2 (omega arith) (omega arith) in absurd (cc);
  no_call_where_nothing_is_due = no_call;
  no_drain_at_an_actors_seat = λ ending r. let none = none_of_it (with_scheduler 7) scheduler_1 _ 7 (omega arith) (omega arith) r.done.actors.1.1.0 in absurd (cc);
  none_after_those_of_more_workers = λ ending r. let none = none_beside (with_scheduler 19) ending 19 (inr (omega arith)) (not_after 19 (omega arith)) r in absurd (cc);
  none_at_no_seat = λ ending r. let none = none_beside (with_scheduler 0) ending 0 (inl refl) (not_before 0 (omega arith)) r in absurd (cc);
}
