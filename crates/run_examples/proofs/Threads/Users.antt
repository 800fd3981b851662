-- The examples of seats and of users compute.
use Rattle.std.proofs.Common.{◌≡◌, ◌⊎◌, ℕ, zero, suc, ◌<◌, ◌≤◌, Bool, true, true≢false, List, [], ◌∷◌, None, inl, inr, refl, sym, ap, ne_eqb, arith}
use Rattle.kube_parts.specs.declared.parts.Kind.TheVariants.{Node, Pod}
use Rattle.call_types.specs.declared.entry.Entry.{Entry}
use Rattle.call_types.specs.declared.request.Request.{Request}
use Rattle.call_types.specs.declared.request.Request.TheVariants as requests
use Rattle.call_types.specs.declared.request.SeatKind.{SeatKind}
use Rattle.call_types.specs.declared.request.SeatKind.TheVariants as seats
use Rattle.binder_model.specs.Told.{own}
use Rattle.script_lines.specs.declared.actors.Actor.{Actor}
use Rattle.actor_turns.specs.declared.loss.Loss.{Loss}
use Rattle.shared_work.specs.Lines.{AreOfLines}
use Rattle.script_lines.specs.declared.actors.WorkerKind.TheVariants as workers
use Rattle.script_lines.specs.declared.actors.WorkerNumber.TheVariants.{One}
use Rattle.script_runs.specs.Examples.{agent_of, binder_1, claims_1, ops_1, scheduler_1, worker}
use Rattle.script_threads.specs.Examples.{asks}
use Rattle.script_threads.specs.Started.{started_part}
use Rattle.script_threads.specs.Threads.{HasMadeCalls, IsThreadedWork}
use Rattle.std.specs.Prelude.{codes}
use Rattle.script_threads.proofs.Computed.{none_of_it}
use Rattle.script_threads.proofs.Computed.{no_calls as none_made}
use Rattle.run_examples.specs.Threads.Works.{SeatExamples, UserExamples, small}

abbrev first_after : List Loss → Bool
first_after [] = true
first_after (l ∷ losses) = l.after

pub seat_cases : SeatExamples
seat_cases = record {
  users_then_kinds_then_agents = (refl, (refl, (refl, (refl, (refl, (refl, (refl, (refl, (refl, (refl, (refl, tt)))))))))));
  the_drain_comes_after_them = refl;
  not_at_the_agents = λ (e : 16 ≡ 15). absurd (omega (arith, e));
  four_of_each = refl;
  one_of_each = refl;
  lines_start_nobody = refl;
  so_its_restart_takes_no_seat = λ (e : 11 ≡ 12). absurd (omega (arith, e));
  where_it_is_started_it_does = refl;
  the_restarted_life_is_its_own = refl;
  the_first_binder_loses_its_first_call = refl;
  not_what_the_second_loses = λ e. absurd (true≢false (sym (ap first_after e)));
}

-- ---- users alone

-- the two calls, in either order

abbrev second_last : List Entry
second_last = asks 2 Node ∷ asks 1 Pod ∷ []

abbrev second_first : List Entry
second_first = asks 1 Pod ∷ asks 2 Node ∷ []

no_other : (seat : ℕ) → (seat ≡ 0) ⊎ (3 ≤ seat) → (own seat second_last ≡ []) × (own seat second_first ≡ [])
no_other seat (inl is) = (
  rw (ne_eqb 2 seat (λ e. absurd (omega (arith, is, e))), ne_eqb 1 seat (λ e. absurd (omega (arith, is, e)))) refl,
  rw
      (ne_eqb 1 seat (λ e. absurd (omega (arith, is, e))), ne_eqb 2 seat (λ e. absurd (omega (arith, is, e)))) refl,
)
no_other seat (inr low) = (
  rw (ne_eqb 2 seat (λ e. absurd (omega (arith, low, e))), ne_eqb 1 seat (λ e. absurd (omega (arith, low, e)))) refl,
  rw
      (ne_eqb 1 seat (λ e. absurd (omega (arith, low, e))), ne_eqb 2 seat (λ e. absurd (omega (arith, low, e)))) refl,
)

of_users : (user : ℕ) → 0 < user → user < 5 → AreOfLines user small.lines (own user second_last) × AreOfLines user small.lines (own user second_first)
of_users zero some few = absurd (omega (arith, some))
of_users (suc zero) some few = (refl, refl)
of_users (suc (suc zero)) some few = (refl, refl)
of_users (suc (suc (suc zero))) some few = (refl, refl)
of_users (suc (suc (suc (suc zero)))) some few = (refl, refl)
of_users (suc (suc (suc (suc (suc n))))) some few = absurd (omega (arith, few))

-- a history in which no seat has an entry but the users'
worked_where : (past : List Entry) → ((user : ℕ) → 0 < user → user < 5 → AreOfLines user small.lines (own user past))
    → ((seat : ℕ) → (seat ≡ 0) ⊎ (3 ≤ seat) → own seat past ≡ []) → IsThreadedWork small 1 0 past
worked_where past users none = record {
  done = record {
    users = users;
    actors = (
      idle binder_1 5 (omega arith),
      (
        idle ops_1 6 (omega arith),
        (idle scheduler_1 7 (omega arith), (idle claims_1 8 (omega arith), (idle (worker workers.Volumes One) 9 (omega arith), (idle (agent_of (codes "n1")) 10 (omega arith), tt)))),
      ),
    );
  };
  others = λ seat out. none seat (high seat out);
}
  where
    idle : (actor : Actor) (first : ℕ) → 3 ≤ first → HasMadeCalls 0 past actor (started_part small.lines actor first)
    idle actor first far = none_made past actor (started_part small.lines actor first) (λ seat low. none seat (inr (omega (arith, far, low))))

    high : (seat : ℕ) → (seat ≡ 0) ⊎ (11 ≤ seat) → (seat ≡ 0) ⊎ (3 ≤ seat)
    high seat (inl is) = inl is
    high seat (inr low) = inr (omega (arith, low))

pub both_worked : IsThreadedWork small 1 0 second_last
both_worked = worked_where second_last (λ user some few. (of_users user some few).0) (λ seat out. (no_other seat out).0)

-- the first call of a list, part by part

abbrev first_kind : List (ℕ × SeatKind × Request × Bool) → SeatKind
first_kind [] = seats.User
first_kind (c ∷ calls) = c.1

abbrev first_request : List (ℕ × SeatKind × Request × Bool) → Request
first_request [] = requests.List Pod None
first_request (c ∷ calls) = c.2

abbrev first_told : List (ℕ × SeatKind × Request × Bool) → Bool
first_told [] = true
first_told (c ∷ calls) = c.3

pub user_cases : UserExamples
user_cases = record {
  one_after_the_other = both_worked;
  the_second_first = worked_where second_first (λ user some few. (of_users user some few).1) (λ seat out. (no_other seat out).1);
  not_the_first_alone = λ h. let lines = h.done.users 2 (omega arith) (omega arith) in absurd (cc);
  not_the_second_alone = λ h. let lines = h.done.users 1 (omega arith) (omega arith) in absurd (cc);
  not_twice = λ h. let lines = h.done.users 2 (omega arith) (omega arith) in absurd (cc);
  not_one_for_the_other = λ h. let lines = h.done.users 1 (omega arith) (omega arith) in let r = ap first_request lines in absurd (cc);
  not_by_a_third = λ h. let lines = h.done.users 2 (omega arith) (omega arith) in absurd (cc);
  not_untold = λ h. let lines = h.done.users 2 (omega arith) (omega arith) in let t = ap first_told lines in absurd (cc);
  not_as_a_controller = λ h. let lines = h.done.users 2 (omega arith) (omega arith) in let k = ap first_kind lines in absurd (cc);
  no_binders_call = λ h. let none = none_of_it _ binder_1 _ 5 (omega arith) (omega arith) h.done.actors.0 in absurd (cc);
  no_agents_call = λ h. let none = none_of_it _ (agent_of (codes "n1")) _ 10 (omega arith) (omega arith) h.done.actors.1.1.1.1.1.0 in absurd (cc);
  no_drains_call = λ h. let none = h.others 11 (inr (omega arith)) in absurd (cc);
  no_call_of_nobody = λ h. let none = h.others 99 (inr (omega arith)) in absurd (cc);
}
