-- The examples compute.
use Rattle.std.proofs.Common.{◌≡◌, ◌⊎◌, ℕ, zero, suc, ◌+◌, ◌<◌, ◌≤◌, Bool, List, [], ◌∷◌, None, inl, inr, refl, sym, ◌∙◌, ap, ne_eqb, arith}
use Rattle.kube_parts.specs.declared.parts.Kind.TheVariants.{Node, Pod}
use Rattle.call_types.specs.declared.entry.Entry.{Entry}
use Rattle.call_types.specs.declared.request.Request.{Request}
use Rattle.call_types.specs.declared.request.Request.TheVariants as requests
use Rattle.call_types.specs.declared.request.SeatKind.{SeatKind}
use Rattle.binder_model.specs.Told.{own}
use Rattle.attention_law.specs.Begun.{begun_as}
use Rattle.attention_law.specs.Resting.{Starts}
use Rattle.attention_law.proofs.Begun.{begun_new, begun_stands}
use Rattle.actor_rounds.specs.Rounds.{all_pass}
use Rattle.script_lines.specs.declared.actors.Actor.{Actor}
use Rattle.actor_turns.specs.declared.part.Part.{Part}
use Rattle.actor_turns.specs.Calls.{AreCalls, MoreCalls, NoCalls}
use Rattle.actor_turns.specs.Parts.{lives_of}
use Rattle.shared_work.specs.Lines.{AreOfLines}
use Rattle.script_lines.specs.declared.actors.WorkerKind.TheVariants as workers
use Rattle.script_lines.specs.declared.actors.WorkerNumber.TheVariants.{One}
use Rattle.actor_work.specs.Work.Working.{HasWorked}
use Rattle.script_runs.specs.Examples.{binder_1, claims_1, ops_1, scheduler_1, worker}
use Rattle.script_threads.specs.Examples.{StartedExamples, WorkExamples, asks, two_lines}
use Rattle.script_runs.specs.Parts.{role_of}
use Rattle.script_threads.specs.Started.{started_part}
use Rattle.script_threads.specs.Threads.{HasMadeCalls}

pub started : StartedExamples
started = record {
  one_of_each = refl;
  kind_by_kind = refl;
  without_a_turn_too = refl;
  a_life_more_for_each_restart = refl;
  the_lost_calls = refl;
  the_kind = refl;
  restarts_of_others_count_not = refl;
  not_those_of_the_third = λ e. absurd (omega (arith, e));
  of_all_that_are_started = refl;
  a_seat_for_each_agent = refl;
}

-- ---- actors that make no calls

pub no_calls : (past : List Entry) (actor : Actor) (part : Part) → ((seat : ℕ) → part.first ≤ seat → own seat past ≡ []) → HasMadeCalls 0 past actor part
no_calls past actor part none = record {
  made = 0;
  mine = [];
  calls_are = NoCalls refl refl;
  own_are = λ seat life. none seat life.0;
  order = λ earlier later low lt high. record { late = []; early = past; is = refl; all = refl; none = none later (omega (arith, low, lt)) };
  whole = inl refl;
  lives = λ seat life. record {
    before = [];
    life = record {
      since = [];
      are = record { of_seat = sym (none seat life.0); left = refl };
      state = begun_as (role_of actor);
      played = Starts refl refl (begun_new (role_of actor)) (begun_stands (role_of actor));
    };
  };
}

-- it has no entry
made_none : (new past : List Entry) (part : Part) (n count : ℕ) → count ≡ 0 → AreCalls all_pass [] part new n count past → new ≡ past
made_none new past part n count none (NoCalls c is) = is
made_none new past part n count none (MoreCalls rest middle c call calls) = absurd (omega (arith, none, c))

pub none_of_it : (past : List Entry) (actor : Actor) (part : Part) (seat : ℕ) → part.first ≤ seat → seat < part.first + lives_of part → HasMadeCalls 0 past actor part → own seat past ≡ []
none_of_it past actor part seat low high did = did.own_are seat (low, high) ∙ ap (own seat) (made_none did.mine [] part 1 did.made (by did.whole) did.calls_are)
  where
    by : {P : Type 0} → (did.made ≡ 0) ⊎ ((did.made < 0) × P) → did.made ≡ 0
    by (inl all) = all
    by (inr fewer) = let few = fewer.0 in absurd (omega (arith, few))

-- ---- a user's lines

abbrev first_request : List (ℕ × SeatKind × Request × Bool) → Request
first_request [] = requests.List Pod None
first_request (c ∷ calls) = c.2

beside : (seat : ℕ) → (seat ≡ 0) ⊎ (2 ≤ seat) → own seat (asks 1 Node ∷ asks 1 Pod ∷ []) ≡ []
beside seat (inl is) = rw (ne_eqb 1 seat (λ e. absurd (omega (arith, is, e)))) refl
beside seat (inr low) = rw (ne_eqb 1 seat (λ e. absurd (omega (arith, low, e)))) refl

of_users : (user : ℕ) → 0 < user → user < 5 → AreOfLines user two_lines.lines (own user (asks 1 Node ∷ asks 1 Pod ∷ []))
of_users zero some few = absurd (omega (arith, some))
of_users (suc zero) some few = refl
of_users (suc (suc zero)) some few = refl
of_users (suc (suc (suc zero))) some few = refl
of_users (suc (suc (suc (suc zero)))) some few = refl
of_users (suc (suc (suc (suc (suc n))))) some few = absurd (omega (arith, few))

idle : (actor : Actor) (first : ℕ) → 2 ≤ first → HasMadeCalls 0 (asks 1 Node ∷ asks 1 Pod ∷ []) actor (started_part two_lines.lines actor first)
idle actor first high = no_calls (asks 1 Node ∷ asks 1 Pod ∷ []) actor (started_part two_lines.lines actor first) (λ seat low. beside seat (inr (omega (arith, high, low))))

-- a first call that is told leaves an entry
made_one : (new : List Entry) (count : ℕ) → count ≡ 1 → AreCalls all_pass [] (started_part [] binder_1 5) new 1 count [] → own 5 new ≡ [] → ⊥
made_one new count one (NoCalls c is) none = absurd (omega (arith, one, c))
made_one new count one (MoreCalls rest middle c call calls) none =
    let last : new ≡ middle = made_none new middle (started_part [] binder_1 5) 2 rest (omega (arith, one, c)) calls in
    let there = ap (own 5) (last ∙ call.is) in
    absurd cc

pub work : WorkExamples
work = record {
  in_order = record {
    done = record {
      users = of_users;
      actors = (
        idle binder_1 5 (omega arith),
        (idle ops_1 6 (omega arith), (idle scheduler_1 7 (omega arith), (idle claims_1 8 (omega arith), (idle (worker workers.Volumes One) 9 (omega arith), tt)))),
      );
    };
    others = λ seat out. beside seat (high seat out);
  };
  in_no_other = λ h. let lines = h.done.users 1 (omega arith) (omega arith) in let r = ap first_request lines in absurd (cc);
  no_line_twice = λ h. let lines = h.done.users 1 (omega arith) (omega arith) in absurd (cc);
  none_left_out = λ h. let lines = h.done.users 1 (omega arith) (omega arith) in absurd (cc);
  no_actor_without_its_calls = λ h. let did = h.done.actors.0 in unmade did did.whole;
  no_actor_with_more = λ h. let none = none_of_it _ binder_1 _ 5 (omega arith) (omega arith) h.done.actors.0 in absurd (cc);
  no_seat_past_them = λ h. let none = h.others 10 (inr (omega arith)) in absurd (cc);
  no_seat_before_them = λ h. let none = h.others 0 (inl refl) in absurd (cc);
}
  where
    unmade : (did : HasMadeCalls 1 [] binder_1 (started_part [] binder_1 5)) → HasWorked (started_part [] binder_1 5) 1 did.made [] → ⊥
    unmade did (inl all) = made_one did.mine did.made all did.calls_are (sym (did.own_are 5 (omega arith, omega arith)))
    unmade did (inr fewer) = absurd cc

    high : (seat : ℕ) → (seat ≡ 0) ⊎ (10 ≤ seat) → (seat ≡ 0) ⊎ (2 ≤ seat)
    high seat (inl is) = inl is
    high seat (inr low) = inr (omega (arith, low))
