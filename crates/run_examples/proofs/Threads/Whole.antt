-- The examples of an agent that is stale, and of all that take part, compute.
use Rattle.std.proofs.Common.{◌≡◌, ◌⊎◌, ℕ, zero, suc, ◌<◌, ◌≤◌, List, [], ◌∷◌, ◌++◌, length, Some, None, inl, inr, refl, sym, ◌∙◌, ap, subst, arith, ne_eqb}
use Rattle.std.specs.Prelude.{codes}
use Rattle.kube_parts.specs.declared.parts.Kind.TheVariants.{Node, Pod}
use Rattle.call_types.specs.declared.entry.Entry.{Entry}
use Rattle.call_types.specs.declared.request.SeatKind.{SeatKind}
use Rattle.call_types.specs.declared.request.SeatKind.TheVariants as seats
use Rattle.binder_model.specs.Told.{own}
use Rattle.attention_law.specs.Diligence.{Call, entries}
use Rattle.attention_law.specs.Resting.{IsPlayedSince, IsSilentOnceStale, WasToldStale}
use Rattle.worker_core.specs.States.{ActorState}
use Rattle.actor_turns.specs.Lives.{WasPlayed}
use Rattle.actor_turns.proofs.Diligent.{played_lives_are_needed}
use Rattle.actor_rounds.specs.Rounds.{all_pass}
use Rattle.script_lines.specs.declared.actors.Actor.{Actor}
use Rattle.script_lines.specs.declared.actors.WorkerKind.TheVariants as workers
use Rattle.script_lines.specs.declared.actors.WorkerNumber.TheVariants.{One}
use Rattle.actor_turns.specs.declared.part.Part.{Part}
use Rattle.actor_turns.specs.Calls.{AreOfLife, IsCall, MoreCalls, NoCalls}
use Rattle.actor_turns.specs.Parts.{lives_of}
use Rattle.actor_work.specs.Work.Working.{HasWorked}
use Rattle.shared_work.specs.Lines.{AreOfLines}
use Rattle.script_runs.specs.Examples.{agent_of, binder_1, claims_1, ops_1, scheduler_1, worker}
use Rattle.script_runs.specs.Parts.{role_of}
use Rattle.script_threads.specs.Examples.{asks, entry}
use Rattle.script_threads.specs.Started.{started_part}
use Rattle.script_threads.specs.Threads.{HasMadeCalls}
use Rattle.run_examples.specs.Threads.Calls.{HasServed, StaleExamples, WholeExamples, all_lose, all_worked, listed, others_worked, refused, taken}
use Rattle.run_examples.specs.Threads.Works.{small}
use Rattle.run_examples.proofs.Replay.Played.{agent_lost, binder_lost, claims_lost, ops_lost, scheduler_lost, volumes_lost}
use Rattle.run_examples.proofs.Threads.Calls.{first_call, its_call, one_made}
use Rattle.script_threads.proofs.Computed.{none_of_it}

-- ---- an agent that is stale

abbrev node : Actor
node = agent_of (codes "n1")

abbrev node_part : Part
node_part = started_part [] node 5

first_life : (seat : ℕ) → 5 ≤ seat → seat < 6 → 5 ≡ seat
first_life seat low high = omega (arith, low, high)

fewer : WasPlayed [] (role_of node) node_part 5 2 (refused ∷ taken ∷ []) → HasServed (refused ∷ taken ∷ [])
fewer was = record {
  made = 2;
  mine = refused ∷ taken ∷ [];
  calls_are = MoreCalls {n = 1} {past = []} 1 (taken ∷ []) refl (record { request = _; reply = _; passes = refl; is = refl })
      (MoreCalls {n = 2} {past = taken ∷ []} 0 (refused ∷ taken ∷ []) refl (record { request = _; reply = _; passes = refl; is = refl }) (NoCalls refl refl));
  own_are = λ seat life. refl;
  order = λ earlier later low lt high. absurd (omega (arith, low, lt, high));
  whole = inr (omega arith, (refl, inl (refl, refl)));
  lives = λ seat life. subst (λ s. WasPlayed [] (role_of node) node_part s 2 (refused ∷ taken ∷ [])) (first_life seat life.0 life.1) was;
}

abbrev rest_of : List Entry → List Entry
rest_of [] = []
rest_of (e ∷ es) = es

-- after it was told so there is no entry
not_silent : (kind : SeatKind) (calls : List Call) (e : Entry) (earlier : List Entry) → entries calls ≡ e ∷ earlier → WasToldStale kind earlier → IsSilentOnceStale kind calls → ⊥
not_silent kind [] e earlier are stale silent = absurd (cc)
not_silent kind (None ∷ calls) e earlier are stale silent = not_silent kind calls e earlier are stale silent.0
not_silent kind (Some x ∷ calls) e earlier are stale silent = silent.1 (subst (WasToldStale kind) (sym (ap rest_of are)) stale)

asks_no_more : (e : Entry) → HasServed (e ∷ refused ∷ taken ∷ []) → own 5 (e ∷ refused ∷ taken ∷ []) ≡ e ∷ refused ∷ taken ∷ [] → ⊥
asks_no_more e did mine =
    let was = did.lives 5 (omega arith, omega arith) in
    let life = played_lives_are_needed [] (role_of node) node_part 5 did.made (e ∷ refused ∷ taken ∷ []) was.before was.life in
    not_silent seats.Agent (life.since ++ was.before) e (refused ∷ taken ∷ []) (life.are.of_seat ∙ mine) (refl, inl (refl, refl)) life.silent

pub stale_cases : StaleExamples
stale_cases = record {
  fewer_where_an_agent_is_stale = fewer;
  it_asks_nothing_more = λ did. asks_no_more refused did refl;
  not_even_another_call = λ did. asks_no_more (entry 5 seats.Agent Pod) did refl;
}

-- ---- all that take part

abbrev users_only : List Entry
users_only = asks 1 Pod ∷ asks 2 Node ∷ []

users_asked : (user : ℕ) → 0 < user → user < 5 → AreOfLines user all_lose.lines (own user users_only)
users_asked zero some few = absurd (omega (arith, some))
users_asked (suc zero) some few = refl
users_asked (suc (suc zero)) some few = refl
users_asked (suc (suc (suc zero))) some few = refl
users_asked (suc (suc (suc (suc zero)))) some few = refl
users_asked (suc (suc (suc (suc (suc n))))) some few = absurd (omega (arith, few))

nobody_else : (seat : ℕ) → (seat ≡ 0) ⊎ (11 ≤ seat) → own seat users_only ≡ []
nobody_else seat out = rw (ne_eqb 1 seat (not 1 (omega arith) (omega arith)), ne_eqb 2 seat (not 2 (omega arith) (omega arith))) refl
  where
    by : (n : ℕ) → 0 < n → n < 11 → n ≡ seat → (seat ≡ 0) ⊎ (11 ≤ seat) → ⊥
    by n some few is (inl z) = absurd (omega (arith, some, is, z))
    by n some few is (inr high) = absurd (omega (arith, few, is, high))

    not : (n : ℕ) → 0 < n → n < 11 → n ≡ seat → ⊥
    not n some few is = by n some few is out

-- an actor whose one call was lost before its effect
lost_made : (actor : Actor) (first : ℕ) (s : ActorState) → own first users_only ≡ [] → lives_of (started_part all_lose.lines actor first) ≡ 1
    → IsCall all_pass [] (started_part all_lose.lines actor first) 1 [] [] → AreOfLife [] (started_part all_lose.lines actor first) first 1 users_only (None ∷ [])
    → IsPlayedSince (role_of actor) s [] (None ∷ []) → HasMadeCalls 1 users_only actor (started_part all_lose.lines actor first)
lost_made actor first s none one call are played =
    one_made users_only [] actor (started_part all_lose.lines actor first) None s one (MoreCalls {n = 1} {past = []} 0 [] refl call (NoCalls refl refl)) none are played

-- an agent that has made its call has an entry
served : (past : List Entry) → HasMadeCalls 1 past node (started_part small.lines node 10) → own 10 past ≡ [] → ⊥
served past did none = by did.whole
  where
    by : HasWorked (started_part small.lines node 10) 1 did.made past → ⊥
    by (inr fewer) = stale (subst (WasToldStale seats.Agent) none (subst (λ s. WasToldStale seats.Agent (own s past)) refl fewer.1))
      where
        stale : WasToldStale seats.Agent [] → ⊥
        stale told = told.1
    by (inl all) =
        let call = first_call (started_part small.lines node 10) did.mine 1 did.made [] refl all refl did.calls_are in
        let are = sym none ∙ did.own_are 10 (omega arith, omega arith) ∙ ap (own 10) call.is in
        let long : 0 ≡ 1 = ap length are in
        absurd (omega (arith, long))

abbrev volumes_1 : Actor
volumes_1 = worker workers.Volumes One

pub whole_cases : WholeExamples
whole_cases = record {
  each_has_made_its_call = record {
    done = record {
      users = users_asked;
      actors = (
        lost_made binder_1 5 _ refl refl refl (record { of_seat = refl; left = refl }) binder_lost,
        (
          lost_made ops_1 6 _ refl refl refl (record { of_seat = refl; left = refl }) ops_lost,
          (
            lost_made scheduler_1 7 _ refl refl refl (record { of_seat = refl; left = refl }) scheduler_lost,
            (
              lost_made claims_1 8 _ refl refl refl (record { of_seat = refl; left = refl }) claims_lost,
              (
                lost_made volumes_1 9 _ refl refl refl (record { of_seat = refl; left = refl }) volumes_lost,
                (lost_made node 10 _ refl refl refl (record { of_seat = refl; left = refl }) (agent_lost (codes "n1")), tt),
              ),
            ),
          ),
        ),
      );
    };
    others = nobody_else;
  };
  not_without_the_agents = λ h. served others_worked h.done.actors.1.1.1.1.1.0 refl;
  not_with_the_lost_one = λ h. let did = h.done.actors.0 in let call : did.mine ≡ [] = its_call small.lines (listed ∷ all_worked) did in
      let none : listed ∷ [] ≡ [] = did.own_are 5 (omega arith, omega arith) ∙ ap (own 5) call in absurd (cc);
  not_with_a_users_line_less = λ h. let lines = h.done.users 2 (omega arith) (omega arith) in absurd (cc);
  not_where_none_was_to_be_made = λ h. let none = none_of_it all_worked ops_1 _ 6 (omega arith) (omega arith) h.done.actors.1.0 in absurd (cc);
}
