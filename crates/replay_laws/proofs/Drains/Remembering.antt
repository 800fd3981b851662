-- What the actors of a drain remember is what the entries of their seats tell: also after a round that was not whole.
use Rattle.std.proofs.Common.{◌≡◌, ◌∙◌, ℕ, ◌-◌, zero, suc, List, [], ◌∷◌, Bool, Some, inl, inr, refl, sym, ap, subst}
use Rattle.std.specs.Prelude.{slice_get}
use Rattle.call_types.specs.declared.entry.Entry.{Entry}
use Rattle.binder_model.specs.Told.{own}
use Rattle.model_laws.proofs.Evidence.{own_mine}
use Rattle.model_laws.proofs.Lists.{none_some, one}
use Rattle.worker_core.specs.declared.turn.Next.TheVariants.{Call, Idle}
use Rattle.worker_core.specs.declared.turn.Outcome.TheVariants.{Lost, Told}
use Rattle.worker_core.specs.Absorbs.{woken}
use Rattle.worker_core.specs.Memories.{memory_after, memory_of}
use Rattle.worker_core.specs.States.{ActorState}
use Rattle.actor_rounds.specs.declared.drainers.Drainer.{Drainer}
use Rattle.actor_rounds.specs.Drainers.{seats_of}
use Rattle.actor_rounds.specs.Longer.{HasGrown, IsOneOf}
use Rattle.actor_rounds.specs.Rounds.{Asks, Ends, IsHeld, IsIdle, IsRound, IsSpent, Lets, Runs, Turns, told_entry}
use Rattle.actor_rounds.proofs.Entries.{grown_others}
use Rattle.actor_rounds.proofs.RoundFacts.{one_of_seats, round_grows}
use Rattle.actor_rounds.proofs.RunFacts.{run_grows, still_role, turn_memory}
use Rattle.worker_core.proofs.Answered.{turn_role}
use Rattle.settle_progress.proofs.Epochs.Awake.{lost_memory, told_memory}
use Rattle.replay_laws.proofs.Drains.Apart.{Apart}

-- the actor remembers what these entries tell
abbrev pub Remembers : ActorState → List Entry → Type 0
Remembers s mine = s.memory ≡ memory_of s.role mine

-- each remembers what the entries of its seat tell
abbrev pub Remember : List Drainer → List Entry → Type 0
Remember ds past = (place : ℕ) (d : Drainer) → slice_get ds place ≡ Some d → Remembers d.actor (own d.seat past)

module _ (lets : Lets) (seat : ℕ) (after : ActorState) (past : List Entry) (left : ℕ) (idle : Bool) where
  run_remembers : (s : ActorState) (h : List Entry) (b : ℕ) → Runs lets seat after past left idle s h b → Remembers s (own seat h) → Remembers after (own seat past)
  run_remembers s h b (IsSpent none state entries rest busy) same =
      subst (λ (x : ActorState). Remembers x (own seat past)) (sym state) (subst (λ es. Remembers s (own seat es)) (sym entries) same)
  run_remembers s h b (IsIdle some ready turn entries rest calm) same =
      subst (λ es. Remembers after (own seat es)) (sym entries) (turn_memory s after Idle turn ∙ (same ∙ ap (λ r. memory_of r (own seat h)) (sym (turn_role s after Idle turn))))
  run_remembers s h b (Asks given next request reply some ready turn passes absorbs more) same = run_remembers next (told_entry seat given request reply ∷ h) (b - 1) more told
    where
      mine : List Entry
      mine = own seat h

      role : next.role ≡ s.role
      role = still_role s given next (Call request) request (Told reply) turn absorbs

      told : Remembers next (own seat (told_entry seat given request reply ∷ h))
      told =
          ap (λ (x : ActorState). x.memory) absorbs
          ∙ (told_memory given next.caches request reply
          ∙ (ap (λ m. memory_after given.role request reply m) (turn_memory s given (Call request) turn ∙ same)
          ∙ (ap (λ r. memory_after r request reply (memory_of s.role mine)) (turn_role s given (Call request) turn)
          ∙ (ap (λ r. memory_after r request reply (memory_of r mine)) (sym role)
          ∙ ap (λ es. memory_of next.role es) (sym (own_mine (told_entry seat given request reply) h seat refl))))))
  run_remembers s h b (IsHeld given next request some ready turn held absorbs more) same = run_remembers next h (b - 1) more told
    where
      told : Remembers next (own seat h)
      told =
          ap (λ (x : ActorState). x.memory) absorbs
          ∙ (lost_memory given next.caches request
          ∙ (turn_memory s given (Call request) turn
          ∙ (same
          ∙ ap (λ r. memory_of r (own seat h)) (sym (still_role s given next (Call request) request Lost turn absorbs)))))

module _ (lets : Lets) (past : List Entry) (left : ℕ) where
  pub round_remembers : (ds : List Drainer) (h : List Entry) (b : ℕ) (after : List Drainer) (whole : Bool)
      → IsRound lets past left ds h b after whole → Apart (seats_of ds) → Remember ds h → Remember after past
  round_remembers _ h b _ _ (Ends entries rest) apart same place x there = none_some there
  round_remembers _ h b _ _ (Turns {ds = ds} {after = after} {whole = whole} d ran middle rest idle seat run more) apart same zero x there =
      subst (λ (y : Drainer). Remembers y.actor (own y.seat past)) (one ran x there) (subst (λ n. Remembers ran.actor (own n past)) (sym seat) at_end)
    where
      grown : HasGrown (seats_of ds) middle past
      grown = let g = round_grows lets past left ds middle rest after whole more in record { made = g.made; longer = g.longer }

      at_end : Remembers ran.actor (own d.seat past)
      at_end = subst (Remembers ran.actor) (sym (grown_others (seats_of ds) middle past grown d.seat apart.0))
          (run_remembers lets d.seat ran.actor middle rest idle (woken d.actor) h b run (same 0 d refl))
  round_remembers _ h b _ _ (Turns {ds = ds} {after = after} {whole = whole} d ran middle rest idle seat run more) apart same (suc place) x there =
      round_remembers ds middle rest after whole more apart.1 others place x there
    where
      slot : HasGrown (d.seat ∷ []) h middle
      slot = let g = run_grows lets d.seat ran.actor middle rest idle (woken d.actor) h b run in record { made = g.made; longer = g.longer }

      others : Remember ds middle
      others i y at = subst (Remembers y.actor) (sym (grown_others (d.seat ∷ []) h middle slot y.seat not_first)) (same (suc i) y at)
        where
          not_first : IsOneOf (d.seat ∷ []) y.seat → ⊥
          not_first (inl is) = apart.0 (subst (IsOneOf (seats_of ds)) (sym is) (one_of_seats ds i y at y.seat (inl refl)))
          not_first (inr none) = absurd none
