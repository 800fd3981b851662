-- Actors of drains that have nothing under way: new ones, and those that a whole round or a drain with calls to spare leaves.
use Rattle.std.proofs.Common.{◌≡◌, ◌∙◌, ℕ, ◌+◌, ◌<◌, zero, suc, List, [], ◌∷◌, Bool, true, false, true≢false, ◌&&◌, None, refl, sym, ap, subst, arith}
use Rattle.std.proofs.lemmas.Bool.{and_parts}
use Rattle.call_types.specs.declared.entry.Entry.{Entry}
use Rattle.call_types.specs.declared.setup.Setup.{Setup}
use Rattle.model_laws.proofs.Lists.{none_some, one}
use Rattle.attention_law.proofs.Turned.{idle_rests}
use Rattle.worker_core.specs.declared.turn.Next.TheVariants.{Idle}
use Rattle.worker_core.specs.Absorbs.{woken}
use Rattle.worker_core.specs.States.{ActorState}
use Rattle.actor_rounds.specs.declared.drainers.Drainer.{Drainer}
use Rattle.actor_rounds.specs.Drainers.{AreAtRest, AreNew, AreNewAgents}
use Rattle.actor_rounds.specs.Rounds.{Asks, Drains, Ends, Goes, IsHeld, IsIdle, IsRound, IsSpent, Lets, NothingDue, Runs, Turns}
use Rattle.actor_rounds.proofs.DrainFacts.{drains_left}
use Rattle.actor_rounds.proofs.RoundFacts.{round_left}
use Rattle.actor_rounds.proofs.RunFacts.{turn_memory}

one_more : (x : Drainer) (ds : List Drainer) → (x.actor.memory.stale ≡ false → x.actor.under ≡ None) → AreAtRest ds → AreAtRest (x ∷ ds)
one_more x ds none rest zero d at fresh = let same = one x d at in ap (λ (y : Drainer). y.actor.under) (sym same) ∙ none (ap (λ (y : Drainer). y.actor.memory.stale) same ∙ fresh)
one_more x ds none rest (suc place) d at fresh = rest place d at fresh

-- ---- new ones

agents_rest : (seat : ℕ) (nodes : List (List ℕ)) (ds : List Drainer) → AreNewAgents seat nodes ds → AreAtRest ds
agents_rest seat [] ds none = subst AreAtRest (sym none) (λ place d at fresh. none_some at)
agents_rest seat (node ∷ nodes) [] none = absurd none
agents_rest seat (node ∷ nodes) (x ∷ ds) new = one_more x ds (λ fresh. new.0.is_new.under) (agents_rest (seat + 1) nodes ds new.1)

pub new_rest : (first : ℕ) (nodes : List (List ℕ)) (ds : List Drainer) → AreNew first nodes ds → AreAtRest ds
new_rest first nodes ds new =
    let agents = agents_rest (first + 5) nodes new.agents new.agents_are in
    let volumes = one_more new.volumes new.agents (λ fresh. new.volumes_is.is_new.under) agents in
    let claims = one_more new.claims (new.volumes ∷ new.agents) (λ fresh. new.claims_is.is_new.under) volumes in
    let binder = one_more new.binder (new.claims ∷ new.volumes ∷ new.agents) (λ fresh. new.binder_is.is_new.under) claims in
    let ops = one_more new.ops (new.binder ∷ new.claims ∷ new.volumes ∷ new.agents) (λ fresh. new.ops_is.is_new.under) binder in
    subst AreAtRest (sym new.are) (one_more new.scheduler (new.ops ∷ new.binder ∷ new.claims ∷ new.volumes ∷ new.agents) (λ fresh. new.scheduler_is.is_new.under) ops)

-- ---- a slot and a round that are whole

module _ (lets : Lets) (seat : ℕ) (after : ActorState) (past : List Entry) (left : ℕ) where
  run_rests : (idle : Bool) (s : ActorState) (h : List Entry) (b : ℕ) → Runs lets seat after past left idle s h b → idle ≡ true → after.memory.stale ≡ false → after.under ≡ None
  run_rests idle s h b (IsSpent none state entries rest busy) is_idle fresh = absurd (true≢false (sym is_idle ∙ busy))
  run_rests idle s h b (IsIdle some ready turn entries rest calm) is_idle fresh = (idle_rests s after turn (ap (λ m. m.stale) (sym (turn_memory s after Idle turn)) ∙ fresh)).none
  run_rests idle s h b (Asks given next request reply some ready turn passes absorbs more) is_idle fresh = run_rests idle _ _ _ more is_idle fresh
  run_rests idle s h b (IsHeld given next request some ready turn held absorbs more) is_idle fresh = run_rests idle _ _ _ more is_idle fresh

  -- one that leaves calls has ended idle
  run_idle : (idle : Bool) (s : ActorState) (h : List Entry) (b : ℕ) → Runs lets seat after past left idle s h b → 0 < left → idle ≡ true
  run_idle idle s h b (IsSpent none state entries rest busy) some = absurd (omega (arith, none, rest, some))
  run_idle idle s h b (IsIdle more ready turn entries rest calm) some = calm
  run_idle idle s h b (Asks given next request reply more ready turn passes absorbs later) some = run_idle idle _ _ _ later some
  run_idle idle s h b (IsHeld given next request more ready turn held absorbs later) some = run_idle idle _ _ _ later some

module _ (lets : Lets) (past : List Entry) (left : ℕ) where
  pub round_rests : (ds : List Drainer) (h : List Entry) (b : ℕ) (after : List Drainer) (whole : Bool) → IsRound lets past left ds h b after whole → whole ≡ true → AreAtRest after
  round_rests _ h b _ _ (Ends entries rest) is_whole = λ place d at fresh. none_some at
  round_rests _ h b _ _ (Turns {ds = ds} {after = after} {whole = whole} x ran middle rest idle seat run more) is_whole =
      let parts = and_parts idle whole is_whole in
      one_more ran after (run_rests lets x.seat ran.actor middle rest idle (woken x.actor) h b run parts.0) (round_rests ds middle rest after whole more parts.1)

  round_whole : (ds : List Drainer) (h : List Entry) (b : ℕ) (after : List Drainer) (whole : Bool) → IsRound lets past left ds h b after whole → 0 < left → whole ≡ true
  round_whole _ h b _ _ (Ends entries rest) some = refl
  round_whole _ h b _ _ (Turns {ds = ds} {after = after} {whole = whole} x ran middle rest idle seat run more) some =
      let low = round_left lets past left ds middle rest after whole more in
      let first : idle ≡ true = run_idle lets x.seat ran.actor middle rest idle (woken x.actor) h b run (omega (arith, low, some)) in
      subst (λ i. (i && whole) ≡ true) (sym first) (round_whole ds middle rest after whole more some)

-- ---- a drain that leaves calls

module _ (lets : Lets) (setup : Setup) (after : List Drainer) (past : List Entry) (left : ℕ) where
  pub drains_rest : (ds : List Drainer) (h : List Entry) (b : ℕ) → Drains lets setup after past left ds h b → 0 < left → AreAtRest ds → AreAtRest after
  drains_rest ds h b (NothingDue settled same entries rest) some at_rest = subst AreAtRest (sym same) at_rest
  drains_rest ds h b (IsSpent first due none same entries rest) some at_rest = absurd (omega (arith, none, rest, some))
  drains_rest ds h b (Goes first due more between middle rest whole round later) some at_rest =
      let low = drains_left lets setup after past left between middle rest later in
      let is_whole = round_whole lets middle rest ds h b between whole round (omega (arith, low, some)) in
      drains_rest between middle rest later some (round_rests lets middle rest ds h b between whole round is_whole)
