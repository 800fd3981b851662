-- An agent is silent only where its node was taken by another, and a round leaves it so.
use Rattle.std.proofs.Common.{◌≡◌, ◌≢◌, ◌∙◌, ◌≤◌, ◌<◌, ◌-◌, ℕ, zero, suc, List, [], ◌∷◌, ◌++◌, Bool, true, false, true≢false, Option, Some, None, inl, inr, refl, sym, ap, subst, arith}
use Rattle.std.specs.Prelude.{◌==◌, ◌||◌, length, slice_get}
use Rattle.std.proofs.lemmas.Bool.Decides.{Decides-eqb}
use Rattle.call_types.specs.declared.entry.Entry.{Entry}
use Rattle.call_types.specs.declared.reply.Reply.{Reply}
use Rattle.call_types.specs.declared.request.Request.{Request}
use Rattle.call_types.specs.declared.setup.Setup.{Setup}
use Rattle.binder_model.specs.AgentLicence.{epoch_told, last_epoch}
use Rattle.binder_model.specs.Promises.{IsRunOf, most_entries}
use Rattle.binder_model.specs.Told.{first_some, own}
use Rattle.binder_model.specs.World.{IsHistory, effect, reply_to, world}
use Rattle.attention_law.proofs.Turned.{calls_fresh}
use Rattle.model_laws.proofs.Evidence.{own_mine}
use Rattle.model_laws.proofs.Growing.{older_parts_are_runs, runs_are_histories}
use Rattle.model_laws.proofs.Lists.{none_some, one}
use Rattle.safety_law.specs.Invariant.Holders.{epoch_now}
use Rattle.safety_law.proofs.Invariant.Holders.{epoch_rises, told_low}
use Rattle.worker_core.specs.declared.role.Role.{Role}
use Rattle.worker_core.specs.declared.turn.Next.TheVariants.{Call, Idle}
use Rattle.worker_core.specs.declared.turn.Outcome.TheVariants.{Lost, Told}
use Rattle.worker_core.specs.Absorbs.{woken}
use Rattle.worker_core.specs.Memories.{Memory, agent_remembers, is_stale_told, memory_after}
use Rattle.worker_core.specs.States.{ActorState}
use Rattle.worker_core.proofs.Answered.{gives_asked}
use Rattle.worker_core.proofs.Turning.{turn_stands}
use Rattle.actor_rounds.specs.declared.drainers.Drainer.{Drainer}
use Rattle.actor_rounds.specs.Drainers.{agent_of, seats_of}
use Rattle.actor_rounds.specs.Longer.{HasGrown, IsOneOf}
use Rattle.actor_rounds.specs.Rounds.{Asks, Ends, IsHeld, IsIdle, IsRound, IsSpent, Lets, Runs, Turns, told_entry}
use Rattle.actor_rounds.proofs.Entries.{grown_others}
use Rattle.actor_rounds.proofs.RoundFacts.{round_grows}
use Rattle.actor_rounds.proofs.RunFacts.{run_grows, run_role, still_role, turn_memory}
use Rattle.worker_core.proofs.Answered.{turn_role}
use Rattle.settle_progress.specs.Epochs.Epochs.{IsCurrent}
use Rattle.settle_progress.specs.Epochs.Silent.{CurrentAreAwake, OnlyOvertakenAreSilent, RoundsSilenceTheOvertaken, WasOvertaken}
use Rattle.settle_progress.proofs.Epochs.Awake.{asked_fresh, lost_memory, told_memory}
use Rattle.settle_progress.proofs.Epochs.Epochs.{epoch_is}
use Rattle.settle_progress.proofs.Epochs.Remembered.{good_of}
use Rattle.actor_rounds.proofs.RoundFacts.{seat_at as seat_there}

-- an older part of a run from imports that pass is one
pub older_run : (setup : Setup) (newer past : List Entry) → IsRunOf setup (newer ++ past) → IsRunOf setup past
older_run setup newer past run = record { imports = run.imports; short = shorter newer past run.short; run = older_parts_are_runs setup newer past run.run }
  where
    shorter : (xs h : List Entry) → length (xs ++ h) < most_entries → length h < most_entries
    shorter [] h lt = lt
    shorter (x ∷ xs) h lt = shorter xs h (omega (arith, lt))

-- entries of others leave the seat overtaken
pub overtaken_on : (setup : Setup) (newer h : List Entry) (node : List ℕ) (seat : ℕ) → own seat (newer ++ h) ≡ own seat h → WasOvertaken setup h node seat → WasOvertaken setup (newer ++ h) node seat
overtaken_on setup newer h node seat same was = record { epoch = was.epoch; told = ap (last_epoch node) same ∙ was.told; before = later newer }
  where
    later : (es : List Entry) → was.epoch < epoch_now setup (es ++ h) node
    later [] = was.before
    later (e ∷ es) = let lt = later es in let up = epoch_rises setup e (es ++ h) node in omega (arith, lt, up)

-- one who is told StaleEpoch was told no new epoch by it
tells_no_epoch : (node : List ℕ) (request : Request) (reply : Reply) → is_stale_told reply ≡ true → epoch_told node request reply ≡ None
tells_no_epoch node request reply stale = by (epoch_told node request reply) refl
  where
    by : (x : Option ℕ) → epoch_told node request reply ≡ x → epoch_told node request reply ≡ None
    by None e = e
    by (Some k) e = absurd (true≢false (sym stale ∙ ap is_stale_told (epoch_is node request reply k e).1))

right_of : (a b : Bool) → a ≡ false → (a || b) ≡ true → b ≡ true
right_of false b fresh e = e
right_of true b fresh e = absurd (true≢false fresh)

module _ (setup : Setup) (lets : Lets) (seat : ℕ) (node : List ℕ) (after : ActorState) (past : List Entry) (left : ℕ) (idle : Bool) (run : IsRunOf setup past) where
  run_silent : (s : ActorState) (h : List Entry) (b : ℕ) → Runs lets seat after past left idle s h b → s.role ≡ agent_of node
      → (s.memory.stale ≡ true → WasOvertaken setup h node seat) → after.memory.stale ≡ true → WasOvertaken setup past node seat
  run_silent s h b (IsSpent none state entries rest busy) role before silent =
      subst (λ es. WasOvertaken setup es node seat) (sym entries) (before (ap (λ (x : ActorState). x.memory.stale) (sym state) ∙ silent))
  run_silent s h b (IsIdle some ready turn entries rest calm) role before silent =
      subst (λ es. WasOvertaken setup es node seat) (sym entries) (before (ap (λ (m : Memory). m.stale) (sym (turn_memory s after Idle turn)) ∙ silent))
  run_silent s h b (Asks given next request reply some ready turn passes absorbs more) role before silent =
      run_silent next (told_entry seat given request reply ∷ h) (b - 1) more (still_role s given next (Call request) request (Told reply) turn absorbs ∙ role) overtaken silent
    where
      whole : IsRunOf setup (told_entry seat given request reply ∷ h)
      whole = let g = run_grows lets seat after past left idle next _ _ more in older_run setup g.longer.added (told_entry seat given request reply ∷ h) (subst (IsRunOf setup) g.longer.are run)

      history : IsHistory setup (told_entry seat given request reply ∷ h)
      history = runs_are_histories setup (told_entry seat given request reply ∷ h) whole.run

      given_role : given.role ≡ agent_of node
      given_role = turn_role s given (Call request) turn ∙ role

      memory : next.memory ≡ agent_remembers node request reply given.memory
      memory = ap (λ (x : ActorState). x.memory) absorbs ∙ (told_memory given next.caches request reply ∙ ap (λ r. memory_after r request reply given.memory) given_role)

      told_stale : next.memory.stale ≡ true → is_stale_told reply ≡ true
      told_stale e = right_of given.memory.stale (is_stale_told reply)
          (ap (λ (m : Memory). m.stale) (turn_memory s given (Call request) turn) ∙ calls_fresh s given request turn) (ap (λ (m : Memory). m.stale) (sym memory) ∙ e)

      fresh_if : IsCurrent setup h node seat → is_stale_told reply ≡ false
      fresh_if current =
          ap is_stale_told (history.1 ∙ ap (λ k. reply_to (effect setup (world setup h) k request)) (ap (λ (r : Role). r.kind) given_role))
          ∙ asked_fresh setup h seat node current given request given_role
          (turn_stands s given (Call request) (own seat h) ready.rows ready.stands.told turn) (sym (gives_asked s given (Call request) turn))

      overtaken : next.memory.stale ≡ true → WasOvertaken setup (told_entry seat given request reply ∷ h) node seat
      overtaken e = by (last_epoch node (own seat h)) refl
        where
          stale : is_stale_told reply ≡ true
          stale = told_stale e

          at : (k : ℕ) → last_epoch node (own seat h) ≡ Some k → (same : Bool) → (k == epoch_now setup h node) ≡ same → WasOvertaken setup (told_entry seat given request reply ∷ h) node seat
          at k told true same = absurd (true≢false (sym stale ∙ fresh_if (λ epoch is. one epoch k (sym is ∙ told) ∙ (Decides-eqb k (epoch_now setup h node)).0 same)))
          at k told false same = record {
            epoch = k;
            told = ap (last_epoch node) (own_mine (told_entry seat given request reply) h seat refl)
                ∙ (ap (λ x. first_some x (last_epoch node (own seat h))) (tells_no_epoch node request reply stale) ∙ told);
            before = below (told_low setup h (good_of setup h (older_run setup (told_entry seat given request reply ∷ []) h whole)) seat node k told)
                (epoch_rises setup (told_entry seat given request reply) h node);
          }
            where
              differ : k ≢ epoch_now setup h node
              differ is = true≢false (sym ((Decides-eqb k (epoch_now setup h node)).1 is) ∙ same)

              lower : (a b : ℕ) → a ≢ b → a ≤ b → a < b
              lower a b other le = omega (arith, other, le)

              below : k ≤ epoch_now setup h node → epoch_now setup h node ≤ epoch_now setup (told_entry seat given request reply ∷ h) node
                  → k < epoch_now setup (told_entry seat given request reply ∷ h) node
              below le up = let lt = lower k (epoch_now setup h node) differ le in omega (arith, lt, up)

          by : (x : Option ℕ) → last_epoch node (own seat h) ≡ x → WasOvertaken setup (told_entry seat given request reply ∷ h) node seat
          by None none = absurd (true≢false (sym stale ∙ fresh_if (λ epoch is. none_some (sym none ∙ is))))
          by (Some k) told = at k told (k == epoch_now setup h node) refl
  run_silent s h b (IsHeld given next request some ready turn held absorbs more) role before silent =
      run_silent next h (b - 1) more (still_role s given next (Call request) request Lost turn absorbs ∙ role) (λ e. absurd (true≢false (sym e ∙ fresh))) silent
    where
      fresh : next.memory.stale ≡ false
      fresh = ap (λ (x : ActorState). x.memory.stale) absorbs
          ∙ (ap (λ (m : Memory). m.stale) (lost_memory given next.caches request) ∙ (ap (λ (m : Memory). m.stale) (turn_memory s given (Call request) turn) ∙ calls_fresh s given request turn))

-- a round

-- none of these stands twice
abbrev pub Differ : List ℕ → Type 0
Differ seats = (i j seat : ℕ) → slice_get seats i ≡ Some seat → slice_get seats j ≡ Some seat → i ≡ j

not_among : (seat : ℕ) (seats : List ℕ) → ((i : ℕ) → slice_get seats i ≡ Some seat → ⊥) → IsOneOf seats seat → ⊥
not_among seat [] none among = absurd among
not_among seat (s ∷ seats) none (inl is) = none 0 (ap Some is)
not_among seat (s ∷ seats) none (inr more) = not_among seat seats (λ i at. none (suc i) at) more

pub others_differ : (seat : ℕ) (seats : List ℕ) → Differ (seat ∷ seats) → Differ seats
others_differ seat seats differ i j s at there = let same = differ (suc i) (suc j) s at there in omega (arith, same)

apart : (seat : ℕ) (seats : List ℕ) → Differ (seat ∷ seats) → (i other : ℕ) → slice_get seats i ≡ Some other → other ≢ seat
apart seat seats differ i other at is = let same = differ (suc i) 0 seat (at ∙ ap Some is) refl in omega (arith, same)

-- so none of them stands among the others
pub not_again : (seat : ℕ) (seats : List ℕ) → Differ (seat ∷ seats) → IsOneOf seats seat → ⊥
not_again seat seats differ = not_among seat seats (λ i at. apart seat seats differ i seat at refl)

module _ (setup : Setup) (lets : Lets) (past : List Entry) (left : ℕ) (run : IsRunOf setup past) where
  round_silent : (ds : List Drainer) (h : List Entry) (b : ℕ) (after : List Drainer) (whole : Bool) → IsRound lets past left ds h b after whole
      → Differ (seats_of ds) → OnlyOvertakenAreSilent setup ds h → OnlyOvertakenAreSilent setup after past
  round_silent _ h b _ _ (Ends entries rest) differ before place x node there role silent = none_some there
  round_silent _ h b _ _ (Turns {ds = ds} {after = after} {whole = whole} first ran middle rest idle seat runs more) differ before zero x node there role silent =
      let same : ran ≡ x = one ran x there in
      subst (WasOvertaken setup past node) (sym seat ∙ ap (λ (y : Drainer). y.seat) same)
      (at_first (ap (λ (y : Drainer). y.actor.role) same ∙ role) (ap (λ (y : Drainer). y.actor.memory.stale) same ∙ silent))
    where
      further : HasGrown (seats_of ds) middle past
      further = let g = round_grows lets past left ds middle rest after whole more in record { made = g.made; longer = g.longer }

      middle_run : IsRunOf setup middle
      middle_run = older_run setup further.longer.added middle (subst (IsRunOf setup) further.longer.are run)

      stays_own : own first.seat past ≡ own first.seat middle
      stays_own = grown_others (seats_of ds) middle past further first.seat (not_again first.seat (seats_of ds) differ)

      at_first : ran.actor.role ≡ agent_of node → ran.actor.memory.stale ≡ true → WasOvertaken setup past node first.seat
      at_first own_role is_silent =
          subst (λ es. WasOvertaken setup es node first.seat) (sym further.longer.are)
          (overtaken_on setup further.longer.added middle node first.seat (ap (own first.seat) (sym further.longer.are) ∙ stays_own)
          (run_silent setup lets first.seat node ran.actor middle rest idle middle_run (woken first.actor) h b runs first_role (λ is. before 0 first node refl first_role is) is_silent))
        where
          first_role : first.actor.role ≡ agent_of node
          first_role = sym (run_role lets first.seat ran.actor middle rest idle (woken first.actor) h b runs) ∙ own_role
  round_silent _ h b _ _ (Turns {ds = ds} {after = after} {whole = whole} first ran middle rest idle seat runs more) differ before (suc place) x node there role silent =
      round_silent ds middle rest after whole more (others_differ first.seat (seats_of ds) differ) others place x node there role silent
    where
      slot : HasGrown (first.seat ∷ []) h middle
      slot = let g = run_grows lets first.seat ran.actor middle rest idle (woken first.actor) h b runs in record { made = g.made; longer = g.longer }

      others : OnlyOvertakenAreSilent setup ds middle
      others i y own_node at own_role is_silent =
          subst (λ es. WasOvertaken setup es own_node y.seat) (sym slot.longer.are)
          (overtaken_on setup slot.longer.added h own_node y.seat
          (ap (own y.seat) (sym slot.longer.are) ∙ grown_others (first.seat ∷ []) h middle slot y.seat not_first) (before (suc i) y own_node at own_role is_silent))
        where
          not_first : IsOneOf (first.seat ∷ []) y.seat → ⊥
          not_first (inl same) = apart first.seat (seats_of ds) differ i y.seat (seat_there ds i y at) (sym same)
          not_first (inr none) = absurd none

pub rounds_silence_the_overtaken : RoundsSilenceTheOvertaken
rounds_silence_the_overtaken setup lets ds after h past b left whole run seats round before = round_silent setup lets past left run ds h b after whole round seats.differ before

pub current_are_awake : CurrentAreAwake
current_are_awake setup ds h place d node only there role current = record { fresh = by d.actor.memory.stale refl; current = current }
  where
    by : (b : Bool) → d.actor.memory.stale ≡ b → d.actor.memory.stale ≡ false
    by false e = e
    by true e = let was = only place d node there role e in let same = current was.epoch was.told in let lt = was.before in absurd (omega (arith, same, lt))
