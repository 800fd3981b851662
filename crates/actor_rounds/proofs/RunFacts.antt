-- What follows from how an actor was run.
use Rattle.std.proofs.Common.{◌≡◌, ◌∙◌, ◌+◌, ◌-◌, ◌≤◌, ◌<◌, ℕ, List, [], ◌∷◌, Bool, true, false, true≢false, Option, Some, None, refl, sym, ap, subst, inl, inr, arith, Result, Ok, Err, IfOk}
use Rattle.kube_parts.specs.declared.parts.Kind.{Kind}
use Rattle.call_types.specs.declared.entry.Entry.{Entry}
use Rattle.call_types.specs.declared.reply.Reply.{Reply}
use Rattle.call_types.specs.declared.request.Request.{Request}
use Rattle.call_types.specs.declared.request.SeatKind.{SeatKind}
use Rattle.binder_model.specs.Told.{own}
use Rattle.model_laws.proofs.Evidence.{own_mine}
use Rattle.informer_cache.specs.All.{AllKnown}
use Rattle.informer_cache.specs.Cache.{IsTold}
use Rattle.sync_queue.specs.Work.{Work}
use Rattle.worker_core.specs.declared.role.Role.{Role}
use Rattle.worker_core.specs.declared.task.Under.{Under}
use Rattle.worker_core.specs.declared.turn.Next.{Next}
use Rattle.worker_core.specs.declared.turn.Next.TheVariants.{Call, Idle}
use Rattle.worker_core.specs.declared.turn.Outcome.{Outcome}
use Rattle.worker_core.specs.declared.turn.Outcome.TheVariants.{Lost, Told}
use Rattle.worker_core.specs.Absorbs.{absorbed}
use Rattle.worker_core.specs.Memories.{Memory}
use Rattle.worker_core.specs.Roles.{IsBuiltKind}
use Rattle.worker_core.specs.Rules.{WokenIsBusy}
use Rattle.worker_core.specs.Stands.{AreOwn, MayBeIdle, StandsFor}
use Rattle.worker_core.specs.States.{ActorState, asked, start_call}
use Rattle.worker_core.specs.Turns.{AfterKeys, IsTurn, TurnBy, passing, unlisted}
use Rattle.attention_law.specs.Queues.{QueueStands}
use Rattle.attention_law.proofs.Kept.{answers_queues, turns_queues}
use Rattle.attention_law.proofs.Turned.{answer_role}
use Rattle.size_law.specs.Calls.Calls.{AreByActors}
use Rattle.size_law.proofs.Calls.Added.{by_actor}
use Rattle.actor_rounds.specs.declared.run.Ran.{Ran}
use Rattle.actor_rounds.specs.Drainers.{StandsWhole}
use Rattle.actor_rounds.specs.Calling.{CameTo}
use Rattle.actor_rounds.specs.Longer.{GrowsWithin, HasGrown, IsLonger, users_of}
use Rattle.actor_rounds.specs.Rounds.{Asks, IsHeld, IsIdle, IsReady, IsSpent, Lets, Runs, all_pass, told_entry}
use Rattle.actor_rounds.proofs.Entries.{grown_more, longer_then, not_longer, not_within, one_longer, one_within, users_as_before, within_more, within_then}
use Rattle.worker_core.proofs.Answered.{turn_role}

-- a turn leaves the actor what it is, and what it remembers

abbrev Kept : Type 0
Kept = Role × Memory

abbrev kept : ActorState → Kept
kept s = (s.role, s.memory)

kept_after_keys : (s new : ActorState) (answer : Next) (w : Work) (under : Option Under) → AfterKeys s new answer w under → kept new ≡ kept s
kept_after_keys s new answer w (Some u) x = ap kept x.state
kept_after_keys s new answer w None (inl x) = ap kept x.state
kept_after_keys s new answer w None (inr x) = ap kept x.state

kept_by : (s new : ActorState) (answer : Next) (stale : Bool) (under : Option Under) (start : Option Request) (lacking passes : Option Kind)
    → TurnBy s new answer stale under start lacking passes → kept new ≡ kept s
kept_by s new answer true under start lacking passes x = ap kept x.state
kept_by s new answer false (Some u) start lacking passes x = ap kept x.state
kept_by s new answer false None (Some request) lacking passes x = ap kept x.state
kept_by s new answer false None None (Some kind) passes x = ap kept x.state
kept_by s new answer false None None None (Some kind) x = ap kept x.state
kept_by s new answer false None None None None x = kept_after_keys s new answer x.work x.under x.then_

turn_keeps : (s new : ActorState) (answer : Next) → IsTurn s new answer → kept new ≡ kept s
turn_keeps s new answer turn = kept_by s new answer s.memory.stale s.under (start_call s.role s.memory) (unlisted s) (passing s) turn

pub turn_memory : (s new : ActorState) (answer : Next) → IsTurn s new answer → new.memory ≡ s.memory
turn_memory s new answer turn = ap (λ (k : Kept). k.1) (turn_keeps s new answer turn)

pub idle_after : (s new : ActorState) (answer : Next) (mine : List Entry) → IsTurn s new answer → MayBeIdle s.role s.memory mine → MayBeIdle new.role new.memory mine
idle_after s new answer mine turn idle = subst (λ (k : Kept). MayBeIdle k.0 k.1 mine) (sym (turn_keeps s new answer turn)) idle

-- an answer leaves the actor what it is
pub told_role : (s : ActorState) (caches : AllKnown) (request : Request) (reply : Reply) → (absorbed s caches request (Told reply)).role ≡ s.role
told_role s caches request reply = answer_role s caches request (Told reply)

-- so does a call, with its answer or lost
pub still_role : (s given after : ActorState) (answer : Next) (request : Request) (outcome : Outcome) → IsTurn s given answer
    → after ≡ absorbed given after.caches request outcome → after.role ≡ s.role
still_role s given after answer request outcome turn state = ap (λ (t : ActorState). t.role) state ∙ answer_role given after.caches request outcome ∙ turn_role s given answer turn

module _ (lets : Lets) (seat : ℕ) (after : ActorState) (past : List Entry) (left : ℕ) (idle : Bool) where
  pub run_left : (s : ActorState) (h : List Entry) (b : ℕ) → Runs lets seat after past left idle s h b → left ≤ b
  run_left s h b (IsSpent none state entries rest busy) = omega arith
  run_left s h b (IsIdle some ready turn entries rest calm) = omega arith
  run_left s h b (Asks given next request reply some ready turn passes absorbs more) = let rest = run_left _ _ _ more in omega arith
  run_left s h b (IsHeld given next request some ready turn held absorbs more) = let rest = run_left _ _ _ more in omega arith

  -- an actor that is not idle has spent the budget
  pub run_part : (s : ActorState) (h : List Entry) (b : ℕ) → Runs lets seat after past left idle s h b → idle ≡ false → left ≡ 0
  run_part s h b (IsSpent none state entries rest busy) not = rest ∙ none
  run_part s h b (IsIdle some ready turn entries rest calm) not = absurd (true≢false (sym calm ∙ not))
  run_part s h b (Asks given next request reply some ready turn passes absorbs more) not = run_part _ _ _ more not
  run_part s h b (IsHeld given next request some ready turn held absorbs more) not = run_part _ _ _ more not

  -- an actor whose next turn is not idle makes a call
  pub run_busy : (s : ActorState) (h : List Entry) (b : ℕ) → Runs lets seat after past left idle s h b → WokenIsBusy s → s.memory.stale ≡ false → 0 < b → left < b
  run_busy s h b (IsSpent none state entries rest calm) busy fresh some = absurd (omega arith)
  run_busy s h b (IsIdle some ready turn entries rest calm) busy fresh more = absurd (busy after Idle turn fresh refl)
  run_busy s h b (Asks given next request reply some ready turn passes absorbs more) busy fresh any = let rest = run_left _ _ _ more in omega arith
  run_busy s h b (IsHeld given next request some ready turn held absorbs more) busy fresh any = let rest = run_left _ _ _ more in omega arith

  -- the role stays
  pub run_role : (s : ActorState) (h : List Entry) (b : ℕ) → Runs lets seat after past left idle s h b → after.role ≡ s.role
  run_role s h b (IsSpent none state entries rest busy) = ap (λ (t : ActorState). t.role) state
  run_role s h b (IsIdle some ready turn entries rest calm) = turn_role s after Idle turn
  run_role s h b (Asks given next request reply some ready turn passes absorbs more) = run_role _ _ _ more ∙ still_role s given next (Call request) request (Told reply) turn absorbs
  run_role s h b (IsHeld given next request some ready turn held absorbs more) = run_role _ _ _ more ∙ still_role s given next (Call request) request Lost turn absorbs

  -- the entries are the earlier ones and then some of the seat, no more than calls were made
  pub run_grows : (s : ActorState) (h : List Entry) (b : ℕ) → Runs lets seat after past left idle s h b → GrowsWithin (seat ∷ []) (b - left) h past
  run_grows s h b (IsSpent none state entries rest busy) = not_within (seat ∷ []) (b - left) h past entries
  run_grows s h b (IsIdle some ready turn entries rest calm) = not_within (seat ∷ []) (b - left) h past entries
  run_grows s h b (Asks given next request reply some ready turn passes absorbs more) =
      let few = run_left _ _ _ more in
      let e = told_entry seat given request reply in
      within_then (seat ∷ []) 1 ((b - 1) - left) (b - left) h (e ∷ h) past (omega arith) (one_within (seat ∷ []) e h (inl refl) refl) (run_grows _ _ _ more)
  run_grows s h b (IsHeld given next request some ready turn held absorbs more) =
      let few = run_left _ _ _ more in
      within_more (seat ∷ []) ((b - 1) - left) (b - left) h past (omega arith) (run_grows _ _ _ more)

  -- none of them is a user's
  pub run_users : (s : ActorState) (h : List Entry) (b : ℕ) → Runs lets seat after past left idle s h b → IsBuiltKind s.role.kind → users_of past ≡ users_of h
  run_users s h b (IsSpent none state entries rest busy) built = ap users_of entries
  run_users s h b (IsIdle some ready turn entries rest calm) built = ap users_of entries
  run_users s h b (Asks given next request reply some ready turn passes absorbs more) built =
      let e = told_entry seat given request reply in
      let same = ap (λ (r : Role). r.kind) (turn_role s given (Call request) turn) in
      let still = ap (λ (r : Role). r.kind) (still_role s given next (Call request) request (Told reply) turn absorbs) in
      run_users _ _ _ more (subst IsBuiltKind (sym still) built) ∙ users_as_before h (e ∷ h) e refl (subst IsBuiltKind (sym same) built)
  run_users s h b (IsHeld given next request some ready turn held absorbs more) built =
      run_users _ _ _ more (subst IsBuiltKind (sym (ap (λ (r : Role). r.kind) (still_role s given next (Call request) request Lost turn absorbs))) built)

-- where no call is held back the entries are the earlier ones and then as many of the seat as calls were made
module _ (seat : ℕ) (after : ActorState) (past : List Entry) (left : ℕ) (idle : Bool) where
  pub run_longer : (s : ActorState) (h : List Entry) (b : ℕ) → Runs all_pass seat after past left idle s h b → IsLonger (seat ∷ []) (b - left) h past
  run_longer s h b (IsSpent none state entries rest busy) =
      let made : 0 ≡ b - left = omega arith in
      subst (λ p. IsLonger (seat ∷ []) (b - left) h p) (sym entries) (subst (λ n. IsLonger (seat ∷ []) n h h) made (not_longer (seat ∷ []) h))
  run_longer s h b (IsIdle some ready turn entries rest calm) =
      let made : 0 ≡ b - left = omega arith in
      subst (λ p. IsLonger (seat ∷ []) (b - left) h p) (sym entries) (subst (λ n. IsLonger (seat ∷ []) n h h) made (not_longer (seat ∷ []) h))
  run_longer s h b (Asks given next request reply some ready turn passes absorbs more) =
      let few = run_left all_pass _ _ _ _ _ _ _ _ more in
      let made : 1 + ((b - 1) - left) ≡ b - left = omega arith in
      let e = told_entry seat given request reply in
      subst (λ n. IsLonger (seat ∷ []) n h past) made (longer_then (seat ∷ []) 1 ((b - 1) - left) h (e ∷ h) past (one_longer (seat ∷ []) e h (inl refl) refl) (run_longer _ _ _ more))
  run_longer s h b (IsHeld given next request some ready turn held absorbs more) = absurd (true≢false held)

pub turn_kind : (kind : SeatKind) (s given : ActorState) (answer : Next) → kind ≡ s.role.kind → IsTurn s given answer → kind ≡ given.role.kind
turn_kind kind s given answer is turn = is ∙ ap (λ (r : Role). r.kind) (sym (turn_role s given answer turn))

-- ---- one call of a run, which was told, or was held back and is lost to the actor

-- the entry of a call of the seat that was told
abbrev entry_of : ℕ → SeatKind → Request → Reply → Entry
entry_of seat kind request reply = record { seat = seat; kind = kind; request = request; reply = reply; told = true }

-- it is the actor's
entry_told : (seat : ℕ) (kind : SeatKind) (given : ActorState) (request : Request) (reply : Reply) (h past : List Entry) → kind ≡ given.role.kind
    → past ≡ entry_of seat kind request reply ∷ h → past ≡ told_entry seat given request reply ∷ h
entry_told seat kind given request reply h past same is = is ∙ ap (λ (k : SeatKind). entry_of seat k request reply ∷ h) same

-- the run goes on after it
pub call_runs : (lets : Lets) (seat : ℕ) (kind : SeatKind) (s given next : ActorState) (request : Request) (outcome : Outcome) (h new : List Entry)
    (b : ℕ) → 0 < b → IsReady seat s h → IsTurn s given (Call request) → kind ≡ given.role.kind
    → next ≡ absorbed given next.caches request outcome → CameTo lets seat kind request outcome h new
    → (after : ActorState) (past : List Entry) (left : ℕ) (idle : Bool) → Runs lets seat after past left idle next new (b - 1) → Runs lets seat after past left idle s h b
call_runs lets seat kind s given next request (Told reply) h new b some ready turn same state came after past left idle more =
    Asks given next request reply some ready turn came.0 state (subst (λ p. Runs lets seat after past left idle next p (b - 1)) (entry_told seat kind given request reply h new same came.1) more)
call_runs lets seat kind s given next request Lost h new b some ready turn same state came after past left idle more =
    IsHeld given next request some ready turn came.0 state (subst (λ p. Runs lets seat after past left idle next p (b - 1)) came.1 more)

-- the actor stands for the entries of its seat after it
pub call_stands : (lets : Lets) (seat : ℕ) (kind : SeatKind) (given next : ActorState) (request : Request) (outcome : Outcome) (h new : List Entry)
    → kind ≡ given.role.kind → CameTo lets seat kind request outcome h new → AreOwn (own seat new)
    → ((mine : List Entry) (e : Entry) (reply : Reply) → outcome ≡ Told reply → IsTold e request reply → e.kind ≡ given.role.kind → AreOwn (e ∷ mine)
    → StandsFor given mine → StandsFor next (e ∷ mine))
    → ((mine : List Entry) → outcome ≡ Lost → StandsFor given mine → StandsFor next mine)
    → StandsFor given (own seat h) → StandsFor next (own seat new)
call_stands lets seat kind given next request (Told reply) h new same came mine told lost stands =
    let e = entry_of seat kind request reply in
    let front : own seat new ≡ e ∷ own seat h = ap (own seat) came.1 ∙ own_mine e h seat refl in
    subst (StandsFor next) (sym front) (told (own seat h) e reply refl (record { told = refl; asked = refl; answered = refl }) same (subst AreOwn front mine) stands)
call_stands lets seat kind given next request Lost h new same came mine told lost stands = subst (λ p. StandsFor next (own seat p)) (sym came.1) (lost (own seat h) refl stands)

-- the entries have grown by it
pub call_grown : (lets : Lets) (seat : ℕ) (kind : SeatKind) (request : Request) (outcome : Outcome) (first h new : List Entry)
    → CameTo lets seat kind request outcome h new → HasGrown (seat ∷ []) first h → HasGrown (seat ∷ []) first new
call_grown lets seat kind request (Told reply) first h new came before = grown_more seat first h new (entry_of seat kind request reply) before came.1 refl refl
call_grown lets seat kind request Lost first h new came before = subst (HasGrown (seat ∷ []) first) (sym came.1) before

-- none of them is a user's
pub call_users : (lets : Lets) (seat : ℕ) (kind : SeatKind) (request : Request) (outcome : Outcome) (h new : List Entry) → IsBuiltKind kind
    → CameTo lets seat kind request outcome h new → users_of new ≡ users_of h
call_users lets seat kind request (Told reply) h new built came = users_as_before h new (entry_of seat kind request reply) came.1 built
call_users lets seat kind request Lost h new built came = ap users_of came.1

-- each is of an actor
pub call_actors : (lets : Lets) (seat : ℕ) (kind : SeatKind) (given : ActorState) (request : Request) (outcome : Outcome) (h new : List Entry)
    → IsBuiltKind kind → kind ≡ given.role.kind → StandsFor given (own seat h) → asked given ≡ Some request
    → CameTo lets seat kind request outcome h new → AreByActors h → AreByActors new
call_actors lets seat kind given request (Told reply) h new built same stands asks came before =
    by_actor given h new (entry_of seat kind request reply) came.1 (subst IsBuiltKind same built) same stands asks before
call_actors lets seat kind given request Lost h new built same stands asks came before = subst AreByActors (sym came.1) before

-- a turn, and a call with its answer, leave the queue standing
pub turned_whole : (s new : ActorState) (answer : Next) (mine : List Entry) → IsTurn s new answer → StandsFor new mine → StandsWhole s mine → StandsWhole new mine
turned_whole s new answer mine turn told whole = record { told = told; queue = turns_queues s new answer turn whole.queue }

pub called_whole : (s given after : ActorState) (answer : Next) (request : Request) (outcome : Outcome) (before mine : List Entry)
    → IsTurn s given answer → after ≡ absorbed given after.caches request outcome → StandsFor after mine
    → StandsWhole s before → StandsWhole after mine
called_whole s given after answer request outcome before mine turn state told whole =
    record { told = told; queue = subst QueueStands (sym state) (answers_queues given after.caches request outcome (turns_queues s given answer turn whole.queue)) }

-- a woken actor that has a call left makes one, where its epoch is not stale
pub busy_where : {E X : Type 0} (lets : Lets) (seat : ℕ) (after s : ActorState) (past h : List Entry) (b : ℕ) (r : Result Ran E)
    → IfOk r (λ (ran : Ran). Runs lets seat after past ran.left ran.idle s h b)
    → WokenIsBusy s → (X → s.memory.stale ≡ false) → IfOk r (λ (ran : Ran). X → 0 < b → ran.left < b)
busy_where lets seat after s past h b (Ok ran) runs busy fresh = λ x. run_busy lets seat after past ran.left ran.idle s h b runs busy (fresh x)
busy_where lets seat after s past h b (Err e) runs busy fresh = tt
