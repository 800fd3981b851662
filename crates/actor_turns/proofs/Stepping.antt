-- Steps of an actor over its lives.
use Rattle.std.proofs.Common.{◌≡◌, ◌≢◌, ℕ, ◌<◌, ◌≤◌, ◌+◌, List, [], Bool, true, false, inl, inr, refl, sym, ◌∙◌, ap, subst, arith}
use Rattle.std.specs.Prelude.{nat_lt}
use Rattle.std.proofs.lemmas.Bool.Decides.{nat_tests}
use Rattle.call_types.specs.declared.entry.Entry.{Entry}
use Rattle.call_types.specs.declared.request.SeatKind.{SeatKind}
use Rattle.attention_law.proofs.Silent.{told_stale}
use Rattle.binder_model.specs.Told.{own}
use Rattle.worker_core.specs.declared.turn.Next.{Next}
use Rattle.worker_core.specs.declared.turn.Next.TheVariants as nexts
use Rattle.worker_core.specs.declared.role.Role.{Role}
use Rattle.worker_core.specs.Memories.{Memory}
use Rattle.worker_core.specs.Roles.{IsBuiltKind}
use Rattle.worker_core.specs.Stands.{IsNew, StandsFor}
use Rattle.worker_core.specs.States.{ActorState}
use Rattle.worker_core.specs.Turns.{IsTurn}
use Rattle.worker_core.proofs.Answered.{turn_role}
use Rattle.actor_turns.specs.declared.loss.Fate.{Fate}
use Rattle.actor_turns.specs.declared.part.Part.{Part}
use Rattle.actor_turns.specs.declared.player.Player.{Player}
use Rattle.actor_rounds.specs.Answers.Answered.{Lets}
use Rattle.actor_turns.specs.Calls.{IsCallBy, MayEnd, is_held, seat_at}
use Rattle.actor_turns.specs.Fates.{fate_of}
use Rattle.actor_turns.specs.Steps.Playing.{HasCalled, HasMade, IsLife, IsStill, Plays, StandsSince, and_held}
use Rattle.actor_turns.specs.Parts.{lives_of}
use Rattle.actor_turns.proofs.Held.{agree_more, ahead_more, held_own}
use Rattle.actor_turns.proofs.Lives.{seat_more, seat_within}
use Rattle.actor_turns.proofs.Since.{new_since, quiet_since, turn_since}

-- ---- a new life

pub less : (a b m : ℕ) → a ≤ m → b ≡ m → b ≢ a → a < b
less a b m le is differs = by (nat_lt a b) refl
  where
    by : (t : Bool) → nat_lt a b ≡ t → a < b
    by true e = grind (arith, nat_tests)
    by false e = absurd (differs (grind (arith, nat_tests)))

-- a later life begins
pub next_life : (old new : Player) (past : List Entry) (idle : ℕ → List Entry) → old.part.named ≡ true → new.part ≡ old.part → new.made ≡ old.made
    → new.held ≡ old.held → new.seat ≡ seat_at old.part (old.made + 1) → new.seat ≢ old.seat → IsNew old.actor.role new.actor → StandsFor new.actor [] → Plays old past idle → Plays new past idle
next_life old new past idle named part made held seat other new_actor stands plays =
    let within = seat_within old.part (old.made + 1) named in
    let later : old.seat < new.seat = less old.seat new.seat (seat_at old.part (old.made + 1)) plays.reached seat other in
    let none = plays.unborn new.seat later (omega (arith, within, seat)) in
    record {
      kind = ap (λ (r : Role). r.kind) new_actor.is ∙ plays.kind ∙ ap (λ (x : Part). x.kind) (sym part);
      first = subst (λ (x : Part). x.first ≤ new.seat) (sym part) (let f = plays.first in omega (arith, f, later));
      reached = let e : seat_at new.part (new.made + 1) ≡ seat_at old.part (old.made + 1) = ap (λ (x : Part). seat_at x (new.made + 1)) part
          ∙ ap (λ m. seat_at old.part (m + 1)) made in omega (arith, e, seat);
      since = subst (λ m. StandsSince new.actor (idle new.seat) m) (sym none.0) (subst (λ m. StandsSince new.actor m []) (sym none.1) (new_since new.actor stands));
      ahead = λ n after. ap (λ h. is_held h n) held ∙ plays.ahead n (omega (arith, made, after));
      unborn = λ s after below. plays.unborn s (omega (arith, later, after)) (subst (λ (x : Part). s < x.first + lives_of x) part below);
    }

-- ---- the seat of a life

-- the life that makes the next call is one of the part
pub life_there : (old : Player) (seat : ℕ) → old.part.named ≡ true → seat ≡ seat_at old.part (old.made + 1) → IsLife old.part seat
life_there old seat named is = let w = seat_within old.part (old.made + 1) named in (omega (arith, is), omega (arith, is, w))

-- no later one has an entry
pub latest_life : (mid : Player) (past : List Entry) (idle : ℕ → List Entry) → Plays mid past idle → (other : ℕ) → IsLife mid.part other → mid.seat < other → own other past ≡ []
latest_life mid past idle plays other life later = (plays.unborn other later life.1).0

-- ---- a step

-- the actor of a life that makes the next call of its part
pub record IsReady (old mid : Player) : Type 0 where
  pub part : mid.part ≡ old.part
  pub made : mid.made ≡ old.made
  pub held : mid.held ≡ old.held
  pub seat : mid.seat ≡ seat_at old.part (old.made + 1)

-- in its turn
pub record HasTaken (mid new : Player) : Type 0 where
  pub part : new.part ≡ mid.part
  pub seat : new.seat ≡ mid.seat

-- another actor of the same life
with_actor : (mid new : Player) (past : List Entry) (idle : ℕ → List Entry) → HasTaken mid new → new.made ≡ mid.made → new.held ≡ mid.held
    → new.actor.role ≡ mid.actor.role → StandsSince new.actor (idle mid.seat) (own mid.seat past) → Plays mid past idle → Plays new past idle
with_actor mid new past idle taken made held role since plays = record {
  kind = ap (λ (r : Role). r.kind) role ∙ plays.kind ∙ ap (λ (x : Part). x.kind) (sym taken.part);
  first = subst (λ s. new.part.first ≤ s) (sym taken.seat) (subst (λ (x : Part). x.first ≤ mid.seat) (sym taken.part) plays.first);
  reached =
      let r = plays.reached in
      let e : seat_at new.part (new.made + 1) ≡ seat_at mid.part (mid.made + 1) = ap (λ (x : Part). seat_at x (new.made + 1)) taken.part ∙ ap (λ m. seat_at mid.part (m + 1)) made in
      let s = taken.seat in
      omega (arith, r, e, s);
  since = subst (λ s. StandsSince new.actor (idle s) (own s past)) (sym taken.seat) since;
  ahead = λ n after. ap (λ h. is_held h n) held ∙ plays.ahead n (omega (arith, made, after));
  unborn = λ s later below. plays.unborn s (let e = taken.seat in omega (arith, e, later)) (subst (λ (x : Part). s < x.first + lives_of x) taken.part below);
}

-- the actor is idle: it has no news, or is an agent that was told that its epoch is stale
pub may_end : (s new : ActorState) (earlier mine : List Entry) → IsBuiltKind s.role.kind → StandsSince s earlier mine → IsTurn s new nexts.Idle → MayEnd s.role.kind earlier mine
may_end s new earlier mine built since turn = by s.memory.stale refl
  where
    by : (stale : Bool) → s.memory.stale ≡ stale → MayEnd s.role.kind earlier mine
    by true is = inr (told_stale s.role mine built (sym (ap (λ (m : Memory). m.stale) since.stands.memory) ∙ is))
    by false is = inl (quiet_since s new nexts.Idle earlier mine is since turn refl)

pub still : (old mid new : Player) (past : List Entry) (idle : ℕ → List Entry) → IsReady old mid → HasTaken mid new → new.made ≡ mid.made → new.held ≡ mid.held → IsBuiltKind mid.actor.role.kind
    → IsTurn mid.actor new.actor nexts.Idle → ((mine : List Entry) → StandsFor mid.actor mine → StandsFor new.actor mine) → Plays mid past idle → IsStill idle past past old new
still old mid new past idle ready taken made held built turn keeps plays = record {
  made = made ∙ ready.made;
  held = held ∙ ready.held;
  past = refl;
  seat = taken.seat ∙ ready.seat;
  plays = with_actor mid new past idle taken made held (turn_role mid.actor new.actor nexts.Idle turn)
      (turn_since mid.actor new.actor nexts.Idle (idle mid.seat) (own mid.seat past) turn (keeps (own mid.seat past)) plays.since) plays;
  ends = subst (λ s. MayEnd old.part.kind (idle s) (own s past)) (sym taken.seat) (subst (λ k. MayEnd k (idle mid.seat) (own mid.seat past)) (plays.kind ∙ ap (λ (x : Part). x.kind) ready.part)
      (may_end mid.actor new.actor (idle mid.seat) (own mid.seat past) built plays.since turn));
}

-- one call was made
pub one_made : (lets : Lets) (old mid new : Player) (given : ActorState) (answer : Next) (before after : List Entry) (idle : ℕ → List Entry) (fate : Fate) (b : Bool) (kind : SeatKind)
    → old.part.named ≡ true → IsReady old mid → HasTaken mid new → new.made ≡ mid.made + 1 → new.held ≡ and_held b (mid.made + 1) mid.held
    → kind ≡ mid.actor.role.kind → fate ≡ fate_of mid.part.losses (mid.made + 1)
    → IsTurn mid.actor given answer → ((mine : List Entry) → StandsFor mid.actor mine → StandsFor given mine)
    → HasCalled mid.seat (IsCallBy lets b fate mid.seat kind) before after given new.actor → Plays mid before idle → HasMade lets idle before after old new
one_made lets old mid new given answer before after idle fate b kind named ready taken made held same lost turn keeps called plays = record {
  made = made ∙ ap (λ m. m + 1) ready.made;
  call = subst (λ h. IsCallBy lets h (fate_of old.part.losses (old.made + 1)) (seat_at old.part (old.made + 1)) old.part.kind before after) (sym its)
      (subst (λ k. IsCallBy lets b (fate_of old.part.losses (old.made + 1)) (seat_at old.part (old.made + 1)) k before after) (same ∙ plays.kind ∙ ap (λ (x : Part). x.kind) ready.part)
      (subst (λ s. IsCallBy lets b (fate_of old.part.losses (old.made + 1)) s kind before after) ready.seat
      (subst (λ f. IsCallBy lets b f mid.seat kind before after)
      (lost ∙ ap (λ (x : Part). fate_of x.losses (mid.made + 1)) ready.part ∙ ap (λ m. fate_of old.part.losses (m + 1)) ready.made) called.call)));
  agree = λ n low. ap (λ h. is_held h n) held ∙ agree_more b mid.made mid.held n (let m = ready.made in omega (arith, m, low)) ∙ ap (λ h. is_held h n) ready.held;
  plays = record {
    kind = ap (λ (r : Role). r.kind) (called.role ∙ turn_role mid.actor given answer turn) ∙ plays.kind ∙ ap (λ (x : Part). x.kind) (sym taken.part);
    first = subst (λ s. new.part.first ≤ s) (sym taken.seat) (subst (λ (x : Part). x.first ≤ mid.seat) (sym taken.part) plays.first);
    reached =
        let more = seat_more mid.part (mid.made + 1) in
        let r = plays.reached in
        let e : seat_at new.part (new.made + 1) ≡ seat_at mid.part (mid.made + 1 + 1) = ap (λ (x : Part). seat_at x (new.made + 1)) taken.part ∙ ap (λ m. seat_at mid.part (m + 1)) made in
        let s = taken.seat in
        omega (arith, more, r, e, s);
    since = subst (λ s. StandsSince new.actor (idle s) (own s after)) (sym taken.seat)
        (called.since (idle mid.seat) (turn_since mid.actor given answer (idle mid.seat) (own mid.seat before) turn (keeps (own mid.seat before)) plays.since));
    ahead = λ n later. ap (λ h. is_held h n) held ∙ ahead_more b mid.made mid.held plays.ahead n (omega (arith, made, later));
    unborn = λ s later below.
        let above : mid.seat < s = let e = taken.seat in omega (arith, e, later) in
        let none = plays.unborn s above (subst (λ (x : Part). s < x.first + lives_of x) taken.part below) in
        (called.others s (λ e. absurd (omega (arith, e, above))) ∙ none.0, none.1);
  };
  others = λ s other. called.others s (λ e. other (life_there old s named (e ∙ ready.seat)));
}
  where
    -- whether it was held back
    its : is_held new.held (old.made + 1) ≡ b
    its = ap (λ m. is_held new.held (m + 1)) (sym ready.made) ∙ ap (λ h. is_held h (mid.made + 1)) held ∙ held_own b (mid.made + 1) mid.held (plays.ahead (mid.made + 1) (omega arith))
