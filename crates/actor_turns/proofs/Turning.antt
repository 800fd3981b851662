-- Turns of an actor: many steps, and how they end.
use Rattle.std.proofs.Common.{◌≡◌, ℕ, ◌<◌, ◌≤◌, ◌+◌, List, [], true, inl, inr, refl, sym, ◌∙◌, ap, subst, arith, Bool, false}
use Rattle.std.specs.Prelude.{◌==◌}
use Rattle.std.proofs.lemmas.Bool.Decides.{Decides-eqb}
use Rattle.call_types.specs.declared.entry.Entry.{Entry}
use Rattle.binder_model.specs.Told.{own}
use Rattle.worker_core.specs.declared.role.Role.{Role}
use Rattle.worker_core.specs.Stands.{StandsFor}
use Rattle.actor_rounds.specs.Answers.Answered.{Lets}
use Rattle.actor_turns.specs.declared.part.Part.{Part}
use Rattle.actor_turns.specs.declared.player.Player.{Player}
use Rattle.actor_turns.specs.Calls.{AreCalls, IsCall, MayEnd, MoreCalls, NoCalls, and_idle, is_held, seat_at}
use Rattle.actor_turns.proofs.Held.{call_agree}
use Rattle.actor_turns.specs.Steps.Playing.{AgreeTo, HasGone, HasMade, HasTurned, IsNewPlayer, IsStill, Plays, StandsSince}
use Rattle.actor_turns.proofs.Since.{new_since}
use Rattle.actor_turns.specs.Parts.{lives_of}

-- ---- the beginning

pub new_plays : (role : Role) (x : Player) → IsNewPlayer role x → Plays x [] (λ seat. [])
new_plays role x is = record {
  kind = ap (λ (r : Role). r.kind) is.new.is ∙ is.kind;
  first = let s = is.seat in omega (arith, s);
  reached = let s = is.seat in omega (arith, s);
  since = new_since x.actor is.stands;
  ahead = λ n after. ap (λ h. is_held h n) is.held;
  unborn = λ seat after below. (refl, refl);
}

-- ---- a turn

-- no call has been made yet
pub not_gone : (lets : Lets) (idle : ℕ → List Entry) (past : List Entry) (x : Player) → Plays x past idle → HasGone lets 0 idle past past x x
not_gone lets idle past x plays = record {
  others = λ seat other. refl;
  agree = λ n low. refl;
  calls_are = λ held same end rest calls.
      let at : x.made + 0 + 1 ≡ x.made + 1 = omega arith in
      let all : rest ≡ 0 + rest = omega arith in
      subst (λ n. AreCalls lets held x.part end n (0 + rest) past) at (subst (λ n. AreCalls lets held x.part end (x.made + 0 + 1) n past) all calls);
  plays = plays;
}

-- one call more
pub gone_on : (lets : Lets) (made : ℕ) (idle : ℕ → List Entry) (first before after : List Entry) (start old new : Player) → old.part ≡ start.part → old.made ≡ start.made + made
    → HasGone lets made idle first before start old → HasMade lets idle before after old new → HasGone lets (made + 1) idle first after start new
gone_on lets made idle first before after start old new part count gone step = record {
  others = λ seat other. step.others seat (λ life. other (subst (λ (x : Part). (x.first ≤ seat) × (seat < x.first + lives_of x)) part life)) ∙ gone.others seat other;
  agree = λ n low. step.agree n (omega (arith, count, low)) ∙ gone.agree n low;
  calls_are = λ held same end rest calls.
      let call : IsCall lets held start.part (start.made + made + 1) before after =
      call_agree lets held new.held start.part (start.made + made + 1) before after (same (start.made + made + 1) (omega arith)) made_now in
      let one : AreCalls lets held start.part end (start.made + made + 1) (rest + 1) before =
      MoreCalls rest after refl call (subst (λ n. AreCalls lets held start.part end n rest after) (omega arith) calls) in
      let so_far : AgreeTo (start.made + made) held old.held = λ n low. same n (omega (arith, low)) ∙ step.agree n (omega (arith, count, low)) in
      subst (λ n. AreCalls lets held start.part end (start.made + 1) n first) (omega arith) (gone.calls_are held so_far end (rest + 1) one);
  plays = step.plays;
}
  where
    made_now : IsCall lets new.held start.part (start.made + made + 1) before after
    made_now = subst (λ n. IsCall lets new.held start.part n before after) (ap (λ m. m + 1) count) (subst (λ (x : Part). IsCall lets new.held x (old.made + 1) before after) part step.call)

-- all calls were made
pub turned_all : (lets : Lets) (made calls : ℕ) (idle : ℕ → List Entry) (first after : List Entry) (start new : Player) → made ≡ calls
    → new.made ≡ start.made + made → HasGone lets made idle first after start new → HasTurned lets calls idle first after start new
turned_all lets made calls idle first after start new all count gone = record {
  others = gone.others;
  agree = gone.agree;
  made = inl (record {
    made = count ∙ ap (λ m. start.made + m) all;
    calls_are = subst (λ n. AreCalls lets new.held start.part after (start.made + 1) n first) (omega (arith, all)) (gone.calls_are new.held (λ n low. refl) after 0 (NoCalls refl refl));
    plays = gone.plays;
  });
}

pub at_seat : (seat : ℕ) (mine : List Entry) (idle : ℕ → List Entry) → and_idle seat mine idle seat ≡ mine
at_seat seat mine idle = let same : (seat == seat) ≡ true = (Decides-eqb seat seat).1 refl in rw same refl

at_other : (seat other : ℕ) (mine : List Entry) (idle : ℕ → List Entry) → seat < other → and_idle seat mine idle other ≡ idle other
at_other seat other mine idle lt = by (other == seat) refl
  where
    by : (b : Bool) → (other == seat) ≡ b → and_idle seat mine idle other ≡ idle other
    by true e = absurd (let is = (Decides-eqb other seat).0 e in omega (arith, is, lt))
    by false e = rw e refl

-- the actor was idle, and is woken
pub turned_few : (lets : Lets) (made calls : ℕ) (idle : ℕ → List Entry) (first before after : List Entry) (start old mid new : Player) → made < calls
    → old.part ≡ start.part → old.made ≡ start.made + made
    → HasGone lets made idle first before start old → IsStill idle before after old mid
    → new.part ≡ mid.part → new.made ≡ mid.made → new.held ≡ mid.held → new.seat ≡ mid.seat → mid.part ≡ old.part → new.actor.role ≡ mid.actor.role
    → ((mine : List Entry) → StandsFor mid.actor mine → StandsSince new.actor mine mine)
    → HasTurned lets calls idle first after start new
turned_few lets made calls idle first before after start old mid new few part count gone step same_part same_made same_held same_seat mid_part role wakes = record {
  others = λ seat other. ap (own seat) step.past ∙ gone.others seat other;
  agree = λ n low. ap (λ h. is_held h n) held ∙ gone.agree n low;
  made = inr (record {
    count = made;
    few = few;
    made = same_made ∙ step.made ∙ count;
    calls_are = subst (λ h. AreCalls lets new.held start.part h (start.made + 1) made first) (sym step.past)
        (subst (λ n. AreCalls lets new.held start.part before (start.made + 1) n first) (omega arith) (gone.calls_are new.held (λ n low. ap (λ h. is_held h n) held) before 0 (NoCalls refl refl)));
    life = same_seat ∙ step.seat ∙ ap (λ (x : Part). seat_at x (old.made + 1)) part ∙ ap (λ m. seat_at start.part (m + 1)) count;
    ends = subst (λ s. MayEnd start.part.kind (idle s) (own s after)) (sym same_seat) (subst (λ (x : Part). MayEnd x.kind (idle mid.seat) (own mid.seat after)) part step.ends);
    plays = plays;
  });
}
  where
    whole : new.part ≡ mid.part
    whole = same_part

    held : new.held ≡ old.held
    held = same_held ∙ step.held

    plays : Plays new after (and_idle new.seat (own new.seat after) idle)
    plays = record {
      kind = ap (λ (r : Role). r.kind) role ∙ step.plays.kind ∙ ap (λ (x : Part). x.kind) (sym whole);
      first = subst (λ s. new.part.first ≤ s) (sym same_seat) (subst (λ (x : Part). x.first ≤ mid.seat) (sym whole) step.plays.first);
      reached =
          let r = step.plays.reached in
          let e : seat_at new.part (new.made + 1) ≡ seat_at mid.part (mid.made + 1) = ap (λ (x : Part). seat_at x (new.made + 1)) whole ∙ ap (λ m. seat_at mid.part (m + 1)) same_made in
          omega (arith, r, e, same_seat);
      since = subst (λ m. StandsSince new.actor m (own new.seat after)) (sym (at_seat new.seat (own new.seat after) idle))
          (subst (λ s. StandsSince new.actor (own s after) (own s after)) (sym same_seat) (wakes (own mid.seat after) step.plays.since.stands));
      ahead = λ n later. ap (λ h. is_held h n) same_held ∙ step.plays.ahead n (omega (arith, same_made, later));
      unborn = λ s later below.
          let none = step.plays.unborn s (omega (arith, same_seat, later)) (subst (λ (x : Part). s < x.first + lives_of x) whole below) in
          (none.0, at_other new.seat s (own new.seat after) idle later ∙ none.1);
    }
