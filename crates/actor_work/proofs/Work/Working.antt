-- How the work of an actor goes on, turn by turn, and how it ends.
use Rattle.std.proofs.Common.{◌≡◌, ◌≢◌, ◌⊎◌, ◌<◌, ◌≤◌, ◌+◌, ◌-◌, ◌*◌, ℕ, List, [], ◌∷◌, ◌++◌, length, length-append, Bool, true, false, inl, inr, refl, sym, ◌∙◌, ap, subst, arith, if◌then◌else◌}
use Rattle.std.specs.Prelude.{◌==◌}
use Rattle.std.proofs.lemmas.Bool.Decides.{Decides-eqb}
use Rattle.kube_parts.specs.declared.parts.Kind.{Kind}
use Rattle.kube_parts.specs.declared.parts.Kind.TheVariants as kinds
use Rattle.call_types.specs.declared.entry.Entry.{Entry}
use Rattle.call_types.specs.declared.request.SeatKind.{SeatKind}
use Rattle.call_types.specs.declared.request.SeatKind.TheVariants as seats
use Rattle.binder_model.specs.Reading.{follows}
use Rattle.binder_model.specs.Told.{own}
use Rattle.attention_law.specs.Resting.{WasToldStale}
use Rattle.actor_rounds.specs.Answers.Answered.{Lets, all_pass}
use Rattle.worker_core.specs.declared.role.Role.{Role}
use Rattle.worker_core.specs.Roles.{IsBuiltKind}
use Rattle.worker_core.specs.Stands.{HasNoNews}
use Rattle.actor_turns.specs.declared.part.Part.{Part}
use Rattle.actor_turns.specs.declared.player.Player.{Player}
use Rattle.actor_turns.specs.Calls.{AreCalls, MayEnd, MoreCalls, NoCalls, and_idle, seat_at}
use Rattle.actor_turns.specs.Steps.Living.{HasLivedOn, LivedAll, LivedFewer}
use Rattle.actor_turns.specs.Steps.Playing.{HasMadeAll, HasMadeFewer, HasTurned, IsLife, Plays}
use Rattle.actor_turns.proofs.Lived.{each_lasted}
use Rattle.actor_turns.proofs.Stepping.{life_there}
use Rattle.actor_work.specs.Work.Steps.Reached.{HasPlayedTo}
use Rattle.actor_work.specs.Work.Working.{AreWorkedLives, SomeLives}
use Rattle.actor_turns.proofs.Turning.{at_seat}

-- ---- the calls

-- no calls leave the entries
none_left : (lets : Lets) (held : List ℕ) (part : Part) (new past : List Entry) (n count : ℕ) → count ≡ 0 → AreCalls lets held part new n count past → new ≡ past
none_left lets held part new past n count none (NoCalls zero_is same) = same
none_left lets held part new past n count none (MoreCalls rest middle is call more) = absurd (omega (arith, is, none))

-- calls, and more calls
pub calls_then : (lets : Lets) (held : List ℕ) (part : Part) (middle end past : List Entry) (n a b : ℕ) → AreCalls lets held part middle n a past
    → AreCalls lets held part end (n + a) b middle → AreCalls lets held part end n (a + b) past
calls_then lets held part middle end past n a b (NoCalls zero_is same) more =
    let at : n + a ≡ n = omega (arith, zero_is) in
    let all : b ≡ a + b = omega (arith, zero_is) in
    subst (λ h. AreCalls lets held part end n (a + b) h) same (subst (λ count. AreCalls lets held part end n count middle) all (subst (λ m. AreCalls lets held part end m b middle) at more))
calls_then lets held part middle end past n a b (MoreCalls rest next is call first) more =
    MoreCalls (rest + b) next (omega (arith, is)) call
    (calls_then lets held part middle end next (n + 1) rest b first (let at : n + a ≡ n + 1 + rest = omega (arith, is) in subst (λ m. AreCalls lets held part end m b middle) at more))

-- those of a turn
pub turn_calls : (held : List ℕ) (calls : ℕ) (told : ℕ → List Entry) (before after : List Entry) (old new : Player) → new.held ≡ held
    → HasTurned all_pass calls told before after old new → AreCalls all_pass held old.part after (old.made + 1) (new.made - old.made) before
turn_calls held calls told before after old new is t = by t.made
  where
    of : (count : ℕ) → new.made ≡ old.made + count → AreCalls all_pass new.held old.part after (old.made + 1) count before
        → AreCalls all_pass held old.part after (old.made + 1) (new.made - old.made) before
    of count made calls_are =
        let all : count ≡ new.made - old.made = omega (arith, made) in
        subst (λ n. AreCalls all_pass held old.part after (old.made + 1) n before) all (subst (λ h. AreCalls all_pass h old.part after (old.made + 1) count before) is calls_are)

    by : HasMadeAll all_pass calls told before after old new ⊎ HasMadeFewer all_pass calls told before after old new → AreCalls all_pass held old.part after (old.made + 1) (new.made - old.made) before
    by (inl all) = of calls all.made all.calls_are
    by (inr few) = of few.count few.made few.calls_are

-- so far, and in a turn
pub calls_on : (held : List ℕ) (start old new : Player) (calls : ℕ) (told : ℕ → List Entry) (first before after : List Entry) → old.part ≡ start.part
    → new.held ≡ held → start.made ≤ old.made → old.made ≤ new.made
    → AreCalls all_pass held start.part before (start.made + 1) (old.made - start.made) first → HasTurned all_pass calls told before after old new
    → AreCalls all_pass held start.part after (start.made + 1) (new.made - start.made) first
calls_on held start old new calls told first before after part is low high so_far t =
    let at : old.made + 1 ≡ start.made + 1 + (old.made - start.made) = omega (arith, low) in
    let all : (old.made - start.made) + (new.made - old.made) ≡ new.made - start.made = omega (arith, low, high) in
    let more = subst (λ (p : Part). AreCalls all_pass held p after (old.made + 1) (new.made - old.made) before) part (turn_calls held calls told before after old new is t) in
    subst (λ n. AreCalls all_pass held start.part after (start.made + 1) n first) all
    (calls_then all_pass held start.part before after first (start.made + 1) (old.made - start.made) (new.made - old.made) so_far
    (subst (λ n. AreCalls all_pass held start.part after n (new.made - old.made) before) at more))

-- a turn makes no more than it was to
pub turn_made : (calls : ℕ) (told : ℕ → List Entry) (before after : List Entry) (old new : Player)
    → HasTurned all_pass calls told before after old new → (old.made ≤ new.made) × (new.made ≤ old.made + calls)
turn_made calls told before after old new t = by t.made
  where
    by : HasMadeAll all_pass calls told before after old new ⊎ HasMadeFewer all_pass calls told before after old new → (old.made ≤ new.made) × (new.made ≤ old.made + calls)
    by (inl all) = let m = all.made in (omega (arith, m), omega (arith, m))
    by (inr few) = let m = few.made in let f = few.few in (omega (arith, m), omega (arith, m, f))

above : (a b : ℕ) → a ≤ b → b ≢ a → a < b
above a b low other = grind arith

-- each turn but the first makes a call
pub smaller : (end before after : ℕ) (woken : Bool) → before < end → before ≤ after → after ≤ end → (woken ≡ true → after ≢ before)
    → 2 * (end - after) + 0 < 2 * (end - before) + (if woken then 0 else 1)
smaller end before after true left low high goes = let more = above before after low (goes refl) in omega (arith, left, high, more)
smaller end before after false left low high goes = omega (arith, left, low, high)

-- ---- the actor

-- after a turn that gave fewer calls the actor was woken
pub turn_reached : (end : ℕ) (told : ℕ → List Entry) (before after : List Entry) (old new : Player) → old.made ≤ end → new.part ≡ old.part
    → HasTurned all_pass (end - old.made) told before after old new → HasPlayedTo end true new after
turn_reached end told before after old new low part t = by t.made
  where
    by : HasMadeAll all_pass (end - old.made) told before after old new ⊎ HasMadeFewer all_pass (end - old.made) told before after old new → HasPlayedTo end true new after
    by (inl all) = record { told = told; plays = all.plays; rests = λ woken left seat from life. absurd (let m = all.made in omega (arith, m, left, low)) }
    by (inr few) = record { told = and_idle new.seat (own new.seat after) told; plays = few.plays; rests = λ woken left seat from life. at seat from life (seat == new.seat) refl }
      where
        at : (seat : ℕ) → new.seat ≤ seat → IsLife new.part seat → (b : Bool) → (seat == new.seat) ≡ b → and_idle new.seat (own new.seat after) told seat ≡ own seat after
        at seat from life true e =
            let is : seat ≡ new.seat = (Decides-eqb seat new.seat).0 e in
            subst (λ s. and_idle new.seat (own new.seat after) told s ≡ own s after) (sym is) (at_seat new.seat (own new.seat after) told)
        at seat from life false e =
            let differs : seat ≢ new.seat = λ is. absurd (true_false (sym ((Decides-eqb seat new.seat).1 is) ∙ e)) in
            let none = few.plays.unborn seat (above new.seat seat from differs) life.1 in
            none.1 ∙ sym none.0
          where
            true_false : true ≡ false → ⊥
            true_false is = absurd (cc)

-- each kind of actor follows some kind
follows_some : (kind : SeatKind) → IsBuiltKind kind → (k : Kind) × (follows kind k ≡ true)
follows_some seats.Binder built = (kinds.PersistentVolume, refl)
follows_some seats.Ops built = (kinds.PersistentVolume, refl)
follows_some seats.Scheduler built = (kinds.Pod, refl)
follows_some seats.ClaimProtect built = (kinds.Pod, refl)
follows_some seats.VolumeProtect built = (kinds.PersistentVolume, refl)
follows_some seats.Agent built = (kinds.Pod, refl)
follows_some seats.User built = absurd built

none_added : (recent mine : List Entry) → mine ≡ recent ++ mine → recent ≡ []
none_added [] mine is = refl
none_added (e ∷ recent) mine is = let long = ap length is ∙ length-append (e ∷ recent) mine in absurd (omega (arith, long))

-- a life without calls since it was woken gives none only where it was told StaleEpoch
rests_stale : (kind : SeatKind) (mine : List Entry) → IsBuiltKind kind → MayEnd kind mine mine → WasToldStale kind mine
rests_stale kind mine built (inr stale) = stale
rests_stale kind mine built (inl quiet) =
    let some = follows_some kind built in
    absurd (subst (HasNoNews some.0) (none_added quiet.recent mine quiet.are) (quiet.quiet some.0 some.1))

pub turn_stale : (end : ℕ) (before after : List Entry) (old new : Player) (reached : HasPlayedTo end true old before) → old.part.named ≡ true
    → IsBuiltKind old.part.kind → old.made < end → new.made ≡ old.made → HasTurned all_pass (end - old.made) reached.told before after old new
    → WasToldStale old.part.kind (own (seat_at old.part (new.made + 1)) after)
turn_stale end before after old new reached named built left none t = by t.made
  where
    by : HasMadeAll all_pass (end - old.made) reached.told before after old new
        ⊎ HasMadeFewer all_pass (end - old.made) reached.told before after old new → WasToldStale old.part.kind (own (seat_at old.part (new.made + 1)) after)
    by (inl all) = absurd (let m = all.made in omega (arith, m, none, left))
    by (inr few) =
        let made = few.made in
        let count : few.count ≡ 0 = omega (arith, made, none) in
        let same : after ≡ before = none_left all_pass new.held old.part after before (old.made + 1) few.count count few.calls_are in
        let here : new.seat ≡ seat_at old.part (old.made + 1) = few.life ∙ ap (λ n. seat_at old.part (n + 1)) (omega (arith, count)) in
        let low : old.seat ≤ new.seat = let r = reached.plays.reached in omega (arith, r, here) in
        let mine : reached.told new.seat ≡ own new.seat after = reached.rests refl left new.seat low (life_there old new.seat named here) ∙ ap (own new.seat) (sym same) in
        let stale = rests_stale old.part.kind (own new.seat after) built (subst (λ m. MayEnd old.part.kind m (own new.seat after)) mine few.ends) in
        let seat : new.seat ≡ seat_at old.part (new.made + 1) = here ∙ ap (λ n. seat_at old.part (n + 1)) (sym none) in
        subst (λ s. WasToldStale old.part.kind (own s after)) seat stale

-- ---- the lives

pub some_lives : (role : Role) (calls : ℕ) (before after : List Entry) (old new : Player) → HasLivedOn calls before after old new → SomeLives role old before → SomeLives role new after
some_lives role calls before after old new on some = by (on role some.idle some.lives)
  where
    by : LivedAll role calls after some.idle old new ⊎ LivedFewer role calls after some.idle old new → SomeLives role new after
    by (inl all) = record { idle = some.idle; lives = all.lives }
    by (inr few) = record { idle = _; lives = few.lives }

pub worked_lives : (role : Role) (x : Player) (past : List Entry) (told : ℕ → List Entry) → Plays x past told → SomeLives role x past → AreWorkedLives role x past
worked_lives role x past told plays some seat low high = record { before = some.idle seat; life = each_lasted role x past told some.idle plays some.lives seat low high }
