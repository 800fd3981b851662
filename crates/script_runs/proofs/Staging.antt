-- What the moves of a script leave standing.
use Rattle.std.proofs.Common.{
  ◌≡◌,
  ◌≢◌,
  ◌⊎◌,
  ℕ,
  ◌<◌,
  ◌≤◌,
  ◌+◌,
  ◌-◌,
  zero,
  suc,
  List,
  [],
  ◌∷◌,
  ◌++◌,
  length,
  set,
  Bool,
  true,
  false,
  Option,
  Some,
  inl,
  inr,
  refl,
  sym,
  ◌∙◌,
  ap,
  subst,
  arith,
  if◌then◌else◌,
}
use Rattle.std.specs.Prelude.{◌==◌, bytes_eq, slice_get}
use Rattle.std.proofs.lemmas.Bool.Decides.{Decides-eqb}
use Rattle.std.proofs.lemmas.Slice.Eq.{bytes_eq-Decides}
use Rattle.std.proofs.lemmas.Option.{slice_get_within}
use Rattle.call_types.specs.declared.entry.Entry.{Entry}
use Rattle.call_types.specs.declared.request.Request.{Request}
use Rattle.call_types.specs.declared.request.SeatKind.TheVariants as seats
use Rattle.call_types.specs.declared.reply.Reply.{Reply}
use Rattle.binder_model.specs.Told.{own}
use Rattle.model_laws.proofs.Evidence.{own_other}
use Rattle.model_laws.proofs.Lists.{none_some, one}
use Rattle.actor_rounds.specs.declared.drainers.Drainer.{Drainer}
use Rattle.actor_rounds.specs.Drainers.{AreStanding, StandsWhole, seats_for, seats_from, seats_of}
use Rattle.actor_rounds.specs.Longer.{IsOneOf}
use Rattle.actor_rounds.specs.Rounds.{Drains, all_pass}
use Rattle.script_text.specs.declared.script.Script.{Script}
use Rattle.actor_turns.specs.declared.part.Part.{Part}
use Rattle.actor_turns.specs.declared.player.Player.{Player}
use Rattle.script_runs.specs.declared.stage.Stage.{Stage}
use Rattle.attention_law.specs.Diligence.{Call, entries}
use Rattle.actor_turns.specs.Calls.{AreCalls, seat_at}
use Rattle.actor_turns.specs.Lives.{ArePlayedLives, IsIdleLife}
use Rattle.script_runs.specs.Budget.{raised}
use Rattle.script_runs.specs.Limits.{NamesAreInOrder as NamesInOrder}
use Rattle.actor_turns.specs.Parts.{lives_of}
use Rattle.script_runs.specs.Parts.{all_actors, all_lives, drain_seat, drain_seats, part_of, role_of}
use Rattle.script_lines.specs.declared.actors.Actor.{Actor}
use Rattle.worker_core.specs.declared.role.Role.{Role}
use Rattle.actor_turns.specs.Calls.{and_idle}
use Rattle.script_runs.specs.Replays.{IsDrain, IsTurnLine, IsUserCall, Progress, and_made}
use Rattle.actor_turns.specs.Steps.Living.{HasLivedOn, LivedAll, LivedFewer, Lives, PlayedSoFar}
use Rattle.actor_turns.specs.Steps.Playing.{HasMadeAll, HasMadeFewer, HasTurned, IsLife, Plays, StandsSince}
use Rattle.script_runs.specs.Steps.Settled.{IsNoted}
use Rattle.script_runs.specs.Steps.Standing.{HasMoved, IsBudget, Leads, StageStands, actors_for, all_parts, parts_in, seat_of_drains}
use Rattle.script_runs.proofs.Casting.{in_order, names_differ, names_in}
use Rattle.actor_turns.proofs.Lived.{all_played, lives_on}
use Rattle.actor_turns.proofs.Lives.{seat_within}
use Rattle.script_runs.proofs.Draining.{drains_keep_drainers, same_drainers}
use Rattle.script_runs.proofs.Staying.{IsGrown, calls_grow, stays_noted}
use Rattle.script_runs.proofs.Orders.{get_set_other, get_set_same, life_between, one_owner, other_name, part_at_place, parts_set}
use Rattle.actor_rounds.proofs.RoundFacts.{same_or_not}

-- ---- the parts of a script

name_at : (ps : List Part) (i : ℕ) (p : Part) → slice_get ps i ≡ Some p → slice_get (names_in ps) i ≡ Some p.name
name_at [] i p at = none_some at
name_at (x ∷ ps) zero p at = ap (λ (y : Part). Some y.name) (one x p at)
name_at (x ∷ ps) (suc i) p at = name_at ps i p at

-- ---- entries of other seats

-- the life that a player is at is one of its part
life_at : (x : Player) (past : List Entry) (idle : ℕ → List Entry) → x.part.named ≡ true → Plays x past idle → IsLife x.part x.seat
life_at x past idle named plays = let w = seat_within x.part (x.made + 1) named in let r = plays.reached in (plays.first, omega (arith, w, r))

-- the entries of the calls that each life had made when it was last idle
abbrev told_at : (ℕ → List Call) → ℕ → List Entry
told_at idle seat = entries (idle seat)

-- entries of other seats leave a player
pub plays_on : (x : Player) (h later : List Entry) (idle then_idle : ℕ → List Entry) → x.part.named ≡ true
    → ((seat : ℕ) → IsLife x.part seat → own seat later ≡ own seat h) → ((seat : ℕ) → IsLife x.part seat → then_idle seat ≡ idle seat) → Plays x h idle → Plays x later then_idle
plays_on x h later idle then_idle named same_own same_idle plays =
    let at = life_at x h idle named plays in
    record {
      kind = plays.kind;
      first = plays.first;
      reached = plays.reached;
      ahead = plays.ahead;
      since = subst (λ m. StandsSince x.actor (then_idle x.seat) m) (sym (same_own x.seat at)) (subst (λ m. StandsSince x.actor m (own x.seat h)) (sym (same_idle x.seat at)) plays.since);
      unborn = λ s after below.
          let life : IsLife x.part s = (let a = at.0 in omega (arith, a, after), below) in
          let none = plays.unborn s after below in
          (same_own s life ∙ none.0, same_idle s life ∙ none.1);
    }

drainer_seat : (ds : List Drainer) (i : ℕ) (d : Drainer) → slice_get ds i ≡ Some d → IsOneOf (seats_of ds) d.seat
drainer_seat [] i d at = none_some at
drainer_seat (x ∷ ds) zero d at = inl (ap (λ (y : Drainer). y.seat) (one x d at))
drainer_seat (x ∷ ds) (suc i) d at = inr (drainer_seat ds i d at)

-- and the drainers
pub drainers_on : (ds : List Drainer) (h later : List Entry) → ((seat : ℕ) → IsOneOf (seats_of ds) seat → own seat later ≡ own seat h) → AreStanding ds h → AreStanding ds later
drainers_on ds h later same stands = record {
  each = λ place d at. subst (λ (mine : List Entry). StandsWhole d.actor mine) (sym (same d.seat (drainer_seat ds place d at))) (stands.each place d at);
  roles = stands.roles;
}

-- ---- the seats of the drains are the last ones

pub seats_low : (low : ℕ) (nodes : List (List ℕ)) (seat : ℕ) → IsOneOf (seats_from low nodes) seat → low ≤ seat
seats_low low [] seat own = absurd own
seats_low low (node ∷ nodes) seat (inl is) = omega (arith, is)
seats_low low (node ∷ nodes) seat (inr later) = let rest = seats_low (low + 1) nodes seat later in omega (arith, rest)

pub after_first : (first : ℕ) (nodes : List (List ℕ)) (seat : ℕ) → IsOneOf (seats_for first nodes) seat → first ≤ seat
after_first first nodes seat (inl is) = omega (arith, is)
after_first first nodes seat (inr (inl is)) = omega (arith, is)
after_first first nodes seat (inr (inr (inl is))) = omega (arith, is)
after_first first nodes seat (inr (inr (inr (inl is)))) = omega (arith, is)
after_first first nodes seat (inr (inr (inr (inr (inl is))))) = omega (arith, is)
after_first first nodes seat (inr (inr (inr (inr (inr later))))) = let rest = seats_low (first + 5) nodes seat later in omega (arith, rest)

drains_last : (script : Script) (seat : ℕ) → IsOneOf (drain_seats script) seat → drain_seat script ≤ seat
drains_last script seat own = after_first (drain_seat script) script.node_names seat own

after_users : (lives seat : ℕ) → 5 + lives ≤ seat → 5 ≤ seat
after_users lives seat low = omega (arith, low)

-- ---- a user's call

module _ (script : Script) (option : Option ℕ) (user : ℕ) (request : Request) (reply : Reply) (old new : Stage) where
  abbrev entry : Entry
  entry = record { seat = user; kind = seats.User; request = request; reply = reply; told = true }

  pub user_moved : user < 5 → new.world.past ≡ entry ∷ old.world.past → new.world.setup ≡ old.world.setup → new.players ≡ old.players
      → new.drainers ≡ old.drainers → new.drained ≡ old.drained → new.budget ≡ old.budget → new.settled ≡ old.settled
      → HasMoved script option (IsUserCall user request) old new
  user_moved low past setup players drainers drained budget settled p stands = record {
    after = record p { past = entry ∷ p.past };
    move = record { reply = reply; is = refl };
    stands = record {
      past = past ∙ ap (λ h. entry ∷ h) stands.past;
      setup = setup ∙ stands.setup;
      parts = ap (λ (xs : _). parts_in xs.items) players ∙ stands.parts;
      plays = λ place x at named.
          let there = ap (λ (xs : _). slice_get xs.items place) (sym players) ∙ at in
          plays_on x old.world.past new.world.past (told_at p.idle) (told_at p.idle) named (λ seat life. others seat (above place x there seat life))
          (λ seat life. refl) (stands.plays place x there named);
      lives = λ place actor x is at named.
          let there = ap (λ (xs : _). slice_get xs.items place) (sym players) ∙ at in
          lives_on (role_of actor) x old.world.past new.world.past p.idle p.idle
          (life_at x old.world.past (told_at p.idle) named (stands.plays place x there named))
          (λ seat life. others seat (above place x there seat life)) (λ seat life. refl) (stands.lives place actor x is there named);
      made = λ place x at. stands.made place x (ap (λ (xs : _). slice_get xs.items place) (sym players) ∙ at);
      held = λ place x at. stands.held place x (ap (λ (xs : _). slice_get xs.items place) (sym players) ∙ at);
      drainers = drainers ∙ stands.drainers;
      are = same_drainers script (drain_seat script) option p (record p { past = entry ∷ p.past }) refl refl stands.are;
      standing = drainers_on p.drainers p.past (entry ∷ p.past) (λ seat own. other_seat p.past seat (drains_above seat (subst (λ ss. IsOneOf ss seat) stands.are.seats own))) stands.standing;
      drained = drained ∙ stands.drained;
      budget = budget ∙ stands.budget;
      few = let a = stands.few in omega (arith, a, drained, budget);
      most = subst (IsBudget option) (sym budget) stands.most;
      settled = stays_noted old new setup settled (record { newer = entry ∷ []; are = past }) stands.settled;
    };
  }
    where
      other_seat : (h : List Entry) (seat : ℕ) → 5 ≤ seat → own seat (entry ∷ h) ≡ own seat h
      other_seat h seat high = own_other entry h seat (λ e. absurd (omega (arith, e, high, low)))

      others : (seat : ℕ) → 5 ≤ seat → own seat new.world.past ≡ own seat old.world.past
      others seat high = ap (own seat) past ∙ other_seat old.world.past seat high

      above : (place : ℕ) (x : Player) → slice_get old.players.items place ≡ Some x → (seat : ℕ) → IsLife x.part seat → 5 ≤ seat
      above place x there seat life = (life_between 5 (all_parts script) (seat_of_drains script) place x.part seat (in_order script)
          (ap (λ ps. slice_get ps place) (sym stands.parts) ∙ part_at_place old.players.items place x there) life).0

      drains_above : (seat : ℕ) → IsOneOf (drain_seats script) seat → 5 ≤ seat
      drains_above seat own = after_users (all_lives (all_actors script) script.lines) seat (drains_last script seat own)

-- ---- an actor's turn

-- a player of a list in which one has been put is that one, or stands at another place
pub set_cases : (xs : List Player) (place : ℕ) (after : Player) (j : ℕ) (y : Player) → place < length xs → slice_get (set xs place after) j ≡ Some y
    → ((j ≡ place) × (after ≡ y)) ⊎ ((j ≢ place) × (slice_get xs j ≡ Some y))
set_cases xs place after j y within here = by (same_or_not j place)
  where
    by : (j ≡ place) ⊎ (j ≢ place) → ((j ≡ place) × (after ≡ y)) ⊎ ((j ≢ place) × (slice_get xs j ≡ Some y))
    by (inl is) = inl (is, one after y (sym (get_set_same xs place after within) ∙ ap (slice_get (set xs place after)) (sym is) ∙ here))
    by (inr differs) = inr (differs, sym (get_set_other xs place j after differs) ∙ here)

not_idle : {X : Type 0} (seat other : ℕ) (mine : X) (idle : ℕ → X) → other ≢ seat → and_idle seat mine idle other ≡ idle other
not_idle seat other mine idle differs = by (other == seat) refl
  where
    by : (b : Bool) → (other == seat) ≡ b → and_idle seat mine idle other ≡ idle other
    by true e = absurd (differs ((Decides-eqb other seat).0 e))
    by false e = rw e refl

own_made : (name : List ℕ) (count : ℕ) (made : List ℕ → ℕ) → and_made name count made name ≡ made name + count
own_made name count made = let same : bytes_eq name name ≡ true = (bytes_eq-Decides name name).1 refl in rw same refl

other_made : (name other : List ℕ) (count : ℕ) (made : List ℕ → ℕ) → bytes_eq other name ≡ false → and_made name count made other ≡ made other
other_made name other count made differs = rw differs refl

-- one of the players, at its place, has made calls
pub record HasPlayed (old new : Stage) (place : ℕ) (x after : Player) : Type 0 where
  pub there : slice_get old.players.items place ≡ Some x
  pub named : x.part.named ≡ true
  pub players : new.players.items ≡ set old.players.items place after
  pub part : after.part ≡ x.part
  pub held : after.held ≡ x.held
  pub setup : new.world.setup ≡ old.world.setup
  pub drainers : new.drainers ≡ old.drainers
  pub drained : new.drained ≡ old.drained
  pub budget : new.budget ≡ old.budget
  pub settled : new.settled ≡ old.settled

module _ (script : Script) (option : Option ℕ) (old new : Stage) (place : ℕ) (x after : Player) (order : NamesInOrder script.node_names)
    (last : drain_seat script ≡ seat_of_drains script) (played : HasPlayed old new place x after) (p : Progress) (stands : StageStands script option p old) where
  part_there : (j : ℕ) (y : Player) → slice_get old.players.items j ≡ Some y → slice_get (all_parts script) j ≡ Some y.part
  part_there j y at = ap (λ ps. slice_get ps j) (sym stands.parts) ∙ part_at_place old.players.items j y at

  -- another's seats are no lives of this one
  not_mine : (j : ℕ) (y : Player) (seat : ℕ) → slice_get old.players.items j ≡ Some y → j ≢ place → IsLife y.part seat → IsLife x.part seat → ⊥
  not_mine j y seat at differs other mine =
      differs (one_owner 5 (all_parts script) (seat_of_drains script) j place y.part x.part seat (in_order script) (part_there j y at) (part_there place x played.there) other mine)

  not_drains : (seat : ℕ) → IsOneOf (drain_seats script) seat → IsLife x.part seat → ⊥
  not_drains seat own life =
      let b = (life_between 5 (all_parts script) (seat_of_drains script) place x.part seat (in_order script) (part_there place x played.there) life).1 in
      let d = drains_last script seat own in
      absurd (omega (arith, b, d, last))

  -- a player of the new stage is the one that made the calls, or one of the old stage at another place
  player_at : (j : ℕ) (y : Player) → slice_get new.players.items j ≡ Some y → ((j ≡ place) × (after ≡ y)) ⊎ ((j ≢ place) × (slice_get old.players.items j ≡ Some y))
  player_at j y at = set_cases old.players.items place after j y (slice_get_within old.players.items place x played.there) (ap (λ xs. slice_get xs j) (sym played.players) ∙ at)

  -- nothing is held back of a player
  none_held : after.held ≡ []
  none_held = played.held ∙ stands.held place x played.there

  stands_on : (count : ℕ) (idle : ℕ → List Call) → after.made ≡ x.made + count → IsGrown old.world.past new.world.past
      → ((seat : ℕ) → (IsLife x.part seat → ⊥) → own seat new.world.past ≡ own seat old.world.past) → ((seat : ℕ) → (IsLife x.part seat → ⊥) → idle seat ≡ p.idle seat)
      → Plays after new.world.past (told_at idle)
      → ((actor : Actor) → slice_get (actors_for script.node_names) place ≡ Some actor → Lives (role_of actor) after new.world.past idle)
      → StageStands script option (record p { past = new.world.past; made = and_made x.part.name count p.made; idle = idle }) new
  stands_on count idle more grown others same_idle plays lives = record {
    past = refl;
    setup = played.setup ∙ stands.setup;
    parts = ap parts_in played.players ∙ parts_set old.players.items place x after played.there played.part ∙ stands.parts;
    plays = λ j y at named. each_plays j y named (player_at j y at);
    lives = λ j actor y there at named. each_lives j actor y there named (player_at j y at);
    made = λ j y at. each_made j y (player_at j y at);
    held = λ j y at. each_held j y (player_at j y at);
    drainers = played.drainers ∙ stands.drainers;
    are = same_drainers script (drain_seat script) option p (record p { past = new.world.past; made = and_made x.part.name count p.made; idle = idle }) refl refl stands.are;
    standing =
        drainers_on p.drainers old.world.past new.world.past (λ seat own. others seat (not_drains seat (subst (λ ss. IsOneOf ss seat) stands.are.seats own)))
        (subst (AreStanding p.drainers) (sym stands.past) stands.standing);
    drained = played.drained ∙ stands.drained;
    budget = played.budget ∙ stands.budget;
    few = let a = stands.few in let d = played.drained in let b = played.budget in omega (arith, a, d, b);
    most = subst (IsBudget option) (sym played.budget) stands.most;
    settled = stays_noted old new played.setup played.settled grown stands.settled;
  }
    where
      each_plays : (j : ℕ) (y : Player) → y.part.named ≡ true → ((j ≡ place) × (after ≡ y)) ⊎ ((j ≢ place) × (slice_get old.players.items j ≡ Some y)) → Plays y new.world.past (told_at idle)
      each_plays j y named (inl is) = subst (λ z. Plays z new.world.past (told_at idle)) is.1 plays
      each_plays j y named (inr other) = plays_on y old.world.past new.world.past (told_at p.idle) (told_at idle) named (λ seat life. others seat
          (not_mine j y seat other.1 other.0 life)) (λ seat life. ap entries (same_idle seat (not_mine j y seat other.1 other.0 life))) (stands.plays j y other.1 named)

      each_lives : (j : ℕ) (actor : Actor) (y : Player) → slice_get (actors_for script.node_names) j ≡ Some actor → y.part.named ≡ true
          → ((j ≡ place) × (after ≡ y)) ⊎ ((j ≢ place) × (slice_get old.players.items j ≡ Some y)) → Lives (role_of actor) y new.world.past idle
      each_lives j actor y there named (inl is) =
          subst (λ z. Lives (role_of actor) z new.world.past idle) is.1 (lives actor (subst (λ n. slice_get (actors_for script.node_names) n ≡ Some actor) is.0 there))
      each_lives j actor y there named (inr other) =
          lives_on (role_of actor) y old.world.past new.world.past p.idle idle
          (life_at y old.world.past (told_at p.idle) named (stands.plays j y other.1 named))
          (λ seat life. others seat (not_mine j y seat other.1 other.0 life)) (λ seat life. same_idle seat (not_mine j y seat other.1 other.0 life)) (stands.lives j actor y there other.1 named)

      each_made : (j : ℕ) (y : Player) → ((j ≡ place) × (after ≡ y)) ⊎ ((j ≢ place) × (slice_get old.players.items j ≡ Some y)) → y.made ≡ and_made x.part.name count p.made y.part.name
      each_made j y (inl is) = subst (λ z. z.made ≡ and_made x.part.name count p.made z.part.name) is.1 (more ∙ ap (λ n. n + count)
          (stands.made place x played.there) ∙ sym (own_made x.part.name count p.made) ∙ ap (λ (q : Part). and_made x.part.name count p.made q.name) (sym played.part))
      each_made j y (inr other) = stands.made j y other.1
          ∙ sym (other_made x.part.name y.part.name count p.made
          (other_name (names_in (all_parts script)) j place y.part.name x.part.name (names_differ script order)
          (name_at (all_parts script) j y.part (part_there j y other.1)) (name_at (all_parts script) place x.part (part_there place x played.there)) other.0))

      each_held : (j : ℕ) (y : Player) → ((j ≡ place) × (after ≡ y)) ⊎ ((j ≢ place) × (slice_get old.players.items j ≡ Some y)) → y.held ≡ []
      each_held j y (inl is) = subst (λ (z : Player). z.held ≡ []) is.1 none_held
      each_held j y (inr other) = stands.held j y other.1

  calls_at : (count : ℕ) → AreCalls all_pass after.held x.part new.world.past (x.made + 1) count old.world.past → AreCalls all_pass [] x.part new.world.past (p.made x.part.name + 1) count p.past
  calls_at count calls = subst (λ h. AreCalls all_pass [] x.part new.world.past (p.made x.part.name + 1) count h) stands.past (subst
      (λ n. AreCalls all_pass [] x.part new.world.past (n + 1) count old.world.past) (stands.made place x played.there)
      (subst (λ held. AreCalls all_pass held x.part new.world.past (x.made + 1) count old.world.past) none_held calls))

  module _ (role : Role) (calls : ℕ) (each : (actor : Actor) → slice_get (actors_for script.node_names) place ≡ Some actor → role_of actor ≡ role) where
    -- the counts and the parts as the move has them
    at_counts : (P : List ℕ → Part → ℕ → Type 0) (count : ℕ) → after.made ≡ x.made + count → P after.held after.part after.made → P [] x.part (p.made x.part.name + count)
    at_counts P count more h =
        subst (λ n. P [] x.part n) (more ∙ ap (λ n. n + count) (stands.made place x played.there))
        (subst (λ (q : Part). P [] q after.made) played.part (subst (λ held. P held after.part after.made) none_held h))

    -- the lives, where those that no call has reached have no calls
    lives_at : (count : ℕ) → after.made ≡ x.made + count → seat_at after.part after.made ≤ after.seat
        → ((seat : ℕ) → after.seat < seat → seat < after.part.first + lives_of after.part → (own seat new.world.past ≡ []) × (p.idle seat ≡ []))
        → PlayedSoFar role after new.world.past p.idle → ArePlayedLives [] role x.part (p.made x.part.name + count) new.world.past p.idle
    lives_at count more began unborn so_far =
        at_counts (λ held q made. ArePlayedLives held role q made new.world.past p.idle) count more
        (all_played role after new.world.past p.idle began unborn so_far)

    of_actor : (idle : ℕ → List Call) → Lives role after new.world.past idle → (actor : Actor)
        → slice_get (actors_for script.node_names) place ≡ Some actor → Lives (role_of actor) after new.world.past idle
    of_actor idle lives actor there = subst (λ r. Lives r after new.world.past idle) (sym (each actor there)) lives

    all_turned : HasMadeAll all_pass calls (told_at p.idle) old.world.past new.world.past x after → LivedAll role calls new.world.past p.idle x after
        → HasTurned all_pass calls (told_at p.idle) old.world.past new.world.past x after → Leads script option (IsTurnLine all_pass [] role x.part calls) p new
    all_turned all lived t = record {
      after = record p { past = new.world.past; made = and_made x.part.name calls p.made };
      move = inl (record {
        past = new.world.past;
        made = calls_at calls all.calls_are;
        lives = lives_at calls all.made lived.lives.began (λ s later below. (((all.plays).unborn s later below).0, lived.lives.unborn s later below)) lived.played;
        is = refl;
      });
      stands = stands_on calls p.idle all.made
          (calls_grow all_pass after.held x.part new.world.past (x.made + 1) calls old.world.past all.calls_are) t.others (λ seat other. refl) all.plays (of_actor p.idle lived.lives);
    }

    fewer_turned : HasMadeFewer all_pass calls (told_at p.idle) old.world.past new.world.past x after
        → LivedFewer role calls new.world.past p.idle x after
        → HasTurned all_pass calls (told_at p.idle) old.world.past new.world.past x after → Leads script option (IsTurnLine all_pass [] role x.part calls) p new
    fewer_turned few lived t = record {
      after = record p { past = new.world.past; made = and_made x.part.name few.count p.made; idle = then_idle };
      move = inr (record {
        count = few.count;
        few = few.few;
        past = new.world.past;
        made = calls_at few.count few.calls_are;
        lives = lives_at few.count few.made lived.lives.began not_yet lived.played;
        seat = after.seat;
        life = few.life ∙ ap (λ m. seat_at x.part (m + few.count + 1)) (stands.made place x played.there);
        since = lived.since;
        ends = at_counts (λ held q made. IsIdleLife held role q after.seat made new.world.past (p.idle after.seat) lived.since) few.count few.made lived.idle_is;
        is = refl;
      });
      stands = stands_on few.count then_idle few.made
          (calls_grow all_pass after.held x.part new.world.past (x.made + 1) few.count old.world.past few.calls_are) t.others
          (λ seat other. not_idle after.seat seat made_so_far p.idle (λ e. other (mine seat e))) plays (of_actor then_idle lived.lives);
    }
      where
        made_so_far : List Call
        made_so_far = lived.since ++ p.idle after.seat

        then_idle : ℕ → List Call
        then_idle = and_idle after.seat (lived.since ++ p.idle after.seat) p.idle

        told_then : ℕ → List Entry
        told_then = and_idle after.seat (own after.seat new.world.past) (told_at p.idle)

        its_life : IsLife after.part after.seat
        its_life = life_at after new.world.past told_then (ap (λ (q : Part). q.named) played.part ∙ played.named) few.plays

        mine : (seat : ℕ) → seat ≡ after.seat → IsLife x.part seat
        mine seat e = subst (IsLife x.part) (sym e) (subst (λ (q : Part). IsLife q after.seat) played.part its_life)

        -- the calls of lives that have not begun
        not_yet : (s : ℕ) → after.seat < s → s < after.part.first + lives_of after.part → (own s new.world.past ≡ []) × (p.idle s ≡ [])
        not_yet s later below = ((few.plays.unborn s later below).0, sym (not_idle after.seat s made_so_far p.idle (λ e. absurd (omega (arith, e, later)))) ∙ lived.lives.unborn s later below)

        -- the entries of the calls that the life has made are its own
        same_told : (seat : ℕ) → told_at then_idle seat ≡ told_then seat
        same_told seat = by (seat == after.seat)
          where
            by : (b : Bool) → entries (if b then lived.since ++ p.idle after.seat else p.idle seat) ≡ (if b then own after.seat new.world.past else told_at p.idle seat)
            by true = lived.idle_is.are.of_seat
            by false = refl

        plays : Plays after new.world.past (told_at then_idle)
        plays = plays_on after new.world.past new.world.past told_then (told_at then_idle) (ap (λ (q : Part). q.named) played.part ∙ played.named)
            (λ seat life. refl) (λ seat life. same_told seat) few.plays

    turned : HasTurned all_pass calls (told_at p.idle) old.world.past new.world.past x after → LivedAll role calls new.world.past p.idle x after
        ⊎ LivedFewer role calls new.world.past p.idle x after → Leads script option (IsTurnLine all_pass [] role x.part calls) p new
    turned t lived = by t.made lived
      where
        by : HasMadeAll all_pass calls (told_at p.idle) old.world.past new.world.past x after
            ⊎ HasMadeFewer all_pass calls (told_at p.idle) old.world.past new.world.past x after → LivedAll role calls new.world.past p.idle x after
            ⊎ LivedFewer role calls new.world.past p.idle x after
            → Leads script option (IsTurnLine all_pass [] role x.part calls) p new
        by (inl all) (inl lived_all) = all_turned all lived_all t
        by (inr few) (inr lived_few) = fewer_turned few lived_few t
        by (inl all) (inr lived_few) = absurd (let a = all.made in let b = lived_few.few in omega (arith, a, b))
        by (inr few) (inl lived_all) = absurd (let a = few.made in let b = lived_all.made in let c = few.few in omega (arith, a, b, c))

pub turn_moved : (script : Script) (option : Option ℕ) (calls : ℕ) (old new : Stage) (place : ℕ) (x after : Player) (actor : Actor)
    → NamesInOrder script.node_names → drain_seat script ≡ seat_of_drains script → slice_get (actors_for script.node_names) place ≡ Some actor
    → part_of script actor ≡ x.part → HasPlayed old new place x after
    → ((idle : ℕ → List Entry) → Plays x old.world.past idle → HasTurned all_pass calls idle old.world.past new.world.past x after)
    → HasLivedOn calls old.world.past new.world.past x after → HasMoved script option (IsTurnLine all_pass [] (role_of actor) (part_of script actor) calls) old new
turn_moved script option calls old new place x after actor order last there is played turns lives p stands =
    subst (λ q. Leads script option (IsTurnLine all_pass [] (role_of actor) q calls) p new) (sym is)
    (turned script option old new place x after order last played p stands (role_of actor) calls (λ other at. ap role_of (one other actor (sym at ∙ there)))
    (turns (told_at p.idle) (stands.plays place x played.there played.named)) (lives (role_of actor) p.idle (stands.lives place actor x there played.there played.named)))

-- ---- a drain

-- what a drain made, as the stage sees it
pub record HasDrained (script : Script) (option : Option ℕ) (old new : Stage) (made : ℕ) : Type 0 where
  pub budget : new.budget ≡ raised option old.world.setup old.world.past old.budget
  pub rounds : Drains all_pass old.world.setup new.drainers new.world.past (new.budget - old.drained - made) old.drainers old.world.past (new.budget - old.drained)
  pub others : (seat : ℕ) → (IsOneOf (seats_of old.drainers) seat → ⊥) → own seat new.world.past ≡ own seat old.world.past
  pub few : made ≤ new.budget - old.drained
  pub standing : AreStanding new.drainers new.world.past
  pub setup : new.world.setup ≡ old.world.setup
  pub players : new.players ≡ old.players
  pub drained : new.drained ≡ old.drained + made
  pub room : old.drained ≤ new.budget
  pub most : IsBudget option new.budget
  pub settled : IsNoted new.world.setup new.world.past new.settled

pub drain_moved : (script : Script) (option : Option ℕ) (old new : Stage) (made : ℕ) → drain_seat script ≡ seat_of_drains script
    → HasDrained script option old new made → HasMoved script option (IsDrain all_pass script option) old new
drain_moved script option old new made last d p stands = record {
  after = after;
  move = move;
  stands = record {
    past = refl;
    setup = d.setup ∙ stands.setup;
    parts = ap (λ (xs : _). parts_in xs.items) d.players ∙ stands.parts;
    plays = λ place x at named.
        let there = ap (λ (xs : _). slice_get xs.items place) (sym d.players) ∙ at in
        plays_on x old.world.past new.world.past (told_at p.idle) (told_at p.idle) named (λ s life. others place x there s life) (λ s life. refl) (stands.plays place x there named);
    lives = λ place actor x is at named.
        let there = ap (λ (xs : _). slice_get xs.items place) (sym d.players) ∙ at in
        lives_on (role_of actor) x old.world.past new.world.past p.idle p.idle
        (life_at x old.world.past (told_at p.idle) named (stands.plays place x there named))
        (λ s life. others place x there s life) (λ s life. refl) (stands.lives place actor x is there named);
    made = λ place x at. stands.made place x (ap (λ (xs : _). slice_get xs.items place) (sym d.players) ∙ at);
    held = λ place x at. stands.held place x (ap (λ (xs : _). slice_get xs.items place) (sym d.players) ∙ at);
    drainers = refl;
    are = drains_keep_drainers all_pass script (drain_seat script) option p after move stands.are;
    standing = d.standing;
    drained = d.drained ∙ ap (λ n. n + made) stands.drained;
    budget = refl;
    few = let f = d.few in let r = d.room in let e = d.drained in omega (arith, f, r, e);
    most = d.most;
    settled = d.settled;
  };
}
  where
    after : Progress
    after = record p { past = new.world.past; drainers = new.drainers; drained = p.drained + made; budget = new.budget }

    rounds : Drains all_pass script.setup new.drainers new.world.past (new.budget - (p.drained + made)) p.drainers p.past (new.budget - p.drained)
    rounds =
        let rest : new.budget - old.drained - made ≡ new.budget - (p.drained + made) = let e = stands.drained in omega (arith, e) in
        let at_first : new.budget - old.drained ≡ new.budget - p.drained = ap (λ n. new.budget - n) stands.drained in
        subst (λ ds. Drains all_pass script.setup new.drainers new.world.past (new.budget - (p.drained + made)) ds p.past (new.budget - p.drained)) stands.drainers
        (subst (λ h. Drains all_pass script.setup new.drainers new.world.past (new.budget - (p.drained + made)) old.drainers h (new.budget - p.drained)) stands.past
        (subst (λ n. Drains all_pass script.setup new.drainers new.world.past (new.budget - (p.drained + made)) old.drainers old.world.past n) at_first
        (subst (λ n. Drains all_pass script.setup new.drainers new.world.past n old.drainers old.world.past (new.budget - old.drained)) rest
        (subst (λ s. Drains all_pass s new.drainers new.world.past (new.budget - old.drained - made) old.drainers old.world.past (new.budget - old.drained)) stands.setup d.rounds))))

    move : IsDrain all_pass script option p after
    move = record {
      past = new.world.past;
      made = made;
      budget = new.budget;
      ran = new.drainers;
      raises = d.budget ∙ ap (λ s. raised option s old.world.past old.budget) stands.setup
          ∙ ap (λ h. raised option script.setup h old.budget) stands.past ∙ ap (raised option script.setup p.past) stands.budget;
      stand = stands.standing;
      few = let f = d.few in let r = d.room in let e = stands.drained in omega (arith, f, r, e);
      rounds = rounds;
      is = refl;
    }

    below : (place : ℕ) (x : Player) → slice_get old.players.items place ≡ Some x → (s : ℕ) → IsLife x.part s → IsOneOf (drain_seats script) s → ⊥
    below place x there s life own =
        let b = (life_between 5 (all_parts script) (seat_of_drains script) place x.part s (in_order script)
        (ap (λ ps. slice_get ps place) (sym stands.parts) ∙ part_at_place old.players.items place x there) life).1 in
        let d = drains_last script s own in
        absurd (omega (arith, b, d, last))

    -- the drain has left the seats of a player as they were
    others : (place : ℕ) (x : Player) → slice_get old.players.items place ≡ Some x → (s : ℕ) → IsLife x.part s → own s new.world.past ≡ own s old.world.past
    others place x there s life = d.others s (λ own. below place x there s life (subst (λ ss. IsOneOf ss s) (ap seats_of stands.drainers ∙ stands.are.seats) own))
