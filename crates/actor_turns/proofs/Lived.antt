-- The lives of an actor: each that has ended was played by it, as the one that goes on.
use Rattle.std.proofs.Common.{◌≡◌, ◌≢◌, ◌⊎◌, ℕ, zero, suc, ◌<◌, ◌≤◌, ◌+◌, List, [], ◌∷◌, ◌++◌, map, Bool, true, false, Some, inl, inr, refl, sym, ◌∙◌, ap, subst, arith}
use Rattle.std.specs.Prelude.{◌==◌, ◌&&◌, is_some, nat_lt, not}
use Rattle.std.proofs.lemmas.Bool.Decides.{Decides-eqb, nat_tests}
use Rattle.kube_objects.specs.Keys.{AreRows}
use Rattle.call_types.specs.declared.entry.Entry.{Entry}
use Rattle.call_types.specs.declared.request.Request.{Request}
use Rattle.binder_model.specs.Told.{own}
use Rattle.attention_law.specs.Diligence.{Call, entries}
use Rattle.attention_law.specs.Played.{IsPlayed, Turns}
use Rattle.attention_law.specs.Begun.{begun_as}
use Rattle.attention_law.specs.Resting.{Resumes, Starts}
use Rattle.attention_law.proofs.Begun.{begun_new, begun_stands}
use Rattle.attention_law.proofs.Following.{same_role, stands_now}
use Rattle.attention_law.proofs.Needed.{played_on}
use Rattle.informer_cache.specs.All.{all_objects}
use Rattle.worker_core.specs.declared.role.Role.{Role}
use Rattle.worker_core.specs.declared.turn.Next.TheVariants as nexts
use Rattle.worker_core.specs.Absorbs.{woken}
use Rattle.worker_core.specs.Roles.{IsBuiltKind}
use Rattle.worker_core.specs.Stands.{IsNew, StandsFor}
use Rattle.worker_core.specs.States.{ActorState}
use Rattle.worker_core.specs.Turns.{IsTurn}
use Rattle.actor_turns.specs.declared.loss.Fate.{Fate}
use Rattle.actor_turns.specs.declared.part.Part.{Part}
use Rattle.actor_turns.specs.Fates.{fate_of}
use Rattle.actor_turns.specs.Parts.{lives_of}
use Rattle.actor_turns.specs.declared.player.Player.{Player}
use Rattle.actor_turns.specs.Calls.{AreOfLife, and_idle, is_held, leaves_entry, left_by, restarts_before, seat_at}
use Rattle.actor_turns.specs.Lives.{ArePlayedLives, IsPlayedLife}
use Rattle.actor_turns.specs.Steps.Living.{GoesOn, LivedAll, LivedFewer, Lives, LivesIdle, Living, PlayedSoFar}
use Rattle.actor_turns.specs.Steps.Playing.{AgreeTo, IsLife, IsNewPlayer, Plays, and_held}
use Rattle.actor_turns.proofs.Lives.{seat_more, seat_within}
use Rattle.actor_turns.proofs.Held.{agree_more, held_own, left_agree}
use Rattle.actor_turns.proofs.Stepping.{less}

-- ---- which calls are of a life

-- a life that no call has reached has none
left_none : (held : List ℕ) (part : Part) (seat n : ℕ) → seat_at part n < seat → left_by held part seat n ≡ []
left_none held part seat zero lt = refl
left_none held part seat (suc n) lt =
    let more : seat_at part n ≤ seat_at part (suc n) = let step : n + 1 ≡ suc n = omega arith in subst (λ m. seat_at part n ≤ seat_at part m) step (seat_more part n) in
    by (seat_at part (suc n) == seat) refl (left_none held part seat n (omega (arith, more, lt)))
  where
    by : (b : Bool) → (seat_at part (suc n) == seat) ≡ b → left_by held part seat n ≡ [] → left_by held part seat (suc n) ≡ []
    by true e h = absurd (let is = (Decides-eqb (seat_at part (suc n)) seat).0 e in omega (arith, is, lt))
    by false e h = rw e h

-- the next call is of its life
left_own : (held : List ℕ) (part : Part) (seat n : ℕ) → seat ≡ seat_at part (n + 1)
    → left_by held part seat (n + 1) ≡ (not (is_held held (n + 1)) && leaves_entry (fate_of part.losses (n + 1))) ∷ left_by held part seat n
left_own held part seat n is = let step : suc n ≡ n + 1 = omega arith in
    subst (λ m. left_by held part seat m ≡ (not (is_held held m) && leaves_entry (fate_of part.losses m)) ∷ left_by held part seat n) step (here (subst (λ m. seat ≡ seat_at part m) (sym step) is))
  where
    here : seat ≡ seat_at part (suc n) → left_by held part seat (suc n) ≡ (not (is_held held (suc n)) && leaves_entry (fate_of part.losses (suc n))) ∷ left_by held part seat n
    here at = let same : (seat_at part (suc n) == seat) ≡ true = (Decides-eqb (seat_at part (suc n)) seat).1 (sym at) in rw same refl

-- and of no other one
left_other : (held : List ℕ) (part : Part) (seat n : ℕ) → seat ≢ seat_at part (n + 1) → left_by held part seat (n + 1) ≡ left_by held part seat n
left_other held part seat n differs = let step : suc n ≡ n + 1 = omega arith in subst (λ m. left_by held part seat m ≡ left_by held part seat n) step (by (seat_at part (suc n) == seat) refl)
  where
    by : (b : Bool) → (seat_at part (suc n) == seat) ≡ b → left_by held part seat (suc n) ≡ left_by held part seat n
    by true e = absurd (differs (let step : n + 1 ≡ suc n = omega arith in sym ((Decides-eqb (seat_at part (suc n)) seat).0 e) ∙ ap (seat_at part) (sym step)))
    by false e = rw e refl

-- ---- lives that have ended

-- a life without calls
no_life : (held : List ℕ) (part : Part) (seat made : ℕ) (past : List Entry) → own seat past ≡ [] → seat_at part made < seat → AreOfLife held part seat made past []
no_life held part seat made past none before = record { of_seat = sym none; left = sym (left_none held part seat made before) }

ended_life : (held : List ℕ) (role : Role) (part : Part) (seat made : ℕ) (past : List Entry) (earlier : List Call) (s : ActorState)
    → Living held role part seat made past earlier s → IsPlayedLife held role part seat made past earlier
ended_life held role part seat made past earlier s living = record { since = living.since; are = living.are; state = s; played = living.played }

-- what others do leaves it
pub kept_life : (held then_held : List ℕ) (role : Role) (part : Part) (seat made then_made : ℕ) (past later : List Entry) (earlier : List Call)
    → own seat later ≡ own seat past → left_by then_held part seat then_made ≡ left_by held part seat made
    → IsPlayedLife held role part seat made past earlier → IsPlayedLife then_held role part seat then_made later earlier
kept_life held then_held role part seat made then_made past later earlier same left life = record {
  since = life.since;
  are = record { of_seat = life.are.of_seat ∙ sym same; left = life.are.left ∙ sym left };
  state = life.state;
  played = life.played;
}

-- a life that no call has reached
unborn_life : (held : List ℕ) (role : Role) (part : Part) (seat made : ℕ) (past : List Entry) (earlier : List Call) → own seat past ≡ []
    → seat_at part made < seat → earlier ≡ [] → IsPlayedLife held role part seat made past earlier
unborn_life held role part seat made past earlier none before first =
    subst (IsPlayedLife held role part seat made past) (sym first) (record {
      since = [];
      are = no_life held part seat made past none before;
      state = begun_as role;
      played = Starts refl refl (begun_new role) (begun_stands role);
    })

-- each life so far, and each later one
pub each_lasted : (role : Role) (x : Player) (past : List Entry) (told : ℕ → List Entry) (idle : ℕ → List Call) → Plays x past told
    → Lives role x past idle → (seat : ℕ) → x.part.first ≤ seat → seat < x.part.first + lives_of x.part → IsPlayedLife x.held role x.part seat x.made past (idle seat)
each_lasted role x past told idle plays lives seat low high = by (nat_lt seat x.seat) (nat_lt x.seat seat) refl refl
  where
    by : (b a : Bool) → nat_lt seat x.seat ≡ b → nat_lt x.seat seat ≡ a → IsPlayedLife x.held role x.part seat x.made past (idle seat)
    by true a eb ea = lives.ended seat low (grind (arith, nat_tests))
    by false true eb ea =
        let after : x.seat < seat = grind (arith, nat_tests) in
        let began = lives.began in
        unborn_life x.held role x.part seat x.made past (idle seat) (plays.unborn seat after high).0 (omega (arith, began, after)) (lives.unborn seat after high)
    by false false eb ea =
        let same : x.seat ≡ seat = grind (arith, nat_tests) in
        subst (λ s. IsPlayedLife x.held role x.part s x.made past (idle s)) same (ended_life x.held role x.part x.seat x.made past (idle x.seat) x.actor lives.living)

-- those up to the player's
played_so_far : (role : Role) (x : Player) (past : List Entry) (idle : ℕ → List Call) → Lives role x past idle → PlayedSoFar role x past idle
played_so_far role x past idle lives seat low high = by (nat_lt seat x.seat) refl
  where
    by : (b : Bool) → nat_lt seat x.seat ≡ b → IsPlayedLife x.held role x.part seat x.made past (idle seat)
    by true e = lives.ended seat low (grind (arith, nat_tests))
    by false e =
        let same : x.seat ≡ seat = grind (arith, nat_tests) in
        subst (λ s. IsPlayedLife x.held role x.part s x.made past (idle s)) same (ended_life x.held role x.part x.seat x.made past (idle x.seat) x.actor lives.living)

-- and all
pub all_played : (role : Role) (x : Player) (past : List Entry) (idle : ℕ → List Call) → seat_at x.part x.made ≤ x.seat
    → ((seat : ℕ) → x.seat < seat → seat < x.part.first + lives_of x.part → (own seat past ≡ []) × (idle seat ≡ [])) → PlayedSoFar role x past idle → ArePlayedLives x.held role x.part x.made past idle
all_played role x past idle began unborn so_far seat low high = by (nat_lt x.seat seat) refl
  where
    by : (b : Bool) → nat_lt x.seat seat ≡ b → IsPlayedLife x.held role x.part seat x.made past (idle seat)
    by false e = so_far seat low (grind (arith, nat_tests))
    by true e =
        let after : x.seat < seat = grind (arith, nat_tests) in
        let none = unborn seat after high in
        unborn_life x.held role x.part seat x.made past (idle seat) none.0 (omega (arith, began, after)) none.1

-- ---- steps

-- a later life begins
pub next_lives : (role : Role) (old : Player) (seat began : ℕ) (actor : ActorState) (past : List Entry) (told : ℕ → List Entry)
    (idle : ℕ → List Call) → old.part.named ≡ true → seat ≡ seat_at old.part (old.made + 1) → seat ≢ old.seat → IsNew old.actor.role actor → StandsFor actor [] → Plays old past told
    → Lives role old past idle → Lives role (record old { seat = seat; began = began; actor = actor }) past idle
next_lives role old seat began actor past told idle named is other new stands plays lives =
    let within = seat_within old.part (old.made + 1) named in
    let later : old.seat < seat = less old.seat seat (seat_at old.part (old.made + 1)) plays.reached is other in
    let below : seat < old.part.first + lives_of old.part = omega (arith, within, is) in
    let none = plays.unborn seat later below in
    let first = lives.unborn seat later below in
    let its : old.actor.role ≡ role = same_role role old.actor (lives.living.since ++ idle old.seat) (played_on role old.actor (idle old.seat) lives.living.since lives.living.played) in
    record {
      built = lives.built;
      began = let more = seat_more old.part old.made in omega (arith, more, is);
      living = subst (λ c. Living old.held role old.part seat old.made past c actor) (sym first) (record {
        since = [];
        are = no_life old.held old.part seat old.made past none.0 (let b = lives.began in omega (arith, b, later));
        played = Starts refl refl (subst (λ r. IsNew r actor) its new) stands;
      });
      ended = λ s low under. each_lasted role old past told idle plays lives s low (omega (arith, under, is, within));
      unborn = λ s after under. lives.unborn s (omega (arith, later, after)) under;
    }

-- a call was made
pub made_lives : (role : Role) (mid : Player) (given actor : ActorState) (request : Request) (fate : Fate) (b : Bool) (before after : List Entry)
    (told : ℕ → List Entry) (idle : ℕ → List Call) → mid.seat ≡ seat_at mid.part (mid.made + 1) → fate ≡ fate_of mid.part.losses (mid.made + 1)
    → AreRows (all_objects mid.actor.caches) → IsTurn mid.actor given (nexts.Call request)
    → ((mine : List Entry) → StandsFor mid.actor mine → StandsFor given mine) → GoesOn mid.seat b fate request before after given actor
    → ((other : ℕ) → other ≢ mid.seat → own other after ≡ own other before) → Plays mid before told → Lives role mid before idle
    → Lives role (record mid { made = mid.made + 1; held = and_held b (mid.made + 1) mid.held; actor = actor }) after idle
made_lives role mid given actor request fate b before after told idle is lost order turn keeps goes others plays lives =
    let living = lives.living in
    let calls = living.since ++ idle mid.seat in
    let stands = stands_now role mid.actor calls (played_on role mid.actor (idle mid.seat) living.since living.played) in
    let went = goes role mid.actor (idle mid.seat) living.since living.played (record { order = order; turn = turn; stands = keeps (entries calls) stands }) living.are.of_seat in
    record {
      built = lives.built;
      began = omega (arith, is);
      living = record {
        since = went.call ∷ living.since;
        are = record {
          of_seat = went.own;
          left = ap (λ c. c ∷ map is_some calls) (went.left ∙ ap (λ f. not b && leaves_entry f) lost ∙ ap (λ h. not h && leaves_entry (fate_of mid.part.losses (mid.made + 1))) (sym here))
              ∙ ap (λ bs. (not (is_held held (mid.made + 1)) && leaves_entry (fate_of mid.part.losses (mid.made + 1))) ∷ bs)
              (living.are.left ∙ sym (left_agree held mid.held mid.part mid.seat mid.made agree)) ∙ sym (left_own held mid.part mid.seat mid.made is);
        };
        played = went.played;
      };
      ended = λ s low below.
          kept_life mid.held held role mid.part s mid.made (mid.made + 1) before after (idle s) (others s (λ e. absurd (omega (arith, e, below))))
          (left_other held mid.part s mid.made (λ e. absurd (omega (arith, e, is, below))) ∙ left_agree held mid.held mid.part s mid.made agree) (lives.ended s low below);
      unborn = lives.unborn;
    }
  where
    held : List ℕ
    held = and_held b (mid.made + 1) mid.held

    here : is_held held (mid.made + 1) ≡ b
    here = held_own b (mid.made + 1) mid.held (plays.ahead (mid.made + 1) (omega arith))

    agree : AgreeTo mid.made held mid.held
    agree = agree_more b mid.made mid.held

-- the turn gave none
pub idle_lives : (role : Role) (mid : Player) (given : ActorState) (past : List Entry) (idle : ℕ → List Call)
    → AreRows (all_objects mid.actor.caches) → IsTurn mid.actor given nexts.Idle
    → ((mine : List Entry) → StandsFor mid.actor mine → StandsFor given mine) → Lives role mid past idle → LivesIdle role (record mid { actor = given }) past idle
idle_lives role mid given past idle order turn keeps lives =
    let living = lives.living in
    let calls = living.since ++ idle mid.seat in
    let stands = stands_now role mid.actor calls (played_on role mid.actor (idle mid.seat) living.since living.played) in
    record {
      before = mid.actor;
      lives = lives;
      turns = record { order = order; turn = turn; stands = subst (StandsFor given) living.are.of_seat (keeps (entries calls) stands) };
    }

at_seat : (seat : ℕ) (calls : List Call) (idle : ℕ → List Call) → and_idle seat calls idle seat ≡ calls
at_seat seat calls idle = let same : (seat == seat) ≡ true = (Decides-eqb seat seat).1 refl in rw same refl

at_other : (seat other : ℕ) (calls : List Call) (idle : ℕ → List Call) → other ≢ seat → and_idle seat calls idle other ≡ idle other
at_other seat other calls idle differs = by (other == seat) refl
  where
    by : (b : Bool) → (other == seat) ≡ b → and_idle seat calls idle other ≡ idle other
    by true e = absurd (differs ((Decides-eqb other seat).0 e))
    by false e = rw e refl

-- and the actor is woken: its life has done what it was told
pub woken_lives : (role : Role) (calls : ℕ) (old p : Player) (actor : ActorState) (past : List Entry) (idle : ℕ → List Call)
    → p.made < old.made + calls → actor ≡ woken p.actor → ((mine : List Entry) → StandsFor p.actor mine → StandsFor actor mine) → LivesIdle role p past idle
    → LivedFewer role calls past idle old (record p { actor = actor })
woken_lives role calls old p actor past idle few is keeps was = record {
  few = few;
  played = played_so_far role (record p { actor = was.before }) past idle was.lives;
  since = living.since;
  idle_is = record { are = living.are; state = was.before; played = living.played; turned = p.actor; turns = was.turns };
  lives = record {
    built = was.lives.built;
    began = was.lives.began;
    living = subst (λ c. Living p.held role p.part p.seat p.made past c actor) (sym (at_seat p.seat made idle)) (record {
      since = [];
      are = living.are;
      played = Resumes was.before p.actor (idle p.seat) living.since living.played refl refl turns is (keeps (entries made) turns.stands);
    });
    ended = λ s low below. subst (IsPlayedLife p.held role p.part s p.made past) (sym (at_other p.seat s made idle (λ e. absurd (omega (arith, e, below))))) (was.lives.ended s low below);
    unborn = λ s after below. at_other p.seat s made idle (λ e. absurd (omega (arith, e, after))) ∙ was.lives.unborn s after below;
  };
}
  where
    living : Living p.held role p.part p.seat p.made past (idle p.seat) was.before
    living = was.lives.living

    made : List Call
    made = living.since ++ idle p.seat

    turns : Turns was.before p.actor nexts.Idle (entries made)
    turns = record { order = was.turns.order; turn = was.turns.turn; stands = subst (StandsFor p.actor) (sym living.are.of_seat) was.turns.stands }

-- a turn in which all calls were made
pub lived_all : (role : Role) (calls : ℕ) (old p : Player) (past : List Entry) (idle : ℕ → List Call) → p.made ≡ old.made + calls → Lives role p past idle → LivedAll role calls past idle old p
lived_all role calls old p past idle made lives = record { made = made; played = played_so_far role p past idle lives; lives = lives }

-- entries of other seats leave the lives
pub lives_on : (role : Role) (x : Player) (h later : List Entry) (idle then_idle : ℕ → List Call) → IsLife x.part x.seat
    → ((seat : ℕ) → IsLife x.part seat → own seat later ≡ own seat h) → ((seat : ℕ) → IsLife x.part seat → then_idle seat ≡ idle seat) → Lives role x h idle → Lives role x later then_idle
lives_on role x h later idle then_idle at same same_idle lives = record {
  built = lives.built;
  began = lives.began;
  living = subst (λ c. Living x.held role x.part x.seat x.made later c x.actor) (sym (same_idle x.seat at))
      (record { since = lives.living.since; are = record { of_seat = lives.living.are.of_seat ∙ sym (same x.seat at); left = lives.living.are.left }; played = lives.living.played });
  ended = λ seat low below.
      let high = at.1 in
      let life : IsLife x.part seat = (low, omega (arith, below, high)) in
      subst (IsPlayedLife x.held role x.part seat x.made later) (sym (same_idle seat life))
      (kept_life x.held x.held role x.part seat x.made x.made h later (idle seat) (same seat life) refl (lives.ended seat low below));
  unborn = λ seat after below. same_idle seat (let a = at.0 in omega (arith, a, after), below) ∙ lives.unborn seat after below;
}

-- ---- the beginning

none_before : (restarts : List ℕ) → restarts_before 0 restarts ≡ 0
none_before [] = refl
none_before (after ∷ restarts) = by (nat_lt after 0) refl (none_before restarts)
  where
    by : (b : Bool) → nat_lt after 0 ≡ b → restarts_before 0 restarts ≡ 0 → restarts_before 0 (after ∷ restarts) ≡ 0
    by true e h = absurd (grind (arith, nat_tests))
    by false e h = rw e h

pub new_lives : (role : Role) (x : Player) → IsNewPlayer role x → Lives role x [] (λ seat. [])
new_lives role x is = record {
  built = is.built;
  began = let first : seat_at x.part x.made ≡ x.part.first + 0 = ap (seat_at x.part) is.made ∙ ap (λ n. x.part.first + n) (none_before x.part.restarts) in let s = is.seat in omega (arith, first, s);
  living = record { since = []; are = record { of_seat = refl; left = sym (ap (left_by x.held x.part x.seat) is.made) }; played = Starts refl refl is.new is.stands };
  ended = λ seat low below. absurd (let s = is.seat in omega (arith, s, low, below));
  unborn = λ seat after below. refl;
}
