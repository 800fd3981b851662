-- What a replay brings about has only values that a text can give.
use Rattle.std.proofs.Common.{refl, sym, subst, ◌∙◌, inl, inr, true≢false, arith}
use Rattle.std.specs.Prelude.{◌≡◌, ℕ, ◌≤◌, Bool, true, false, cond, List, [], ◌∷◌, ◌++◌, Option, All}
use Rattle.std.proofs.lemmas.List.Elements.{All-nil, All-cons, All-head, All-tail}
use Rattle.plain_data.specs.Pairs.{Pair}
use Rattle.call_types.specs.declared.entry.Entry.{Entry}
use Rattle.call_types.specs.declared.request.SeatKind.{SeatKind}
use Rattle.binder_model.specs.Answers.{is_user}
use Rattle.world_core.specs.declared.drained.Drained.{Drained}
use Rattle.actor_rounds.specs.Longer.{IsOneOf, AreToldOf, users_of}
use Rattle.history_laws.specs.Read.Given.{IsNumber, IsRequest}
use Rattle.script_lines.specs.declared.actors.WorkerKind.{WorkerKind}
use Rattle.script_lines.specs.declared.actors.WorkerKind.TheVariants as workers
use Rattle.script_lines.specs.declared.actors.Actor.{Actor}
use Rattle.script_lines.specs.declared.actors.Actor.TheVariants.{Worker, Agent}
use Rattle.script_text.specs.declared.script.Line.{Line}
use Rattle.script_text.specs.declared.script.Line.TheVariants.{Call, Lose, Restart, Turn, Drain}
use Rattle.script_text.specs.declared.script.Script.{Script}
use Rattle.script_text.specs.Said.{agents_of}
use Rattle.script_laws.specs.Read.Given.{IsLineAfter}
use Rattle.script_laws.specs.Read.Scripts.{AreLinesAfter, IsScript}
use Rattle.actor_turns.specs.declared.loss.Fate.{Fate}
use Rattle.actor_turns.specs.declared.loss.Fate.TheVariants.{Told, LostBefore, LostAfter}
use Rattle.actor_turns.specs.declared.part.Part.{Part}
use Rattle.actor_turns.specs.Fates.{fate_of}
use Rattle.script_runs.specs.Parts.{kind_of_worker, seat_kind_of, drain_seat, part_of, role_of}
use Rattle.actor_turns.specs.Calls.{seat_at, IsOneMore, IsCallWith, AreCalls, NoCalls, MoreCalls}
use Rattle.actor_rounds.specs.Rounds.{all_pass}
use Rattle.script_runs.proofs.Draining.{all_lines_keep_drainers, drains_come_to, lines_keep_drainers, new_ones_are_drainers}
use Rattle.actor_rounds.specs.Drainers.{seats_for}
use Rattle.script_runs.specs.Drains.{AreDrainers}
use Rattle.script_runs.specs.Replays.{Progress, first_progress, IsTurnLine, IsDrain, IsMove, AreMoves, NoMoves, MoreMoves, IsReplay}
use Rattle.history_laws.specs.Runs.Laws.{IsAskedGiven, IsGivenRun}
use Rattle.history_laws.proofs.Runs.Runs.{runs_give, run_texts_have_one}
use Rattle.replay_laws.specs.Printable.Laws.{IsReplayedRun, ReplaysGive, ReplayTextsHaveOne}
use Rattle.replay_laws.proofs.Printable.Setups.{count_most, script_setups_give, users_ask}
use Rattle.replay_laws.proofs.Printable.Seats.{life_seat, drain_high, drainer_seat}

abbrev pub HasSeat : Entry → Type 0
HasSeat e = IsNumber e.seat

abbrev pub AsksGiven : Entry → Type 0
AsksGiven e = IsRequest e.request

-- the seats are numbers, and the users ask what a text can give
pub record AreFine (past : List Entry) : Type 0 where
  pub seats : All HasSeat past
  pub users : All AsksGiven (users_of past)

pub nothing_fine : AreFine []
nothing_fine = record { seats = All-nil HasSeat; users = All-nil AsksGiven }

pub fine_asked : (e : Entry) (past : List Entry) → HasSeat e → AsksGiven e → AreFine past → AreFine (e ∷ past)
fine_asked e past seat asks h = record { seats = All-cons HasSeat e past seat h.seats; users = by (is_user e.kind) }
  where
    by : (b : Bool) → All AsksGiven (cond b (e ∷ users_of past) (users_of past))
    by true = All-cons AsksGiven e (users_of past) asks h.users
    by false = h.users

pub fine_told : (e : Entry) (past : List Entry) → HasSeat e → is_user e.kind ≡ false → AreFine past → AreFine (e ∷ past)
fine_told e past seat other h = record { seats = All-cons HasSeat e past seat h.seats; users = by (is_user e.kind) other }
  where
    by : (b : Bool) → b ≡ false → All AsksGiven (cond b (e ∷ users_of past) (users_of past))
    by true none = absurd (true≢false none)
    by false none = h.users

-- ---- a turn's calls

more_fine : (seat : ℕ) (kind : SeatKind) (told : Bool) (past new : List Entry) → IsNumber seat → is_user kind ≡ false → IsOneMore all_pass seat kind told past new → AreFine past → AreFine new
more_fine seat kind told past new is other more h = subst AreFine (sym more.is) (fine_told _ past is other h)

call_fine : (fate : Fate) (seat : ℕ) (kind : SeatKind) (past new : List Entry) → IsNumber seat → is_user kind ≡ false → IsCallWith all_pass fate seat kind past new → AreFine past → AreFine new
call_fine Told seat kind past new is other call h = more_fine seat kind true past new is other call h
call_fine LostAfter seat kind past new is other call h = more_fine seat kind false past new is other call h
call_fine LostBefore seat kind past new is other call h = subst AreFine (sym call) h

pub calls_fine : (part : Part) (new : List Entry) → ((n : ℕ) → IsNumber (seat_at part n)) → is_user part.kind ≡ false
    → (n count : ℕ) (past : List Entry) → AreCalls all_pass [] part new n count past → AreFine past → AreFine new
calls_fine part new is other n count past (NoCalls none same) h = subst AreFine (sym same) h
calls_fine part new is other n count past (MoreCalls rest middle some call more) h =
    calls_fine part new is other _ rest middle more (call_fine (fate_of part.losses n) (seat_at part n) part.kind past middle (is n) other call h)

turn_fine : (actor : Actor) (part : Part) (calls : ℕ) (before after : Progress) → ((n : ℕ) → IsNumber (seat_at part n)) → is_user part.kind ≡ false
    → IsTurnLine all_pass [] (role_of actor) part calls before after → AreFine before.past → AreFine after.past
turn_fine actor part calls before after is other (inl all) h = subst (λ (p : Progress). AreFine p.past) (sym all.is) (calls_fine part all.past is other _ _ before.past all.made h)
turn_fine actor part calls before after is other (inr few) h = subst (λ (p : Progress). AreFine p.past) (sym few.is) (calls_fine part few.past is other _ _ before.past few.made h)

no_worker_is_user : (kind : WorkerKind) → is_user (kind_of_worker kind) ≡ false
no_worker_is_user workers.Binder = refl
no_worker_is_user workers.Ops = refl
no_worker_is_user workers.Scheduler = refl
no_worker_is_user workers.Claims = refl
no_worker_is_user workers.Volumes = refl

pub no_actor_is_user : (actor : Actor) → is_user (seat_kind_of actor) ≡ false
no_actor_is_user (Worker w) = no_worker_is_user w.kind
no_actor_is_user (Agent node) = refl

-- ---- a drain's

told_seats : (some : List ℕ) (es past : List Entry) → ((seat : ℕ) → IsOneOf some seat → IsNumber seat) → AreToldOf some es → All HasSeat past → All HasSeat (es ++ past)
told_seats some [] past is told h = h
told_seats some (e ∷ es) past is told h = All-cons HasSeat e _ (is e.seat told.0) (told_seats some es past is told.2 h)

-- a drain whose first seat is this one
pub drain_fine : (script : Script) (first : ℕ) (option : Option ℕ) (before after : Progress)
    → IsScript script → first ≤ 16863257 → IsDrain all_pass script option before after → AreDrainers script first option before → AreFine before.past → AreFine after.past
drain_fine script first option before after is high d are h =
    let comes = drains_come_to all_pass script option before after d in
    let entries = comes.entries.longer in
    let of_seats = subst (λ (ss : List ℕ). AreToldOf ss entries.added) are.seats entries.of_seats in
    record {
      seats = subst (All HasSeat) (sym entries.are) (told_seats (seats_for first script.node_names) entries.added before.past (drainer_seat script is first high) of_seats h.seats);
      users = subst (All AsksGiven) (sym comes.users) h.users;
    }

-- ---- a line

user_seat : (user : ℕ) → user ≤ 4 → IsNumber user
user_seat user few = omega (arith, few)

line_fine : (script : Script) (option : Option ℕ) (agents : List Pair) (earlier : List Line) (line : Line) (before after : Progress)
    → IsScript script → IsLineAfter agents earlier line → IsMove script option line before after
    → AreDrainers script (drain_seat script) option before → AreFine before.past → AreFine after.past
line_fine script option agents earlier (Call user request) before after is given move are h =
    subst (λ (p : Progress). AreFine p.past) (sym move.is) (fine_asked _ before.past (user_seat user (count_most 4 user given.0)) (users_ask request given.1) h)
line_fine script option agents earlier (Lose actor call lost) before after is given move are h = subst (λ (p : Progress). AreFine p.past) (sym move) h
line_fine script option agents earlier (Restart actor calls) before after is given move are h = subst (λ (p : Progress). AreFine p.past) (sym move) h
line_fine script option agents earlier (Turn actor calls) before after is given move are h =
    turn_fine actor (part_of script actor) calls before after (life_seat script is actor) (no_actor_is_user actor) move h
line_fine script option agents earlier Drain before after is given move are h = drain_fine script (drain_seat script) option before after is (drain_high script is) move are h

-- ---- the lines

moves_fine : (script : Script) (option : Option ℕ) (end : Progress) (agents : List Pair) → IsScript script → (earlier lines : List Line) (now : Progress)
    → AreLinesAfter script.setup.imports agents earlier lines → AreMoves script option end lines now
    → AreDrainers script (drain_seat script) option now → AreFine now.past → AreFine end.past
moves_fine script option end agents is earlier lines now given (NoMoves none same) are h = subst (λ (p : Progress). AreFine p.past) (sym same) h
moves_fine script option end agents is earlier lines now given (MoreMoves line rest next here move more) are h =
    let these = subst (AreLinesAfter script.setup.imports agents earlier) here given in
    moves_fine script option end agents is (earlier ++ line ∷ []) rest next these.2 more
    (lines_keep_drainers script (drain_seat script) option line now next move are) (line_fine script option agents earlier line now next is these.0 move are h)

replay_fine : (script : Script) (budget : Option ℕ) (past : List Entry) (ending : Drained) → IsScript script → IsReplay script budget past ending → AreFine past
replay_fine script budget past ending is replay =
    subst AreFine (sym replay.history)
    (drain_fine script (drain_seat script) budget replay.lines_done replay.end is (drain_high script is) replay.last
    (all_lines_keep_drainers script (drain_seat script) budget replay.lines_done script.lines first replay.moves new)
    (moves_fine script budget replay.lines_done (agents_of script.setup.imports script.lines) is [] script.lines first is.lines replay.moves new nothing_fine))
  where
    first : Progress
    first = first_progress budget replay.drainers

    new : AreDrainers script (drain_seat script) budget first
    new = new_ones_are_drainers script (drain_seat script) budget first replay.new

-- ---- the history

first_asks : (e : Entry) (past : List Entry) → All AsksGiven (users_of (e ∷ past)) → (is_user e.kind ≡ true → AsksGiven e) × All AsksGiven (users_of past)
first_asks e past h = by (is_user e.kind) refl h
  where
    by : (b : Bool) → is_user e.kind ≡ b → All AsksGiven (cond b (e ∷ users_of past) (users_of past)) → (is_user e.kind ≡ true → AsksGiven e) × All AsksGiven (users_of past)
    by true is all = (λ u. All-head AsksGiven e (users_of past) all, All-tail AsksGiven e (users_of past) all)
    by false is all = (λ u. absurd (true≢false (sym u ∙ is)), all)

pub asked : (past : List Entry) → All HasSeat past → All AsksGiven (users_of past) → All IsAskedGiven past
asked [] seats users = All-nil IsAskedGiven
asked (e ∷ past) seats users =
    let asks = first_asks e past users in
    All-cons IsAskedGiven e past (record { seat = All-head HasSeat e past seats; request = asks.0 }) (asked past (All-tail HasSeat e past seats) asks.1)

pub replayed_run : (script : Script) (budget : Option ℕ) (past : List Entry) (ending : Drained) → IsReplayedRun script budget past ending → IsGivenRun script.setup past
replayed_run script budget past ending h =
    let fine = replay_fine script budget past ending h.script_given h.replay in
    record { setup_given = script_setups_give script h.script_given; short = h.short; asked = asked past fine.seats fine.users; run = h.run }

pub replays_give : ReplaysGive
replays_give script budget past ending h = runs_give script.setup past (replayed_run script budget past ending h)

pub replay_texts_have_one : ReplayTextsHaveOne
replay_texts_have_one script budget past ending lines h = run_texts_have_one script.setup past lines (replayed_run script budget past ending h)
