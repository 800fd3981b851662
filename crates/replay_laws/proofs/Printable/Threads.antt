-- What a run on threads brings about has only values that a text can give.
use Rattle.std.proofs.Common.{refl, sym, subst, inl, inr, true≢false, arith}
use Rattle.std.proofs.lemmas.Bool.Decides.{Decides-eqb, nat_tests}
use Rattle.std.proofs.lemmas.List.{length-append, length-map, reverse-append}
use Rattle.std.proofs.lemmas.List.Elements.{All-nil, All-cons, All-head, All-tail, All-map, All-pop}
use Rattle.std.specs.Prelude.{◌≡◌, ℕ, ◌≤◌, ◌<◌, ◌⊎◌, ◌+◌, ◌*◌, zero, suc, ◌==◌, nat_lt, Bool, true, false, List, [], ◌∷◌, ◌++◌, Option, Some, All, length, map, reverse, take, if◌then◌else◌}
use Rattle.plain_data.specs.Pairs.{Pair}
use Rattle.kube_objects.specs.declared.objects.Object.{Object}
use Rattle.call_types.specs.declared.entry.Entry.{Entry}
use Rattle.call_types.specs.declared.request.SeatKind.{SeatKind}
use Rattle.call_types.specs.declared.request.Request.{Request}
use Rattle.binder_model.specs.Answers.{is_user}
use Rattle.binder_model.specs.Told.{own}
use Rattle.world_core.specs.declared.drained.Drained.{Drained}
use Rattle.history_laws.specs.Read.Given.{IsNumber, IsRequest}
use Rattle.script_lines.specs.declared.actors.WorkerKind.{WorkerKind}
use Rattle.script_lines.specs.declared.actors.Worker.{Worker as WorkerData}
use Rattle.script_lines.specs.declared.actors.WorkerKind.TheVariants.{Binder, Ops, Scheduler, Claims, Volumes}
use Rattle.script_lines.specs.declared.actors.Actor.{Actor}
use Rattle.script_lines.specs.declared.actors.Actor.TheVariants.{Worker, Agent}
use Rattle.script_lines.specs.Actors.{actor_word, four}
use Rattle.script_text.specs.declared.script.Line.{Line}
use Rattle.script_text.specs.declared.script.Line.TheVariants.{Call, Lose, Restart, Turn, Drain}
use Rattle.script_text.specs.declared.script.Script.{Script}
use Rattle.script_text.specs.Said.{agents_of, restarts_of}
use Rattle.script_laws.specs.Read.Scripts.{AreLinesAfter, IsScript}
use Rattle.actor_turns.specs.Calls.{seat_at}
use Rattle.shared_work.specs.Lines.{AreOfLines, asked_by, asked_if, asked_in, call_of, user_call}
use Rattle.script_runs.proofs.Casting.{few_restarts}
use Rattle.script_threads.specs.Started.{EachStarted, after_lives, drain_seat, seat_after, started, started_for, started_part, workers_of}
use Rattle.script_threads.specs.Threads.{HasMadeCalls, IsThreadedWork}
use Rattle.script_runs.proofs.Draining.{new_ones_are_drainers}
use Rattle.script_threads.specs.Runs.{IsRun, progress_after}
use Rattle.history_laws.specs.Runs.Laws.{IsAskedGiven, IsGivenRun}
use Rattle.history_laws.proofs.Runs.Runs.{runs_give, run_texts_have_one}
use Rattle.replay_laws.specs.Printable.Laws.{IsMadeByThreads, ThreadsGive, ThreadTextsHaveOne}
use Rattle.replay_laws.proofs.Printable.Setups.{script_setups_give, users_ask}
use Rattle.replay_laws.proofs.Printable.Seats.{before_restarts, lines_few, nodes_few}
use Rattle.replay_laws.proofs.Printable.Replays.{AreFine, asked, calls_fine, drain_fine, fine_asked, fine_told, no_actor_is_user, nothing_fine}

-- ---- entries by their seats

module _ (P : Entry → Type 0) where
  first_of : (e : Entry) (xs : List Entry) (b : Bool) → b ≡ true → All P (if b then e ∷ xs else xs) → P e
  first_of e xs true is h = All-head P e xs h
  first_of e xs false is h = absurd (true≢false (sym is))

  rest_of : (e : Entry) (xs : List Entry) (b : Bool) → All P (if b then e ∷ xs else xs) → All P xs
  rest_of e xs true h = All-tail P e xs h
  rest_of e xs false h = h

  -- what holds of each seat's entries holds of all
  by_seats : (past : List Entry) → ((seat : ℕ) → All P (own seat past)) → All P past
  by_seats [] h = All-nil P
  by_seats (e ∷ past) h =
      All-cons P e past (first_of e (own e.seat past) (e.seat == e.seat) ((Decides-eqb e.seat e.seat).1 refl) (h e.seat))
      (by_seats past (λ (seat : ℕ). rest_of e (own seat past) (e.seat == seat) (h seat)))

  with_mine : (e : Entry) (xs : List Entry) (b : Bool) → P e → All P xs → All P (if b then e ∷ xs else xs)
  with_mine e xs true p h = All-cons P e xs p h
  with_mine e xs false p h = h

  -- and what holds of all holds of a seat's
  of_seat : (seat : ℕ) (past : List Entry) → All P past → All P (own seat past)
  of_seat seat [] h = All-nil P
  of_seat seat (e ∷ past) h = with_mine e (own seat past) (e.seat == seat) (All-head P e past h) (of_seat seat past (All-tail P e past h))

-- ---- lists

module _ {X : Type 0} where
  unreversed : (P : X → Type 0) (xs : List X) → All P (reverse xs) → All P xs
  unreversed P [] h = All-nil P
  unreversed P (x ∷ xs) h =
      let parts = All-pop P (reverse (x ∷ xs)) (reverse xs) (Some x) (reverse-append (x ∷ []) xs) h in
      All-cons P x xs parts.1 (unreversed P xs parts.0)

  unmapped : {Y : Type 0} (P : Y → Type 0) (f : X → Y) (xs : List X) → All P (map f xs) → All (λ x. P (f x)) xs
  unmapped P f [] h = All-nil (λ x. P (f x))
  unmapped P f (x ∷ xs) h = All-cons (λ x. P (f x)) x xs (All-head P (f x) (map f xs) h) (unmapped P f xs (All-tail P (f x) (map f xs) h))

  joined : (P : X → Type 0) (xs ys : List X) → All P xs → All P ys → All P (xs ++ ys)
  joined P [] ys h k = k
  joined P (x ∷ xs) ys h k = All-cons P x (xs ++ ys) (All-head P x xs h) (joined P xs ys (All-tail P x xs h) k)

lt_or : (a b : ℕ) → (a < b) ⊎ (b ≤ a)
lt_or a b = by (nat_lt a b) refl
  where
    by : (t : Bool) → nat_lt a b ≡ t → (a < b) ⊎ (b ≤ a)
    by true is = inl (grind (arith, nat_tests))
    by false is = inr (grind (arith, nat_tests))

-- ---- users

asked_in_given : (user : ℕ) (agents : List Pair) (imports : List Object) (earlier : List Line) (line : Line) (lines : List Line)
    → AreLinesAfter imports agents earlier (line ∷ lines) → All IsRequest (asked_in user line)
asked_in_given user agents imports earlier (Call by request) lines is = when (by == user)
  where
    when : (b : Bool) → All IsRequest (asked_if b request)
    when true = All-cons IsRequest request [] (users_ask request is.0.1) (All-nil IsRequest)
    when false = All-nil IsRequest
asked_in_given user agents imports earlier (Lose actor call after) lines is = All-nil IsRequest
asked_in_given user agents imports earlier (Restart actor after) lines is = All-nil IsRequest
asked_in_given user agents imports earlier (Turn actor calls) lines is = All-nil IsRequest
asked_in_given user agents imports earlier Drain lines is = All-nil IsRequest

asked_given : (user : ℕ) (agents : List Pair) (imports : List Object) (earlier lines : List Line)
    → AreLinesAfter imports agents earlier lines → All IsRequest (asked_by user lines)
asked_given user agents imports earlier [] is = All-nil IsRequest
asked_given user agents imports earlier (line ∷ lines) is =
    joined IsRequest (asked_in user line) (asked_by user lines) (asked_in_given user agents imports earlier line lines is)
    (asked_given user agents imports (earlier ++ line ∷ []) lines is.2)

-- the seat is a number, and a text can give what is asked
abbrev IsGivenCall : ℕ × SeatKind × Request × Bool → Type 0
IsGivenCall call = IsNumber call.0 × IsRequest call.2

users_given : (user : ℕ) (lines : List Line) (mine : List Entry) → user < 5 → All IsRequest (asked_by user lines) → AreOfLines user lines mine → All IsAskedGiven mine
users_given user lines mine few asks are =
    let number : IsNumber user = omega (arith, few) in
    let calls : All IsGivenCall (map (user_call user) (asked_by user lines)) = All-map IsGivenCall (user_call user) (asked_by user lines) (given number (asked_by user lines) asks) in
    let entries = unmapped IsGivenCall call_of (reverse mine) (subst (All IsGivenCall) (sym are) calls) in
    unreversed IsAskedGiven mine (each (reverse mine) entries)
  where
    given : IsNumber user → (asks : List Request) → All IsRequest asks → All (λ r. IsGivenCall (user_call user r)) asks
    given number [] h = All-nil (λ r. IsGivenCall (user_call user r))
    given number (r ∷ rs) h =
        All-cons (λ r. IsGivenCall (user_call user r)) r rs (number, All-head IsRequest r rs h) (given number rs (All-tail IsRequest r rs h))

    each : (es : List Entry) → All (λ e. IsGivenCall (call_of e)) es → All IsAskedGiven es
    each [] h = All-nil IsAskedGiven
    each (e ∷ es) h =
        let here = All-head (λ e. IsGivenCall (call_of e)) e es h in
        All-cons IsAskedGiven e es (record { seat = here.0; request = λ u. here.1 }) (each es (All-tail (λ e. IsGivenCall (call_of e)) e es h))

-- ---- actors

-- a life's seat
started_seat : (lines : List Line) (actor : Actor) (first n : ℕ) → length lines ≤ 4096 → first ≤ 16863257 → IsNumber (seat_at (started_part lines actor first) n)
started_seat lines actor first n few low =
    let restarts = few_restarts (actor_word actor) lines in
    let before = before_restarts n (restarts_of (actor_word actor) lines) in
    omega (arith, few, low, restarts, before)

lives_few : (lines : List Line) (actor : Actor) (first : ℕ) → length lines ≤ 4096 → after_lives (started_part lines actor first) ≤ first + 4097
lives_few lines actor first few = let restarts = few_restarts (actor_word actor) lines in omega (arith, restarts, few)

all_few : (lines : List Line) (actors : List Actor) (first : ℕ) → length lines ≤ 4096 → seat_after lines first actors ≤ first + 4097 * length actors
all_few lines [] first few = omega arith
all_few lines (actor ∷ actors) first few =
    let here = lives_few lines actor first few in
    let rest = all_few lines actors (after_lives (started_part lines actor first)) few in
    omega (arith, here, rest)

actor_given : (lines : List Line) (calls : ℕ) (past : List Entry) (actor : Actor) (first : ℕ) → length lines ≤ 4096 → first ≤ 16863257
    → (h : HasMadeCalls calls past actor (started_part lines actor first)) → All IsAskedGiven h.mine
actor_given lines calls past actor first few low h =
    let part = started_part lines actor first in
    let fine : AreFine h.mine = calls_fine part h.mine (λ (n : ℕ). started_seat lines actor first n few low) (no_actor_is_user actor) 1 h.made [] h.calls_are nothing_fine in
    asked h.mine fine.seats fine.users

actors_given : (lines : List Line) (calls : ℕ) (past : List Entry) (actors : List Actor) (first seat : ℕ) → length lines ≤ 4096 → first + 4097 * length actors ≤ 16863257
    → EachStarted (HasMadeCalls calls past) lines first actors → first ≤ seat → seat < seat_after lines first actors → All IsAskedGiven (own seat past)
actors_given lines calls past [] first seat few low each from below = absurd (omega (arith, from, below))
actors_given lines calls past (actor ∷ actors) first seat few low each from below =
    let lives = lives_few lines actor first few in
    let low_rest : after_lives (started_part lines actor first) + 4097 * length actors ≤ 16863257 = omega (arith, low, lives) in
    by (λ (later : after_lives (started_part lines actor first) ≤ seat). actors_given lines calls past actors (after_lives (started_part lines actor first)) seat few low_rest each.1 later below)
    (lt_or seat (after_lives (started_part lines actor first)))
  where
    by : (after_lives (started_part lines actor first) ≤ seat → All IsAskedGiven (own seat past))
        → (seat < after_lives (started_part lines actor first)) ⊎ (after_lives (started_part lines actor first) ≤ seat) → All IsAskedGiven (own seat past)
    by rest (inl here) =
        let low_first : first ≤ 16863257 = omega (arith, low) in
        subst (All IsAskedGiven) (sym (each.0.own_are seat (from, here)))
        (of_seat IsAskedGiven seat each.0.mine (actor_given lines calls past actor first few low_first each.0))
    by rest (inr later) = rest later

-- ---- how many are started

take_few : {X : Type 0} (n : ℕ) (xs : List X) → length (take n xs) ≤ length xs
take_few zero xs = omega arith
take_few (suc n) [] = omega arith
take_few (suc n) (x ∷ xs) = let rest = take_few n xs in omega (arith, rest)

four_few : (workers : ℕ) (kind : WorkerKind) → length (workers_of workers kind) ≤ 4
four_few workers kind = take_few workers (map (λ (w : WorkerData). Worker w) (four kind))

started_few : (workers : ℕ) (nodes : List (List ℕ)) → length (started_for workers nodes) ≤ 20 + length nodes
started_few workers nodes =
    let agents : List Actor = map (λ (node : List ℕ). Agent node) nodes in
    let fifth : List Actor = workers_of workers Volumes ++ agents in
    let fourth : List Actor = workers_of workers Claims ++ fifth in
    let third : List Actor = workers_of workers Scheduler ++ fourth in
    let second : List Actor = workers_of workers Ops ++ third in
    let a = four_few workers Binder in
    let b = four_few workers Ops in
    let c = four_few workers Scheduler in
    let d = four_few workers Claims in
    let e = four_few workers Volumes in
    let f = length-map nodes (λ (node : List ℕ). Agent node) in
    let g = length-append (workers_of workers Binder) second in
    let h = length-append (workers_of workers Ops) third in
    let i = length-append (workers_of workers Scheduler) fourth in
    let j = length-append (workers_of workers Claims) fifth in
    let k = length-append (workers_of workers Volumes) agents in
    omega (arith, a, b, c, d, e, f, g, h, i, j, k)

module _ (script : Script) (is : IsScript script) (workers : ℕ) where
  bounded : 5 + 4097 * length (started workers script) ≤ 16863257
  bounded =
      let few = nodes_few script is in
      let many = started_few workers script.node_names in
      omega (arith, few, many)

  high : drain_seat workers script ≤ 16863257
  high =
      let most = all_few script.lines (started workers script) 5 (lines_few script is) in
      let few = bounded in
      omega (arith, most, few)

  -- ---- the whole

  work_given : (calls : ℕ) (past : List Entry) → IsThreadedWork script workers calls past → All IsAskedGiven past
  work_given calls past work = by_seats IsAskedGiven past (λ (seat : ℕ). by seat (lt_or 0 seat) (lt_or seat 5) (lt_or seat (drain_seat workers script)))
    where
      nobody : (seat : ℕ) → (seat ≡ 0) ⊎ (drain_seat workers script ≤ seat) → All IsAskedGiven (own seat past)
      nobody seat none = subst (All IsAskedGiven) (sym (work.others seat none)) (All-nil IsAskedGiven)

      by : (seat : ℕ) → (0 < seat) ⊎ (seat ≤ 0) → (seat < 5) ⊎ (5 ≤ seat) → (seat < drain_seat workers script) ⊎ (drain_seat workers script ≤ seat) → All IsAskedGiven (own seat past)
      by seat (inr none) few below = nobody seat (inl (omega (arith, none)))
      by seat (inl some) (inl few) below =
          users_given seat script.lines (own seat past) few
          (asked_given seat (agents_of script.setup.imports script.lines) script.setup.imports [] script.lines is.lines)
          (work.done.users seat some few)
      by seat (inl some) (inr from) (inr after) = nobody seat (inr after)
      by seat (inl some) (inr from) (inl below) =
          actors_given script.lines calls past (started workers script) 5 seat (lines_few script is) bounded work.done.actors from below

  fine_of : (past : List Entry) → All IsAskedGiven past → AreFine past
  fine_of [] h = nothing_fine
  fine_of (e ∷ past) h = when (fine_of past (All-tail IsAskedGiven e past h)) (is_user e.kind) refl
    where
      here : IsAskedGiven e
      here = All-head IsAskedGiven e past h

      when : AreFine past → (b : Bool) → is_user e.kind ≡ b → AreFine (e ∷ past)
      when rest true user = fine_asked e past here.seat (here.request user) rest
      when rest false other = fine_told e past here.seat other rest

  threads_fine : (calls : ℕ) (budget : Option ℕ) (past : List Entry) (ending : Drained) → IsRun script workers calls budget past ending → AreFine past
  threads_fine calls budget past ending run =
      subst AreFine (sym run.history)
      (drain_fine script (drain_seat workers script) budget (progress_after run.worked budget run.drainers) run.end is high run.last
      (new_ones_are_drainers script (drain_seat workers script) budget (progress_after run.worked budget run.drainers) run.new)
      (fine_of run.worked (work_given calls run.worked run.work)))

pub made_by_threads : (script : Script) (workers calls : ℕ) (budget : Option ℕ) (past : List Entry) (ending : Drained)
    → IsMadeByThreads script workers calls budget past ending → IsGivenRun script.setup past
made_by_threads script workers calls budget past ending h =
    let fine = threads_fine script h.script_given workers calls budget past ending h.calls_are in
    record { setup_given = script_setups_give script h.script_given; short = h.short; asked = asked past fine.seats fine.users; run = h.run }

pub threads_give : ThreadsGive
threads_give script workers calls budget past ending h = runs_give script.setup past (made_by_threads script workers calls budget past ending h)

pub thread_texts_have_one : ThreadTextsHaveOne
thread_texts_have_one script workers calls budget past ending lines h = run_texts_have_one script.setup past lines (made_by_threads script workers calls budget past ending h)
