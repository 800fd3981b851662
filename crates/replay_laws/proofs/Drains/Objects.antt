-- Users ask to create no more objects than lines create, so at most twice what the script imports and creates stands.
use Rattle.std.proofs.Common.{◌≡◌, ◌∙◌, ℕ, zero, suc, ◌+◌, ◌≤◌, ◌<◌, List, [], ◌∷◌, ◌++◌, map, reverse, cond, Bool, true, false, Option, inl, inr, refl, sym, ap, subst, arith}
use Rattle.std.specs.Prelude.{◌==◌, ◌&&◌, if◌then◌else◌, count_by, is_some}
use Rattle.std.proofs.lemmas.Bool.{ne_eqb}
use Rattle.std.proofs.lemmas.List.{reverse-append}
use Rattle.std.proofs.lemmas.List.Sums.{sum_by-append, sum_by-cons}
use Rattle.call_types.specs.declared.entry.Entry.{Entry}
use Rattle.call_types.specs.declared.request.Request.{Request}
use Rattle.call_types.specs.declared.request.Request.TheVariants as requests
use Rattle.call_types.specs.declared.request.SeatKind.{SeatKind}
use Rattle.call_types.specs.declared.request.SeatKind.TheVariants as seats
use Rattle.binder_model.specs.Answers.{is_user}
use Rattle.binder_model.specs.Run.{Run}
use Rattle.binder_model.specs.Told.{SomeOf, own}
use Rattle.model_laws.proofs.Evidence.{own_mine}
use Rattle.model_laws.proofs.Growing.{older_parts_are_runs}
use Rattle.settle_budget.specs.Objects.Objects.{asks_create, creations, is_create}
use Rattle.settle_budget.proofs.Objects.Objects.{objects_are_few}
use Rattle.world_core.specs.declared.drained.Drained.{Drained}
use Rattle.actor_rounds.specs.Longer.{users_of}
use Rattle.actor_rounds.specs.Rounds.{all_pass}
use Rattle.script_text.specs.declared.script.Line.{Line}
use Rattle.script_text.specs.declared.script.Line.TheVariants.{Call, Drain, Lose, Restart, Turn}
use Rattle.script_text.specs.declared.script.Script.{Script}
use Rattle.script_text.specs.Said.{created, created_by, creates}
use Rattle.shared_work.specs.Lines.{AreOfLines, asked_by, asked_if, asked_in, call_of, user_call}
use Rattle.script_runs.specs.Parts.{part_of, role_of}
use Rattle.script_runs.specs.Replays.{AreMoves, IsMove, IsReplay, MoreMoves, NoMoves, Progress, first_progress}
use Rattle.script_runs.proofs.Casting.{actor_built}
use Rattle.script_runs.proofs.Draining.{drains_come_to}
use Rattle.script_threads.specs.Runs.{IsRun, progress_after}
use Rattle.script_threads.specs.Started.{drain_seat}
use Rattle.script_threads.specs.Threads.{IsThreadedWork}
use Rattle.replay_laws.specs.Drains.Objects.{HasFewObjectsThroughout, ReplayedObjectsAreFew, ThreadedObjectsAreFew}
use Rattle.replay_laws.proofs.Drains.Asking.{turn_users}
use Rattle.replay_laws.proofs.Drains.Working.{IsUsers, users_sit}

-- ---- counts

abbrev one_if : Bool → ℕ
one_if b = cond b 1 0

count_cons : {X : Type 0} (p : X → Bool) (x : X) (xs : List X) → count_by p (x ∷ xs) ≡ one_if (p x) + count_by p xs
count_cons p x xs = sum_by-cons (λ y. one_if (p y)) x xs

count_append : {X : Type 0} (p : X → Bool) (xs ys : List X) → count_by p (xs ++ ys) ≡ count_by p xs + count_by p ys
count_append p xs ys = sum_by-append (λ y. one_if (p y)) xs ys

count_reverse : {X : Type 0} (p : X → Bool) (xs : List X) → count_by p (reverse xs) ≡ count_by p xs
count_reverse p [] = refl
count_reverse p (x ∷ xs) =
    let turned = ap (count_by p) (reverse-append (x ∷ []) xs) in
    let apart = count_append p (reverse xs) (x ∷ []) in
    let rest = count_reverse p xs in
    let last = count_cons p x [] in
    let first = count_cons p x xs in
    omega (arith, turned, apart, rest, last, first)

count_map : {X Y : Type 0} (p : Y → Bool) (f : X → Y) (xs : List X) → count_by p (map f xs) ≡ count_by (λ x. p (f x)) xs
count_map p f [] = refl
count_map p f (x ∷ xs) = count_cons p (f x) (map f xs) ∙ (ap (λ n. one_if (p (f x)) + n) (count_map p f xs) ∙ sym (count_cons (λ y. p (f y)) x xs))

-- ---- of users alone

-- no other entry counts
of_users : (past : List Entry) → creations past ≡ count_by asks_create (users_of past)
of_users [] = refl
of_users (e ∷ past) = count_cons asks_create e past ∙ by (is_user e.kind) refl (of_users past)
  where
    by : (b : Bool) → is_user e.kind ≡ b → creations past ≡ count_by asks_create (users_of past)
        → one_if (asks_create e) + creations past ≡ count_by asks_create (cond b (e ∷ users_of past) (users_of past))
    by true is rest = ap (λ n. one_if (asks_create e) + n) rest ∙ sym (count_cons asks_create e (users_of past))
    by false is rest = let none = ap (λ u. one_if (u && is_create e.request)) is in omega (arith, none, rest)

same_users : (past other : List Entry) → users_of other ≡ users_of past → creations other ≡ creations past
same_users past other same = of_users other ∙ (ap (count_by asks_create) same ∙ sym (of_users past))

-- earlier there were no more
fewer_before : (newer h : List Entry) → creations h ≤ creations (newer ++ h)
fewer_before newer h = let apart = count_append asks_create newer h in omega (arith, apart)

-- ---- lines

is_created : (request : Request) → is_create request ≡ is_some (created_by request)
is_created (requests.Create o) = refl
is_created request = refl

-- ---- a replay

module _ (script : Script) (option : Option ℕ) where
  move_created : (line : Line) (now next : Progress) → IsMove script option line now next → creations next.past ≤ creations now.past + one_if (is_some (created line))
  move_created (Call user request) now next move =
      let all = ap (λ (p : Progress). creations p.past) move.is in
      let one = count_cons asks_create (record { seat = user; kind = seats.User; request = request; reply = move.reply; told = true }) now.past in
      let same = ap one_if (is_created request) in
      omega (arith, all, one, same)
  move_created (Lose actor call lost) now next move = let all = ap (λ (p : Progress). creations p.past) move in omega (arith, all)
  move_created (Restart actor calls) now next move = let all = ap (λ (p : Progress). creations p.past) move in omega (arith, all)
  move_created (Turn actor calls) now next move = let all =
      same_users now.past next.past (turn_users (part_of script actor) calls now next (actor_built actor) (role_of actor) move) in omega (arith, all)
  move_created Drain now next move = let all = same_users now.past next.past (drains_come_to all_pass script option now next move).users in omega (arith, all)

  moves_created : (end : Progress) (lines : List Line) (now : Progress) → AreMoves script option end lines now → creations end.past ≤ creations now.past + creates lines
  moves_created end lines now (NoMoves none same) = let all = ap (λ (p : Progress). creations p.past) same in omega (arith, all)
  moves_created end lines now (MoreMoves line rest next are move more) =
      let first = move_created line now next move in
      let then_ = moves_created end rest next more in
      let count : creates lines ≡ one_if (is_some (created line)) + creates rest = ap creates are ∙ count_cons (λ l. is_some (created l)) line rest in
      omega (arith, first, then_, count)

  replay_created : (past : List Entry) (ending : Drained) → IsReplay script option past ending → creations past ≤ creates script.lines
  replay_created past ending replay =
      let all = ap creations replay.history in
      let last = move_created Drain replay.lines_done replay.end replay.last in
      let lines = moves_created replay.lines_done script.lines (first_progress option replay.drainers) replay.moves in
      omega (arith, all, last, lines)

-- ---- the seats of users

-- so many where the seat is this one, and none else
abbrev share : ℕ → ℕ → ℕ → ℕ
share n seat user = cond (seat == user) n 0

abbrev shares : ℕ → ℕ → ℕ
shares n seat = share n seat 1 + share n seat 2 + share n seat 3 + share n seat 4

no_share : (n seat user : ℕ) → (seat ≡ user → ⊥) → share n seat user ≡ 0
no_share n seat user other = ap (λ b. cond b n 0) (ne_eqb seat user other)

shares_most : (n seat : ℕ) → shares n seat ≤ n
shares_most n zero = omega arith
shares_most n (suc zero) = omega arith
shares_most n (suc (suc zero)) = omega arith
shares_most n (suc (suc (suc zero))) = omega arith
shares_most n (suc (suc (suc (suc zero)))) = omega arith
shares_most n (suc (suc (suc (suc (suc seat))))) =
    let a = no_share n (suc (suc (suc (suc (suc seat))))) 1 (λ is. absurd (omega (arith, is))) in
    let b = no_share n (suc (suc (suc (suc (suc seat))))) 2 (λ is. absurd (omega (arith, is))) in
    let c = no_share n (suc (suc (suc (suc (suc seat))))) 3 (λ is. absurd (omega (arith, is))) in
    let d = no_share n (suc (suc (suc (suc (suc seat))))) 4 (λ is. absurd (omega (arith, is))) in
    omega (arith, a, b, c, d)

shares_least : (n seat : ℕ) → 0 < seat → seat < 5 → n ≤ shares n seat
shares_least n zero above few = absurd (omega (arith, above))
shares_least n (suc zero) above few = omega arith
shares_least n (suc (suc zero)) above few = omega arith
shares_least n (suc (suc (suc zero))) above few = omega arith
shares_least n (suc (suc (suc (suc zero)))) above few = omega arith
shares_least n (suc (suc (suc (suc (suc seat))))) above few = absurd (omega (arith, few))

-- of all four, what is so of each
abbrev of_four : (ℕ → ℕ) → ℕ
of_four f = f 1 + f 2 + f 3 + f 4

-- ---- what lines ask

-- an object that the line creates is asked for by its user
abbrev by_line : ℕ → Line → ℕ
by_line user (Call by request) = share (one_if (is_some (created_by request))) by user
by_line user line = 0

asked_share : (user : ℕ) (line : Line) → count_by is_create (asked_in user line) ≡ by_line user line
asked_share user (Call by request) = when (by == user)
  where
    when : (b : Bool) → count_by is_create (asked_if b request) ≡ cond b (one_if (is_some (created_by request))) 0
    when true = let same = ap one_if (is_created request) in omega (arith, same)
    when false = refl
asked_share user (Lose actor call lost) = refl
asked_share user (Restart actor calls) = refl
asked_share user (Turn actor calls) = refl
asked_share user Drain = refl

line_asks : (line : Line) → of_four (λ user. count_by is_create (asked_in user line)) ≤ one_if (is_some (created line))
line_asks (Call by request) =
    let a = asked_share 1 (Call by request) in
    let b = asked_share 2 (Call by request) in
    let c = asked_share 3 (Call by request) in
    let d = asked_share 4 (Call by request) in
    let most = shares_most (one_if (is_some (created_by request))) by in
    omega (arith, a, b, c, d, most)
line_asks (Lose actor call lost) = omega arith
line_asks (Restart actor calls) = omega arith
line_asks (Turn actor calls) = omega arith
line_asks Drain = omega arith

lines_ask : (lines : List Line) → of_four (λ user. count_by is_create (asked_by user lines)) ≤ creates lines
lines_ask [] = omega arith
lines_ask (line ∷ lines) =
    let a = count_append is_create (asked_in 1 line) (asked_by 1 lines) in
    let b = count_append is_create (asked_in 2 line) (asked_by 2 lines) in
    let c = count_append is_create (asked_in 3 line) (asked_by 3 lines) in
    let d = count_append is_create (asked_in 4 line) (asked_by 4 lines) in
    let first = line_asks line in
    let rest = lines_ask lines in
    let count = count_cons (λ l. is_some (created l)) line lines in
    omega (arith, a, b, c, d, first, rest, count)

-- the entries of a user are the calls of its lines
abbrev calls_create : ℕ × SeatKind × Request × Bool → Bool
calls_create call = is_user call.1 && is_create call.2

mine_asked : (user : ℕ) (lines : List Line) (mine : List Entry) → AreOfLines user lines mine → creations mine ≡ count_by is_create (asked_by user lines)
mine_asked user lines mine are =
    sym (count_reverse asks_create mine) ∙ (sym (count_map calls_create call_of (reverse mine)) ∙ (ap (count_by calls_create) are ∙ count_map calls_create (user_call user) (asked_by user lines)))

-- ---- a run on threads

-- users have these seats alone
abbrev Sit : List Entry → Type 0
Sit past = (seat : ℕ) → SomeOf IsUsers (own seat past) → (0 < seat) × (seat < 5)

sit_before : (e : Entry) (past : List Entry) → Sit (e ∷ past) → Sit past
sit_before e past sit seat some = sit seat (later (e.seat == seat))
  where
    later : (b : Bool) → SomeOf IsUsers (if b then e ∷ own seat past else own seat past)
    later true = inr some
    later false = some

one_share : (e : Entry) (past : List Entry) (user : ℕ) → creations (own user (e ∷ past)) ≡ share (one_if (asks_create e)) e.seat user + creations (own user past)
one_share e past user = by (e.seat == user)
  where
    by : (b : Bool) → creations (if b then e ∷ own user past else own user past) ≡ cond b (one_if (asks_create e)) 0 + creations (own user past)
    by true = count_cons asks_create e (own user past)
    by false = omega arith

spread : (past : List Entry) → Sit past → creations past ≤ of_four (λ user. creations (own user past))
spread [] sit = omega arith
spread (e ∷ past) sit =
    let a = one_share e past 1 in
    let b = one_share e past 2 in
    let c = one_share e past 3 in
    let d = one_share e past 4 in
    let count = count_cons asks_create e past in
    let rest = spread past (sit_before e past sit) in
    let here = by (is_user e.kind) refl in
    omega (arith, a, b, c, d, count, rest, here)
  where
    by : (b : Bool) → is_user e.kind ≡ b → one_if (asks_create e) ≤ shares (one_if (asks_create e)) e.seat
    by true is = let at = sit e.seat (subst (SomeOf IsUsers) (sym (own_mine e past e.seat refl)) (inl is)) in shares_least (one_if (asks_create e)) e.seat at.0 at.1
    by false is = let none = ap (λ u. one_if (u && is_create e.request)) is in omega (arith, none)

work_created : (script : Script) (workers calls : ℕ) (worked : List Entry) → IsThreadedWork script workers calls worked → creations worked ≤ creates script.lines
work_created script workers calls worked work =
    let all = spread worked (users_sit script workers calls worked work) in
    let a = mine_asked 1 script.lines (own 1 worked) (work.done.users 1 (omega arith) (omega arith)) in
    let b = mine_asked 2 script.lines (own 2 worked) (work.done.users 2 (omega arith) (omega arith)) in
    let c = mine_asked 3 script.lines (own 3 worked) (work.done.users 3 (omega arith) (omega arith)) in
    let d = mine_asked 4 script.lines (own 4 worked) (work.done.users 4 (omega arith) (omega arith)) in
    let lines = lines_ask script.lines in
    omega (arith, all, a, b, c, d, lines)

run_created : (script : Script) (workers calls : ℕ) (option : Option ℕ) (past : List Entry) (ending : Drained) → IsRun script workers calls option past ending → creations past ≤ creates script.lines
run_created script workers calls option past ending r =
    let all = ap creations r.history in
    let last = same_users r.worked r.end.past (drains_come_to all_pass script option (progress_after r.worked option r.drainers) r.end r.last).users in
    let work = work_created script workers calls r.worked r.work in
    omega (arith, all, last, work)

-- ---- the objects

few_throughout : (script : Script) (past : List Entry) → Run script.setup past → creations past ≤ creates script.lines → HasFewObjectsThroughout script past
few_throughout script past run few newer h are =
    let objects = objects_are_few script.setup h (older_parts_are_runs script.setup newer h (subst (Run script.setup) are run)) in
    let before = fewer_before newer h in
    let same = ap creations are in
    omega (arith, objects, before, same, few)

pub replayed_objects_are_few : ReplayedObjectsAreFew
replayed_objects_are_few script option past ending run replay = few_throughout script past run (replay_created script option past ending replay)

pub threaded_objects_are_few : ThreadedObjectsAreFew
threaded_objects_are_few script workers calls option past ending run r = few_throughout script past run (run_created script workers calls option past ending r)
