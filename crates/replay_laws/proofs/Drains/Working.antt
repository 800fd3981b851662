-- In a run on threads users ask what lines say, and no other than a user has an entry of theirs.
use Rattle.std.proofs.Common.{◌≡◌, ◌∙◌, ℕ, ◌≤◌, ◌<◌, List, [], ◌∷◌, map, reverse, cond, Bool, true, false, true≢false, Option, Some, inl, inr, refl, sym, ap, subst, arith}
use Rattle.std.specs.Prelude.{◌==◌, ◌⊎◌, if◌then◌else◌}
use Rattle.std.proofs.lemmas.Bool.{cases_lt}
use Rattle.std.proofs.lemmas.List.{reverse-reverse}
use Rattle.call_types.specs.declared.entry.Entry.{Entry}
use Rattle.call_types.specs.declared.request.Request.{Request}
use Rattle.call_types.specs.declared.request.SeatKind.{SeatKind}
use Rattle.binder_model.specs.Answers.{is_user}
use Rattle.binder_model.specs.Told.{SomeOf, own}
use Rattle.model_laws.proofs.Evidence.{own_mine}
use Rattle.model_laws.proofs.Lists.{some_filter, some_map, some_or, some_reverse}
use Rattle.world_core.specs.declared.drained.Drained.{Drained}
use Rattle.actor_rounds.specs.Longer.{users_of}
use Rattle.actor_rounds.specs.Rounds.{all_pass}
use Rattle.settle_budget.specs.Nodes.Nodes.{CreatesNode}
use Rattle.script_lines.specs.declared.actors.Actor.{Actor}
use Rattle.script_text.specs.declared.script.Line.{Line}
use Rattle.script_text.specs.declared.script.Line.TheVariants.{Call, Drain, Lose, Restart, Turn}
use Rattle.script_text.specs.declared.script.Script.{Script}
use Rattle.script_text.specs.Said.{created_node}
use Rattle.shared_work.specs.Lines.{AreOfLines, asked_by, asked_if, asked_in, call_of, user_call}
use Rattle.script_runs.proofs.Casting.{actor_built}
use Rattle.script_runs.proofs.Draining.{drains_come_to}
use Rattle.script_threads.specs.Runs.{IsRun, progress_after}
use Rattle.script_threads.specs.Started.{EachStarted, after_lives, drain_seat, seat_after, started, started_part}
use Rattle.script_threads.specs.Threads.{HasMadeCalls, IsThreadedWork}
use Rattle.replay_laws.specs.Drains.Naming.{ThreadedPodsAreOnNamed}
use Rattle.replay_laws.proofs.Drains.Asking.{UserCreates, UsersCreateLines, calls_users, created_by_line, pods_named}

-- ---- an entry is one of its seat

-- some entry is so at this seat
record IsAt (P : Entry → Type 0) (past : List Entry) : Type 0 where
  seat : ℕ
  some : SomeOf P (own seat past)

some_own : (P : Entry → Type 0) (past : List Entry) → SomeOf P past → IsAt P past
some_own P [] some = absurd some
some_own P (e ∷ past) (inl is) = record { seat = e.seat; some = subst (SomeOf P) (sym (own_mine e past e.seat refl)) (inl is) }
some_own P (e ∷ past) (inr more) = let r = some_own P past more in record { seat = r.seat; some = later r.seat (e.seat == r.seat) r.some }
  where
    later : (seat : ℕ) (b : Bool) → SomeOf P (own seat past) → SomeOf P (if b then e ∷ own seat past else own seat past)
    later seat true some = inr some
    later seat false some = some

own_some : (P : Entry → Type 0) (seat : ℕ) (past : List Entry) → SomeOf P (own seat past) → SomeOf P past
own_some P seat [] some = absurd some
own_some P seat (e ∷ past) some = by (e.seat == seat) some (own_some P seat past)
  where
    by : (b : Bool) → SomeOf P (if b then e ∷ own seat past else own seat past) → (SomeOf P (own seat past) → SomeOf P past) → SomeOf P (e ∷ past)
    by true (inl is) later = inl is
    by true (inr more) later = inr (later more)
    by false more later = inr (later more)

-- ---- users

some_mapped : {X Y : Type 0} (P : Y → Type 0) (f : X → Y) (xs : List X) → SomeOf (λ x. P (f x)) xs → SomeOf P (map f xs)
some_mapped P f [] some = absurd some
some_mapped P f (x ∷ xs) (inl is) = inl is
some_mapped P f (x ∷ xs) (inr more) = inr (some_mapped P f xs more)

some_unmapped : {X Y : Type 0} (P : Y → Type 0) (f : X → Y) (xs : List X) → SomeOf P (map f xs) → SomeOf (λ x. P (f x)) xs
some_unmapped P f [] some = absurd some
some_unmapped P f (x ∷ xs) (inl is) = inl is
some_unmapped P f (x ∷ xs) (inr more) = inr (some_unmapped P f xs more)

line_creates : (user : ℕ) (node : List ℕ) (line : Line) → SomeOf (CreatesNode node) (asked_in user line) → created_node line ≡ Some node
line_creates user node (Call by request) some = when (by == user) some
  where
    when : (b : Bool) → SomeOf (CreatesNode node) (asked_if b request) → created_node (Call by request) ≡ Some node
    when true (inl creates) = created_by_line by request node creates
    when true (inr none) = absurd none
    when false none = absurd none
line_creates user node (Lose actor call lost) none = absurd none
line_creates user node (Restart actor calls) none = absurd none
line_creates user node (Turn actor calls) none = absurd none
line_creates user node Drain none = absurd none

lines_create : (user : ℕ) (node : List ℕ) (lines : List Line) → SomeOf (CreatesNode node) (asked_by user lines) → SomeOf (λ line. created_node line ≡ Some node) lines
lines_create user node [] none = absurd none
lines_create user node (line ∷ lines) some = by (some_or (CreatesNode node) (asked_in user line) (asked_by user lines) some) (lines_create user node lines)
  where
    by : SomeOf (CreatesNode node) (asked_in user line) ⊎ SomeOf (CreatesNode node) (asked_by user lines)
        → (SomeOf (CreatesNode node) (asked_by user lines) → SomeOf (λ x. created_node x ≡ Some node) lines) → SomeOf (λ x. created_node x ≡ Some node) (line ∷ lines)
    by (inl here) later = inl (line_creates user node line here)
    by (inr more) later = inr (later more)

-- the part of a call that is asked
abbrev Creates : List ℕ → ℕ × SeatKind × Request × Bool → Type 0
Creates node call = CreatesNode node call.2

user_creates : (user : ℕ) (node : List ℕ) (lines : List Line) (mine : List Entry) → AreOfLines user lines mine
    → SomeOf (λ e. CreatesNode node e.request) mine → SomeOf (λ line. created_node line ≡ Some node) lines
user_creates user node lines mine are some =
    lines_create user node lines
    (some_unmapped (Creates node) (user_call user) (asked_by user lines)
    (subst (SomeOf (Creates node)) are
    (some_mapped (Creates node) call_of (reverse mine)
    (some_reverse (λ e. CreatesNode node e.request) (reverse mine) (subst (SomeOf (λ e. CreatesNode node e.request)) (sym (reverse-reverse mine)) some)))))

-- ---- actors

-- the entry is a user's
abbrev pub IsUsers : Entry → Type 0
IsUsers e = is_user e.kind ≡ true

-- none of these entries is
none_of_users : (past : List Entry) → users_of past ≡ [] → SomeOf IsUsers past → ⊥
none_of_users past none some = subst (SomeOf IsUsers) none (among past some)
  where
    among : (es : List Entry) → SomeOf IsUsers es → SomeOf IsUsers (users_of es)
    among [] some = absurd some
    among (e ∷ es) some = by (is_user e.kind) refl some (among es)
      where
        by : (b : Bool) → is_user e.kind ≡ b → SomeOf IsUsers (e ∷ es) → (SomeOf IsUsers es → SomeOf IsUsers (users_of es)) → SomeOf IsUsers (cond b (e ∷ users_of es) (users_of es))
        by true is (inl here) rest = inl here
        by true is (inr more) rest = inr (rest more)
        by false is (inl here) rest = absurd (true≢false (sym here ∙ is))
        by false is (inr more) rest = rest more

actors_are_no_users : (lines : List Line) (calls : ℕ) (past : List Entry) (actors : List Actor) (first seat : ℕ)
    → EachStarted (HasMadeCalls calls past) lines first actors → first ≤ seat → seat < seat_after lines first actors → SomeOf IsUsers (own seat past) → ⊥
actors_are_no_users lines calls past [] first seat each from below some = absurd (omega (arith, from, below))
actors_are_no_users lines calls past (actor ∷ actors) first seat each from below some =
    by (λ later. actors_are_no_users lines calls past actors (after_lives (started_part lines actor first)) seat each.1 later below some) (cases_lt seat (after_lives (started_part lines actor first)))
  where
    by : (after_lives (started_part lines actor first) ≤ seat → ⊥) → (seat < after_lives (started_part lines actor first)) ⊎ (after_lives (started_part lines actor first) ≤ seat) → ⊥
    by rest (inl here) =
        none_of_users each.0.mine (calls_users (started_part lines actor first) each.0.mine (actor_built actor) 1 each.0.made [] each.0.calls_are)
        (own_some IsUsers seat each.0.mine (subst (SomeOf IsUsers) (each.0.own_are seat (from, here)) some))
    by rest (inr later) = rest later

-- ---- the whole

module _ (script : Script) (workers calls : ℕ) (worked : List Entry) (work : IsThreadedWork script workers calls worked) where
  nobody : (seat : ℕ) → (seat ≡ 0) ⊎ (drain_seat workers script ≤ seat) → SomeOf IsUsers (own seat worked) → ⊥
  nobody seat none some = subst (SomeOf IsUsers) (work.others seat none) some

  -- users have the first four seats
  pub users_sit : (seat : ℕ) → SomeOf IsUsers (own seat worked) → (0 < seat) × (seat < 5)
  users_sit seat some = by (cases_lt 0 seat) (cases_lt seat 5) (cases_lt seat (drain_seat workers script))
    where
      by : (0 < seat) ⊎ (seat ≤ 0) → (seat < 5) ⊎ (5 ≤ seat) → (seat < drain_seat workers script) ⊎ (drain_seat workers script ≤ seat) → (0 < seat) × (seat < 5)
      by (inr none) few below = absurd (nobody seat (inl (omega (arith, none))) some)
      by (inl above) (inl few) below = (above, few)
      by (inl above) (inr from) (inr after) = absurd (nobody seat (inr after) some)
      by (inl above) (inr from) (inl below) = absurd (actors_are_no_users script.lines calls worked (started workers script) 5 seat work.done.actors from below some)

  work_named : (node : List ℕ) → SomeOf (UserCreates node) worked → SomeOf (λ line. created_node line ≡ Some node) script.lines
  work_named node some =
      let at = some_own (UserCreates node) worked some in
      let sits = users_sit at.seat (some_map (λ e is. is.0) (own at.seat worked) at.some) in
      user_creates at.seat node script.lines (own at.seat worked) (work.done.users at.seat sits.0 sits.1) (some_map (λ e is. is.1) (own at.seat worked) at.some)

pub run_creates : (script : Script) (workers calls : ℕ) (option : Option ℕ) (past : List Entry) (ending : Drained) → IsRun script workers calls option past ending → UsersCreateLines script.lines past
run_creates script workers calls option past ending r node some =
    work_named script workers calls r.worked r.work node (some_filter (UserCreates node) (λ e. is_user e.kind) r.worked (subst (SomeOf (UserCreates node)) same some))
  where
    same : users_of past ≡ users_of r.worked
    same = ap users_of r.history ∙ (drains_come_to all_pass script option (progress_after r.worked option r.drainers) r.end r.last).users

pub threaded_pods_are_on_named : ThreadedPodsAreOnNamed
threaded_pods_are_on_named script workers calls option past ending names run r = pods_named script past names run (run_creates script workers calls option past ending r)
