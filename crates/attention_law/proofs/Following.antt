-- A life that is played is diligent: the phases, followed from the first watch to the fourth.
use Rattle.std.proofs.Common.{◌≡◌, ◌⊎◌, ℕ, ◌+◌, List, [], ◌∷◌, ◌++◌, true, false, true≢false, Option, Some, None, inl, inr, refl, sym, ◌∙◌, ap, subst, arith, if◌then◌else◌}
use Rattle.std.specs.Prelude.{slice_get}
use Rattle.kube_objects.specs.declared.key.Key.{Key}
use Rattle.kube_parts.specs.declared.parts.Kind.{Kind}
use Rattle.call_types.specs.declared.entry.Entry.{Entry}
use Rattle.call_types.specs.declared.request.Request.{Request}
use Rattle.call_types.specs.declared.request.Request.TheVariants as requests
use Rattle.call_types.specs.declared.reply.Reply.{Reply}
use Rattle.informer_cache.specs.Cache.{IsTold}
use Rattle.model_laws.proofs.Lists.{none_some, one}
use Rattle.worker_core.specs.declared.role.Role.{Role}
use Rattle.worker_core.specs.declared.turn.Next.TheVariants as nexts
use Rattle.worker_core.specs.declared.turn.Outcome.{Outcome}
use Rattle.worker_core.specs.declared.turn.Outcome.TheVariants as outcomes
use Rattle.worker_core.specs.Absorbs.{woken}
use Rattle.worker_core.specs.Memories.{Memory, memory_of}
use Rattle.worker_core.specs.Roles.{IsBuiltKind, kinds_of}
use Rattle.worker_core.specs.Stands.{StandsFor}
use Rattle.worker_core.specs.States.{ActorState, waits}
use Rattle.worker_core.proofs.Answered.{turn_role}
use Rattle.worker_core.proofs.KeysKept.{absorbed_keys}
use Rattle.attention_law.specs.Diligence.{AreQuiet, Call, IsAskedFor, IsKeyDue, IsDueThroughout, IsQuiet, WasAskedSince, entries, watches, watches_kind}
use Rattle.attention_law.specs.Played.{Begins, PlaysCall, IsPlayed, LostAfter, LostBefore, PlayedIsDiligent, Told, Turns, Wakes}
use Rattle.attention_law.proofs.Dues.{asked_no_watch}
use Rattle.attention_law.proofs.Passing.{Goes, told_goes}
use Rattle.attention_law.proofs.Phases.{Phase, answer_phase, called_or_waits, few_watches, opens, same_place, turn_phase, wake_phase}
use Rattle.attention_law.specs.Queues.{OneTaken, taken_keys, under_keys}
use Rattle.attention_law.proofs.Turned.{answer_role, answer_taken, calls_fresh, turn_taken, woken_taken}

-- lists

abbrev head_in : {X : Type 0} → List X → Option X
head_in [] = None
head_in (x ∷ xs) = Some x

abbrev tail_in : {X : Type 0} → List X → List X
tail_in [] = []
tail_in (x ∷ xs) = xs

pub same_head : {X : Type 0} (x y : X) (xs ys : List X) → x ∷ xs ≡ y ∷ ys → x ≡ y
same_head x y xs ys e = one x y (ap head_in e)

pub same_tail : {X : Type 0} (x y : X) (xs ys : List X) → x ∷ xs ≡ y ∷ ys → xs ≡ ys
same_tail x y xs ys e = ap tail_in e

pub no_list : {X : Type 0} (x : X) (xs : List X) → ◌≡◌ {A = List X} [] (x ∷ xs) → ⊥
no_list x xs e = none_some (ap head_in e)

-- what holds after each step

pub stands_now : (role : Role) (s : ActorState) (calls : List Call) → IsPlayed role s calls → StandsFor s (entries calls)
stands_now role s calls (Begins none new stands) = subst (λ c. StandsFor s (entries c)) (sym none) stands
stands_now role s calls (Told old before e request reply played is told gives stands) = stands
stands_now role s calls (LostBefore old before request played is gives stands) = stands
stands_now role s calls (LostAfter old before e request played is lost own gives stands) = stands
stands_now role s calls (Wakes old turned played turns wakes stands) = stands

-- a turn and what came of it
record Came (s new : ActorState) : Type 0 where
  taken : OneTaken s → OneTaken new
  role : new.role ≡ s.role

came : (s new : ActorState) (request : Request) (outcome : Outcome) (before : List Entry) → PlaysCall s new request outcome before → Came s new
came s new request outcome before g = record {
  taken = λ own. subst (λ x. OneTaken x) (sym g.takes) (answer_taken g.turned new.caches request outcome (turn_taken s g.turned (nexts.Call request) g.turns.turn own));
  role = ap (λ (x : ActorState). x.role) g.takes ∙ answer_role g.turned new.caches request outcome ∙ turn_role s g.turned (nexts.Call request) g.turns.turn;
}

woke : (s turned new : ActorState) (mine : List Entry) → Turns s turned nexts.Idle mine → new ≡ woken turned → Came s new
woke s turned new mine t wakes = record {
  taken = λ own. subst (λ x. OneTaken x) (sym wakes) (woken_taken turned (turn_taken s turned nexts.Idle t.turn own));
  role = ap (λ (x : ActorState). x.role) wakes ∙ turn_role s turned nexts.Idle t.turn;
}

pub one_taken : (role : Role) (s : ActorState) (calls : List Call) → IsPlayed role s calls → OneTaken s
one_taken role s calls (Begins none new stands) = ap taken_keys new.work ∙ sym (ap under_keys new.under)
one_taken role s calls (Told old before e request reply played is told gives stands) = (came old s request _ _ gives).taken (one_taken role old before played)
one_taken role s calls (LostBefore old before request played is gives stands) = (came old s request _ _ gives).taken (one_taken role old before played)
one_taken role s calls (LostAfter old before e request played is lost own gives stands) = (came old s request _ _ gives).taken (one_taken role old before played)
one_taken role s calls (Wakes old turned played turns wakes stands) = (woke old turned s _ turns wakes).taken (one_taken role old calls played)

pub same_role : (role : Role) (s : ActorState) (calls : List Call) → IsPlayed role s calls → s.role ≡ role
same_role role s calls (Begins none new stands) = new.is
same_role role s calls (Told old before e request reply played is told gives stands) = (came old s request _ _ gives).role ∙ same_role role old before played
same_role role s calls (LostBefore old before request played is gives stands) = (came old s request _ _ gives).role ∙ same_role role old before played
same_role role s calls (LostAfter old before e request played is lost own gives stands) = (came old s request _ _ gives).role ∙ same_role role old before played
same_role role s calls (Wakes old turned played turns wakes stands) = (woke old turned s _ turns wakes).role ∙ same_role role old calls played

-- what an actor remembers hangs on its calls alone, so a wake changes nothing of it
pub remembered : (role : Role) (s : ActorState) (calls : List Call) → IsPlayed role s calls → s.memory ≡ memory_of role (entries calls)
remembered role s calls played = (stands_now role s calls played).memory ∙ ap (λ r. memory_of r (entries calls)) (same_role role s calls played)

pub still_fresh : (role : Role) (old new : ActorState) (calls : List Call) → IsPlayed role old calls → IsPlayed role new calls → new.memory.stale ≡ false → old.memory.stale ≡ false
still_fresh role old new calls before after fresh = ap (λ (m : Memory). m.stale) (remembered role old calls before ∙ sym (remembered role new calls after)) ∙ fresh

-- earlier calls were played too
record WasPlayed (role : Role) (calls : List Call) : Type 0 where
  state : ActorState
  played : IsPlayed role state calls

was_played : (role : Role) (s : ActorState) (calls : List Call) → IsPlayed role s calls → (later now : List Call) → calls ≡ later ++ now → WasPlayed role now
was_played role s calls p [] now e = record { state = s; played = subst (λ c. IsPlayed role s c) e p }
was_played role s calls (Begins none new stands) (c ∷ later) now e = absurd (no_list c (later ++ now) (sym none ∙ e))
was_played role s calls (Told old before x request reply played is told gives stands) (c ∷ later) now e = was_played role old before played later now (same_tail _ _ _ _ (sym is ∙ e))
was_played role s calls (LostBefore old before request played is gives stands) (c ∷ later) now e = was_played role old before played later now (same_tail _ _ _ _ (sym is ∙ e))
was_played role s calls (LostAfter old before x request played is lost own gives stands) (c ∷ later) now e = was_played role old before played later now (same_tail _ _ _ _ (sym is ∙ e))
was_played role s calls (Wakes old turned played turns wakes stands) (c ∷ later) now e = was_played role old calls played (c ∷ later) now e

-- the step of a told call
record ToldStep (role : Role) (e : Entry) (before : List Call) (s new : ActorState) : Type 0 where
  played : IsPlayed role s before
  gives : PlaysCall s new e.request (outcomes.Told e.reply) (entries before)
  stands : StandsFor new (e ∷ entries before)

told_step : (role : Role) (s new : ActorState) (calls before : List Call) (x e : Entry) (request : Request) (reply : Reply) → IsPlayed role s before → calls ≡ Some x ∷ before → IsTold x request reply
    → PlaysCall s new request (outcomes.Told reply) (entries before) → StandsFor new (entries calls) → (old : List Call) → calls ≡ Some e ∷ old → ToldStep role e old s new
told_step role s new calls before x e request reply played is told gives stands old at =
    let own : x ≡ e = one x e (same_head _ _ _ _ (sym is ∙ at)) in
    let rest : before ≡ old = same_tail _ _ _ _ (sym is ∙ at) in
    subst (λ y. ToldStep role y old s new) own (subst (λ b. ToldStep role x b s new) rest (record {
      played = played;
      gives = subst (λ r. PlaysCall s new r (outcomes.Told x.reply) (entries before)) (sym told.asked)
          (subst (λ r. PlaysCall s new request (outcomes.Told r) (entries before)) (sym told.answered) gives);
      stands = subst (λ c. StandsFor new (entries c)) is stands;
    }))

-- a step that brought no news
module _ (role : Role) (built : IsBuiltKind role.kind) (e : Entry) (before : List Call) (s new : ActorState) (quiet : IsQuiet e) (step : ToldStep role e before s new) where
  kind_turned : step.gives.turned.role.kind ≡ role.kind
  kind_turned = ap (λ (r : Role). r.kind) (turn_role s step.gives.turned (nexts.Call e.request) step.gives.turns.turn ∙ same_role role s before step.played)

  goes : Goes step.gives.turned new e.request
  goes = told_goes s step.gives.turned new (entries before) e e.request e.reply
      (subst IsBuiltKind (sym kind_turned) built) step.gives.turns.turn step.gives.turns.stands (record { told = quiet.told; asked = refl; answered = refl }) step.stands.own quiet step.gives.takes

  first_phase : (kind : Kind) (key : Key) → watches_kind kind e.request ≡ true
      → (slice_get (kinds_of role.kind) step.gives.turned.pass.behind ≡ Some kind) × Phase step.gives.turned.pass.behind key new 0
  first_phase kind key watch = opens role.kind kind key step.gives.turned new e.request kind_turned watch goes

  next_phase : (kind : Kind) (place : ℕ) → slice_get (kinds_of role.kind) place ≡ Some kind → (key : Key) (n : ℕ) → IsKeyDue role key (entries before) → Phase place key s n
      → IsAskedFor role key (entries before) e.request ⊎ Phase place key new (if watches_kind kind e.request then n + 1 else n)
  next_phase kind place at key n due phase = elim called [
    | inl asked ↦ inl (subst (λ r. IsAskedFor r key (entries before) e.request) own asked)
    | inr stays ↦ inr (answer_phase role.kind built kind place at key step.gives.turned new n kept e.request kind_turned goes
        (turn_phase place key s step.gives.turned (nexts.Call e.request) n step.gives.turns.turn stays phase))
  ]
    where
      own : s.role ≡ role
      own = same_role role s before step.played

      called : IsAskedFor s.role key (entries before) e.request ⊎ (waits key s.work ≡ true → waits key step.gives.turned.work ≡ true)
      called = called_or_waits key s step.gives.turned (entries before) (stands_now role s before step.played) step.gives.turns.order
          (subst (λ r. IsKeyDue r key (entries before)) (sym own) due) e.request step.gives.turns.turn

      kept : waits key step.gives.turned.work ≡ true → waits key new.work ≡ true
      kept there = (absorbed_keys step.gives.turned new e.request (outcomes.Told e.reply) step.gives.takes).stays key there

-- the last told call of a life, whatever wakes came after it
record LastStep (role : Role) (e : Entry) (before : List Call) : Type 0 where
  old : ActorState
  new : ActorState
  step : ToldStep role e before old new

last_step : (role : Role) (s : ActorState) (calls : List Call) → IsPlayed role s calls → (e : Entry) (before : List Call) → e.told ≡ true → calls ≡ Some e ∷ before → LastStep role e before
last_step role s calls (Begins none new stands) e before told at = absurd (no_list _ _ (sym none ∙ at))
last_step role s calls (Told old b x request reply played is tells gives stands) e before told at =
    record { old = old; new = s; step = told_step role old s calls b x e request reply played is tells gives stands before at }
last_step role s calls (LostBefore old b request played is gives stands) e before told at = none_some (same_head _ _ _ _ (sym is ∙ at))
last_step role s calls (LostAfter old b x request played is lost own gives stands) e before told at =
    let same : x ≡ e = one x e (same_head _ _ _ _ (sym is ∙ at)) in
    absurd (true≢false (sym told ∙ sym (ap (λ (y : Entry). y.told) same) ∙ lost))
last_step role s calls (Wakes old turned played turns wakes stands) e before told at = last_step role old calls played e before told at

-- the key is due now
pub due_now : (role : Role) (key : Key) (before since : List Call) → IsDueThroughout role key before since → IsKeyDue role key (entries (since ++ before))
due_now role key before [] due = due
due_now role key before (c ∷ since) due = due.0

-- the life is followed from the first watch on

module _ (role : Role) (built : IsBuiltKind role.kind) (kind : Kind) (place : ℕ) (at : slice_get (kinds_of role.kind) place ≡ Some kind) (key : Key) (first : Entry) (earlier : List Call)
    (watch : watches_kind kind first.request ≡ true) (quiet_first : IsQuiet first) where
  abbrev start : List Call
  start = Some first ∷ earlier

  abbrev Followed : ActorState → List Call → Type 0
  Followed s since = WasAskedSince role key start since ⊎ Phase place key s (watches kind since)

  told_on : (s new : ActorState) (calls before : List Call) (x : Entry) (request : Request) (reply : Reply) → IsPlayed role s before → calls ≡ Some x ∷ before → IsTold x request reply
      → PlaysCall s new request (outcomes.Told reply) (entries before) → StandsFor new (entries calls) → (since : List Call) → calls ≡ since ++ start
      → AreQuiet since → IsDueThroughout role key start since
      → ((rest : List Call) → before ≡ rest ++ start → AreQuiet rest → IsDueThroughout role key start rest → s.memory.stale ≡ false → Followed s rest) → Followed new since
  told_on s new calls before x request reply played is told gives stands [] e quiet due earlier_on =
      let step = told_step role s new calls before x first request reply played is told gives stands earlier e in
      let open_ = first_phase role built first earlier s new quiet_first step kind key watch in
      inr (subst (λ i. Phase i key new 0) (same_place role.kind kind _ place built open_.0 at) open_.1)
  told_on s new calls before x request reply played is told gives stands (None ∷ rest) e quiet due earlier_on = absurd quiet
  told_on s new calls before x request reply played is told gives stands (Some y ∷ rest) e quiet due earlier_on =
      let step = told_step role s new calls before x y request reply played is told gives stands (rest ++ start) e in
      let so_far = earlier_on rest (same_tail _ _ _ _ (sym is ∙ e)) quiet.1 due.1 (calls_fresh s gives.turned request gives.turns.turn) in
      elim so_far [
        | inl asked ↦ inl (inr asked)
        | inr phase ↦ elim (next_phase role built y (rest ++ start) s new quiet.0 step kind place at key (watches kind rest) (due_now role key start rest due.1) phase) [
          | inl now ↦ inl (inl now)
          | inr on ↦ inr on
        ]
      ]

  -- an agent that was told StaleEpoch makes no call any more, and is not followed on
  follow : (s : ActorState) (calls : List Call) → IsPlayed role s calls → (since : List Call) → calls ≡ since ++ start → AreQuiet since
      → IsDueThroughout role key start since → s.memory.stale ≡ false → Followed s since
  follow s calls (Begins none new stands) [] e quiet due fresh = absurd (no_list _ _ (sym none ∙ e))
  follow s calls (Begins none new stands) (c ∷ since) e quiet due fresh = absurd (no_list _ _ (sym none ∙ e))
  follow s calls (Told old before x request reply played is told gives stands) since e quiet due fresh =
      told_on old s calls before x request reply played is told gives stands since e quiet due (follow old before played)
  follow s calls (LostBefore old before request played is gives stands) [] e quiet due fresh = none_some (same_head _ _ _ _ (sym is ∙ e))
  follow s calls (LostBefore old before request played is gives stands) (None ∷ since) e quiet due fresh = absurd quiet
  follow s calls (LostBefore old before request played is gives stands) (Some y ∷ since) e quiet due fresh = none_some (same_head _ _ _ _ (sym is ∙ e))
  follow s calls (LostAfter old before x request played is lost own gives stands) [] e quiet due fresh =
      let same : x ≡ first = one x first (same_head _ _ _ _ (sym is ∙ e)) in
      absurd (true≢false (sym quiet_first.told ∙ sym (ap (λ (y : Entry). y.told) same) ∙ lost))
  follow s calls (LostAfter old before x request played is lost own gives stands) (None ∷ since) e quiet due fresh = absurd quiet
  follow s calls (LostAfter old before x request played is lost own gives stands) (Some z ∷ since) e quiet due fresh =
      let same : x ≡ z = one x z (same_head _ _ _ _ (sym is ∙ e)) in
      absurd (true≢false (sym quiet.0.told ∙ sym (ap (λ (y : Entry). y.told) same) ∙ lost))
  follow s calls (Wakes old turned played turns wakes stands) since e quiet due fresh = elim (follow old calls played since e quiet due fresh_old) [
    | inl asked ↦ inl asked
    | inr phase ↦
        let own : old.role ≡ role = same_role role old calls played in
        let due_here : IsKeyDue old.role key (entries calls) =
        subst (λ c. IsKeyDue old.role key (entries c)) (sym e) (subst (λ r. IsKeyDue r key (entries (since ++ start))) (sym own) (due_now role key start since due)) in
        inr (wake_phase role.kind built kind place at key old turned s (entries calls) (watches kind since) (ap (λ (r : Role). r.kind) own)
        (stands_now role old calls played) turns.order due_here (one_taken role old calls played) fresh_old turns.turn wakes phase)
  ]
    where
      fresh_old : old.memory.stale ≡ false
      fresh_old = still_fresh role old s calls played (Wakes old turned played turns wakes stands) fresh

-- the quiet calls between, and the first

quiet_between : (between : List Call) (first : Entry) → AreQuiet (between ++ Some first ∷ []) → AreQuiet between × IsQuiet first
quiet_between [] first q = (tt, q.0)
quiet_between (None ∷ between) first q = absurd q
quiet_between (Some e ∷ between) first q = let h = quiet_between between first q.1 in ((q.0, h.0), h.1)

pub played_is_diligent : PlayedIsDiligent
played_is_diligent role s calls built played kind first fourth earlier between later e four key due = elim followed [
  | inl asked ↦ asked
  | inr phase ↦ elim (next_phase role built fourth (between ++ Some first ∷ earlier) last.old last.new four.quiet.0 last.step kind place at key
      (watches kind between) (due_now role key (Some first ∷ earlier) between due) phase) [
        | inl asked ↦ absurd (never asked)
        | inr more ↦
            let counted : (if watches_kind kind fourth.request then watches kind between + 1 else watches kind between) ≡ watches kind between + 1 =
            ap (λ b. if b then watches kind between + 1 else watches kind between) four.closes in
            let few = few_watches place key last.new _ more in
            let many = four.many in
            absurd (omega (arith, few, counted, many))
      ]
]
  where
    quiet : AreQuiet between × IsQuiet first
    quiet = quiet_between between first four.quiet.1

    now : WasPlayed role (Some fourth ∷ between ++ Some first ∷ earlier)
    now = was_played role s calls played later (Some fourth ∷ between ++ Some first ∷ earlier) e

    last : LastStep role fourth (between ++ Some first ∷ earlier)
    last = last_step role now.state _ now.played fourth (between ++ Some first ∷ earlier) four.quiet.0.told refl

    then_ : WasPlayed role (Some first ∷ earlier)
    then_ = was_played role last.old _ last.step.played between (Some first ∷ earlier) refl

    opening : LastStep role first earlier
    opening = last_step role then_.state _ then_.played first earlier quiet.1.told refl

    place : ℕ
    place = opening.step.gives.turned.pass.behind

    at : slice_get (kinds_of role.kind) place ≡ Some kind
    at = (first_phase role built first earlier opening.old opening.new quiet.1 opening.step kind key four.opens).0

    followed : WasAskedSince role key (Some first ∷ earlier) between ⊎ Phase place key last.old (watches kind between)
    followed = follow role built kind place at key first earlier four.opens quiet.1 last.old _ last.step.played between refl quiet.0 due
        (calls_fresh last.old last.step.gives.turned fourth.request last.step.gives.turns.turn)

    never : IsAskedFor role key (entries (between ++ Some first ∷ earlier)) fourth.request → ⊥
    never asked = by fourth.request refl
      where
        by : (r : Request) → fourth.request ≡ r → ⊥
        by (requests.Watch k from) is = asked_no_watch role key _ k from (subst (λ r. IsAskedFor role key (entries (between ++ Some first ∷ earlier)) r) is asked)
        by _ is = true≢false (sym four.closes ∙ ap (watches_kind kind) is)
