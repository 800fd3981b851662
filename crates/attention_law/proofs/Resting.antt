-- Where a life is idle nothing that was due since it was last woken is left to be called for.
use Rattle.std.proofs.Common.{◌≡◌, ◌⊎◌, ◌<◌, ◌≤◌, List, [], ◌∷◌, ◌++◌, length, Bool, true, false, true≢false, Option, Some, None, inl, inr, refl, sym, ◌∙◌, ap, subst, arith, append_assoc}
use Rattle.std.specs.Prelude.{option_map}
use Rattle.std.specs.List.{list_any}
use Rattle.kube_objects.specs.declared.key.Key.{Key}
use Rattle.kube_parts.specs.declared.parts.Kind.{Kind}
use Rattle.kube_objects.specs.Keys.{same_key}
use Rattle.call_types.specs.declared.entry.Entry.{Entry}
use Rattle.call_types.specs.declared.request.Request.{Request}
use Rattle.call_types.specs.declared.request.SeatKind.{SeatKind}
use Rattle.call_types.specs.declared.request.SeatKind.TheVariants as seats
use Rattle.call_types.specs.declared.reply.Reply.{Reply}
use Rattle.call_types.specs.Kinds.{reads_kind}
use Rattle.informer_cache.specs.Cache.{IsTold, keys_in}
use Rattle.model_laws.proofs.Lists.{none_some, one}
use Rattle.worker_core.specs.declared.role.Role.{Role}
use Rattle.worker_core.specs.declared.task.Under.{Under}
use Rattle.worker_core.specs.declared.turn.Given.{Given}
use Rattle.worker_core.specs.declared.turn.Given.TheVariants as givens
use Rattle.worker_core.specs.declared.turn.Next.TheVariants as nexts
use Rattle.worker_core.specs.declared.turn.Outcome.{Outcome}
use Rattle.worker_core.specs.declared.turn.Outcome.TheVariants as outcomes
use Rattle.worker_core.specs.declared.turn.Pass.{Pass}
use Rattle.worker_core.specs.Absorbs.{given_told, learned, woken}
use Rattle.worker_core.specs.Memories.{Memory}
use Rattle.worker_core.specs.Roles.{IsBuiltKind, kinds_of}
use Rattle.worker_core.specs.Stands.{AnyIsUnderWay, GivenStands, StandsFor}
use Rattle.worker_core.specs.States.{ActorState, asked, call_under, given_call, waits}
use Rattle.worker_core.proofs.Answered.{gives_asked, passed}
use Rattle.worker_core.proofs.ByKind.{start_reads_none}
use Rattle.worker_core.proofs.KeysKept.{absorbed_keys}
use Rattle.worker_core.proofs.Machines.{task_reads_none, under_calls}
use Rattle.attention_law.specs.Diligence.{Call, IsAskedFor, IsKeyDue, IsDueThroughout, entries}
use Rattle.attention_law.specs.Played.{PlaysCall, IsPlayed, Turns, Wakes}
use Rattle.attention_law.specs.Resting.{Brings, Drops, HasPassed, Hears, IdleIsDone, IsPlayedSince, Misses, Resumes, Starts, WasCalledSince, is_whole, next_pass, pass_since}
use Rattle.attention_law.proofs.Dues.{never_due}
use Rattle.attention_law.proofs.Following.{due_now, no_list, one_taken, remembered, same_head, same_role, same_tail, stands_now, still_fresh}
use Rattle.attention_law.proofs.Needed.{next_open, next_over, next_quiet, pass_fits, played_on, whole_from}
use Rattle.attention_law.proofs.Phases.{called_or_waits, decided, waits_now}
use Rattle.attention_law.specs.Queues.{OneTaken, taken_keys, under_keys}
use Rattle.attention_law.proofs.Queues.{all_self}
use Rattle.attention_law.proofs.Silent.{told_stale}
use Rattle.attention_law.proofs.Turned.{calls_fresh, idle_rests, turn_taken}

-- a call that reads a kind is given as a read, with nothing under way

record IsRead (s : ActorState) : Type 0 where
  kind : Kind
  given : s.given ≡ Some (givens.Read kind)
  none : s.under ≡ None

read_given : (s : ActorState) (mine : List Entry) (request : Request) (kind : Kind) → StandsFor s mine → asked s ≡ Some request → reads_kind kind request ≡ true → IsRead s
read_given s mine request kind stands ask reads = by s.given refl ask stands.given
  where
    under : (u : Option Under) → AnyIsUnderWay s.role u mine → option_map call_under u ≡ Some request → IsRead s
    under None way e = none_some e
    under (Some u) way e = absurd (true≢false (sym reads ∙ task_reads_none u.task request kind (under_calls s.role u mine way ∙ e)))

    by : (g : Option Given) → s.given ≡ g → given_call s g ≡ Some request → GivenStands s.role s.memory g s.under → IsRead s
    by None at e f = none_some e
    by (Some givens.Task) at e f = under s.under stands.under_way e
    by (Some givens.Start) at e f = absurd (true≢false (sym reads ∙ start_reads_none s.role.kind s.role.node s.memory request kind e))
    by (Some (givens.Read k)) at e f = record { kind = k; given = at; none = f.1 }

-- a key that is brought waits

brought_waits : (key : Key) (s new : ActorState) (mine : List Entry) (e : Entry) (request : Request) (reply : Reply) → OneTaken s
    → PlaysCall s new request (outcomes.Told reply) mine → IsTold e request reply → Brings key e → waits key new.work ≡ true
brought_waits key s new mine e request reply own g told brings =
    ap (λ (x : ActorState). waits key x.work) g.takes
    ∙ ap (λ x. waits key (given_told (learned g.turned new.caches request reply) request reply x).work) read.given
    ∙ all_self (keys_in reply) key g.turned.work (subst (λ r. list_any (same_key key) (keys_in r) ≡ true) told.answered brings.has) none
  where
    read : IsRead g.turned
    read = read_given g.turned mine request brings.kind g.turns.stands (sym (gives_asked s g.turned (nexts.Call request) g.turns.turn))
        (subst (λ r. reads_kind brings.kind r ≡ true) told.asked brings.reads)

    none : taken_keys g.turned.work ≡ []
    none = turn_taken s g.turned (nexts.Call request) g.turns.turn own ∙ ap under_keys read.none

-- a key that waits, and is due, is called for or goes on waiting

call_waits : (role : Role) (key : Key) (s new : ActorState) (mine : List Entry) (request : Request) (outcome : Outcome) → s.role ≡ role
    → StandsFor s mine → PlaysCall s new request outcome mine → IsKeyDue role key mine → waits key s.work ≡ true
    → IsAskedFor role key mine request ⊎ (waits key new.work ≡ true)
call_waits role key s new mine request outcome own stands g due there =
    elim (called_or_waits key s g.turned mine stands g.turns.order (subst (λ r. IsKeyDue r key mine) (sym own) due) request g.turns.turn) [
      | inl asked ↦ inl (subst (λ r. IsAskedFor r key mine request) own asked)
      | inr stays ↦ inr ((absorbed_keys g.turned new request outcome g.takes).stays key (stays there))
    ]

-- it was called for since these calls, or waits
abbrev CalledOrWaits : Role → Key → List Call → List Call → ActorState → Type 0
CalledOrWaits role key start since s = WasCalledSince role key start since ⊎ (waits key s.work ≡ true)

goes_on : (role : Role) (key : Key) (start rest : List Call) (e : Entry) (s new : ActorState) → CalledOrWaits role key start rest s
    → (waits key s.work ≡ true → IsAskedFor role key (entries (rest ++ start)) e.request ⊎ (waits key new.work ≡ true)) → CalledOrWaits role key start (Some e ∷ rest) new
goes_on role key start rest e s new so_far on = elim so_far [
  | inl called ↦ inl (inr called)
  | inr there ↦ elim (on there) [ inl asked ↦ inl (inl asked) | inr still ↦ inr still ]
]

-- one call of a life that goes on
module _ (role : Role) (key : Key) (before rest : List Call) (s new : ActorState) (request : Request) (outcome : Outcome)
    (played : IsPlayedSince role s before rest) (gives : PlaysCall s new request outcome (entries (rest ++ before))) where
  pub is_life : IsPlayed role s (rest ++ before)
  is_life = played_on role s before rest played

  pub still_waits : (start later : List Call) (e : Entry) → e.request ≡ request → rest ++ before ≡ later ++ start
      → IsKeyDue role key (entries (later ++ start)) → CalledOrWaits role key start later s → CalledOrWaits role key start (Some e ∷ later) new
  still_waits start later e asks same due so_far =
      goes_on role key start later e s new so_far (λ there. subst (λ r. IsAskedFor role key (entries (later ++ start)) r ⊎ (waits key new.work ≡ true)) (sym asks) (on there))
    where
      on : waits key s.work ≡ true → IsAskedFor role key (entries (later ++ start)) request ⊎ (waits key new.work ≡ true)
      on there =
          call_waits role key s new (entries (later ++ start)) request outcome (same_role role s (rest ++ before) is_life)
          (subst (λ c. StandsFor s (entries c)) same (stands_now role s (rest ++ before) is_life))
          (subst (λ c. PlaysCall s new request outcome (entries c)) same gives) due there

-- keys that are due since the life was woken

woken_waits : (role : Role) (built : IsBuiltKind role.kind) (key : Key) (s turned new : ActorState) (calls : List Call) → IsPlayed role s calls
    → Turns s turned nexts.Idle (entries calls) → new ≡ woken turned → s.memory.stale ≡ false → IsKeyDue role key (entries calls) → waits key new.work ≡ true
woken_waits role built key s turned new calls played turns wakes fresh due =
    let own = same_role role s calls played in
    waits_now key s turned new (entries calls) (subst (λ (r : Role). IsBuiltKind r.kind) (sym own) built)
    (stands_now role s calls played) turns.order (subst (λ r. IsKeyDue r key (entries calls)) (sym own) due) (one_taken role s calls played) fresh turns.turn wakes

follow_due : (role : Role) (key : Key) → IsBuiltKind role.kind → (s : ActorState) (before since : List Call) → IsPlayedSince role s before since
    → s.memory.stale ≡ false → IsDueThroughout role key before since → CalledOrWaits role key before since s
follow_due role key built s before since (Starts none_before none new stands) fresh due =
    absurd (never_due role key built (subst (λ c. IsKeyDue role key (entries c)) none_before (subst (IsDueThroughout role key before) none due)))
follow_due role key built s before since (Hears old rest e request reply played is told gives stands) fresh due =
    let then_ = subst (IsDueThroughout role key before) is due in
    subst (λ c. CalledOrWaits role key before c s) (sym is)
    (still_waits role key before rest old s request (outcomes.Told reply) played gives before rest e told.asked refl
    (due_now role key before rest then_.1) (follow_due role key built old before rest played (calls_fresh old gives.turned request gives.turns.turn) then_.1))
follow_due role key built s before since (Drops old rest request played is gives stands) fresh due = subst (λ c. CalledOrWaits role key before c s) (sym is) (inl tt)
follow_due role key built s before since (Misses old rest e request played is lost own gives stands) fresh due =
    let then_ = subst (IsDueThroughout role key before) is due in
    subst (λ c. CalledOrWaits role key before c s) (sym is)
    (still_waits role key before rest old s request outcomes.Lost played gives before rest e own refl (due_now role key before rest then_.1)
    (follow_due role key built old before rest played (calls_fresh old gives.turned request gives.turns.turn) then_.1))
follow_due role key built s before since (Resumes old turned earlier made played is none turns wakes stands) fresh due =
    let life : IsPlayed role old before = subst (IsPlayed role old) (sym is) (played_on role old earlier made played) in
    inr (woken_waits role built key old turned s before life turns wakes
    (still_fresh role old s before life (Wakes old turned life turns wakes stands) fresh) (subst (IsDueThroughout role key before) none due))

-- keys that a list or a watch brought since

pub never_empty : (later earlier : List Call) (e : Entry) → [] ≡ later ++ (Some e ∷ earlier) → ⊥
never_empty [] earlier e is = no_list (Some e) earlier is
never_empty (c ∷ later) earlier e is = no_list c (later ++ (Some e ∷ earlier)) is

module _ (role : Role) (key : Key) (e : Entry) (earlier before : List Call) (brings : Brings key e) where
  abbrev start : List Call
  start = Some e ∷ (earlier ++ before)

  joined : (rest later : List Call) → rest ≡ later ++ (Some e ∷ earlier) → rest ++ before ≡ later ++ start
  joined rest later is = ap (λ c. c ++ before) is ∙ append_assoc later (Some e ∷ earlier) before

  follow_brought : (s : ActorState) (since : List Call) → IsPlayedSince role s before since → (later : List Call)
      → since ≡ later ++ (Some e ∷ earlier) → IsDueThroughout role key start later → CalledOrWaits role key start later s
  follow_brought s since (Starts none_before none new stands) later at due = absurd (never_empty later earlier e (sym none ∙ at))
  follow_brought s since (Hears old rest x request reply played is told gives stands) [] at due =
      let same : x ≡ e = one x e (same_head _ _ _ _ (sym is ∙ at)) in
      inr (brought_waits key old s (entries (rest ++ before)) e request reply
      (one_taken role old (rest ++ before) (played_on role old before rest played)) gives (subst (λ y. IsTold y request reply) same told) brings)
  follow_brought s since (Hears old rest x request reply played is told gives stands) (c ∷ later) at due =
      let tail : rest ≡ later ++ (Some e ∷ earlier) = same_tail _ _ _ _ (sym is ∙ at) in
      subst (λ d. CalledOrWaits role key start (d ∷ later) s) (same_head _ _ _ _ (sym is ∙ at))
      (still_waits role key before rest old s request (outcomes.Told reply) played gives start later x told.asked (joined rest later tail)
      (due_now role key start later due.1) (follow_brought old rest played later tail due.1))
  follow_brought s since (Drops old rest request played is gives stands) [] at due = none_some (same_head _ _ _ _ (sym is ∙ at))
  follow_brought s since (Drops old rest request played is gives stands) (c ∷ later) at due = subst (λ d. CalledOrWaits role key start (d ∷ later) s) (same_head _ _ _ _ (sym is ∙ at)) (inl tt)
  follow_brought s since (Misses old rest x request played is lost own gives stands) [] at due =
      let same : x ≡ e = one x e (same_head _ _ _ _ (sym is ∙ at)) in
      absurd (true≢false (sym brings.told ∙ sym (ap (λ (y : Entry). y.told) same) ∙ lost))
  follow_brought s since (Misses old rest x request played is lost own gives stands) (c ∷ later) at due =
      let tail : rest ≡ later ++ (Some e ∷ earlier) = same_tail _ _ _ _ (sym is ∙ at) in
      subst (λ d. CalledOrWaits role key start (d ∷ later) s) (same_head _ _ _ _ (sym is ∙ at))
      (still_waits role key before rest old s request outcomes.Lost played gives start later x own (joined rest later tail)
      (due_now role key start later due.1) (follow_brought old rest played later tail due.1))
  follow_brought s since (Resumes old turned made_before made played is none turns wakes stands) later at due = absurd (never_empty later earlier e (sym none ∙ at))

-- a whole pass without events

some_kinds : (kind : SeatKind) → IsBuiltKind kind → 0 < length (kinds_of kind)
some_kinds seats.User built = absurd built
some_kinds seats.Binder built = let some : 0 < 3 = omega arith in some
some_kinds seats.Ops built = let some : 0 < 4 = omega arith in some
some_kinds seats.Scheduler built = let some : 0 < 5 = omega arith in some
some_kinds seats.ClaimProtect built = let some : 0 < 2 = omega arith in some
some_kinds seats.VolumeProtect built = let some : 0 < 1 = omega arith in some
some_kinds seats.Agent built = let some : 0 < 1 = omega arith in some

same_pass : (kind : SeatKind) (p pass : Pass) → IsBuiltKind kind → next_pass kind p ≡ next_pass kind pass → pass.event ≡ false → length (kinds_of kind) ≤ pass.behind → p ≡ pass
same_pass kind p pass built fits quiet past = by p.event (is_whole kind p) refl refl
  where
    then_ : next_pass kind p ≡ pass
    then_ = fits ∙ next_quiet kind pass quiet

    by : (b w : Bool) → p.event ≡ b → is_whole kind p ≡ w → p ≡ pass
    by false w event whole = sym (next_quiet kind p event) ∙ then_
    by true false event whole = sym (next_open kind p whole) ∙ then_
    by true true event whole =
        let zero_ : 0 ≡ pass.behind = ap (λ (x : Pass). x.behind) (sym (next_over kind p event whole) ∙ then_) in
        let some = some_kinds kind built in
        absurd (omega (arith, zero_, some, past))

pub idle_is_done : IdleIsDone
idle_is_done role s turned before since built played turns unstale = record {
  passed = through;
  brought = λ key e later earlier at brings due. elim (follow_brought role key e earlier before brings s since played later at due) [
    | inl called ↦ called
    | inr there ↦ absurd (nothing_waits key
        (subst (λ c. IsKeyDue role key (entries c)) (sym (joined role key e earlier before brings since later at)) (due_now role key (Some e ∷ (earlier ++ before)) later due)) there)
  ];
  due = λ key due. elim (follow_due role key built s before since played fresh due) [
    | inl called ↦ called
    | inr there ↦ absurd (nothing_waits key (due_now role key before since due) there)
  ];
}
  where
    life : IsPlayed role s (since ++ before)
    life = played_on role s before since played

    own : s.role ≡ role
    own = same_role role s (since ++ before) life

    fresh : s.memory.stale ≡ false
    fresh = by s.memory.stale refl
      where
        by : (b : Bool) → s.memory.stale ≡ b → b ≡ false
        by false is = refl
        by true is = absurd (unstale (told_stale role (entries (since ++ before)) built (sym (ap (λ (m : Memory). m.stale) (remembered role s (since ++ before) life)) ∙ is)))

    nothing_waits : (key : Key) → IsKeyDue role key (entries (since ++ before)) → waits key s.work ≡ true → ⊥
    nothing_waits key due =
        decided key s turned (woken turned) (entries (since ++ before)) (subst (λ (r : Role). IsBuiltKind r.kind) (sym own) built)
        (stands_now role s (since ++ before) life) turns.order (subst (λ r. IsKeyDue r key (entries (since ++ before))) (sym own) due)
        (one_taken role s (since ++ before) life) fresh turns.turn refl

    through : HasPassed role.kind since
    through = record { whole = whole_; quiet = ap (λ (x : Pass). x.event) same ∙ (idle_rests s turned turns.turn fresh).quiet }
      where
        past : length (kinds_of role.kind) ≤ s.pass.behind
        past = subst (λ (r : Role). length (kinds_of r.kind) ≤ s.pass.behind) own (passed (kinds_of s.role.kind) s.pass.behind (idle_rests s turned turns.turn fresh).passed)

        same : pass_since role.kind since ≡ s.pass
        same = same_pass role.kind (pass_since role.kind since) s.pass built (pass_fits role s before since played) (idle_rests s turned turns.turn fresh).quiet past

        whole_ : is_whole role.kind (pass_since role.kind since) ≡ true
        whole_ = ap (is_whole role.kind) same ∙ whole_from role.kind s.pass past
