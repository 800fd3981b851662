-- The passes of a life by its calls are those of its actor; so no kind is watched again after a whole pass without events.
use Rattle.std.proofs.Common.{◌≡◌, ℕ, ◌<◌, ◌≤◌, List, [], ◌++◌, length, Bool, true, false, true≢false, Option, Some, None, refl, sym, ◌∙◌, ap, subst, arith, if◌then◌else◌}
use Rattle.std.specs.Prelude.{◌&&◌, nat_lt, not}
use Rattle.std.proofs.lemmas.Bool.Decides.{nat_tests}
use Rattle.std.proofs.lemmas.Option.{slice_get_within}
use Rattle.kube_parts.specs.declared.parts.Kind.{Kind}
use Rattle.call_types.specs.declared.entry.Entry.{Entry}
use Rattle.call_types.specs.declared.request.Request.{Request}
use Rattle.call_types.specs.declared.request.Request.TheVariants as requests
use Rattle.call_types.specs.declared.request.SeatKind.{SeatKind}
use Rattle.call_types.specs.declared.reply.Reply.{Reply}
use Rattle.informer_cache.specs.Cache.{IsTold}
use Rattle.worker_core.specs.declared.role.Role.{Role}
use Rattle.worker_core.specs.declared.task.Under.{Under}
use Rattle.worker_core.specs.declared.turn.Given.{Given}
use Rattle.worker_core.specs.declared.turn.Given.TheVariants as givens
use Rattle.worker_core.specs.declared.turn.Next.{Next}
use Rattle.worker_core.specs.declared.turn.Next.TheVariants as nexts
use Rattle.worker_core.specs.declared.turn.Outcome.TheVariants as outcomes
use Rattle.worker_core.specs.declared.turn.Pass.{Pass}
use Rattle.worker_core.specs.Absorbs.{absorbed, given_told, is_passing, learned, lost_given, lost_to, lost_under, pass_after}
use Rattle.worker_core.specs.Roles.{kinds_of}
use Rattle.worker_core.specs.Stands.{StandsFor}
use Rattle.worker_core.specs.States.{ActorState}
use Rattle.worker_core.specs.Turns.{IsTurn, passing}
use Rattle.worker_core.proofs.Answered.{gives_asked, passed, turn_role}
use Rattle.worker_core.proofs.PassRules.{passes_begin, watches_follow}
use Rattle.worker_core.proofs.Quiet.{itself}
use Rattle.attention_law.specs.Diligence.{Call, entries}
use Rattle.attention_law.specs.Played.{IsPlayed, LostAfter, LostBefore, Told, Wakes, Begins}
use Rattle.attention_law.specs.Resting.{
  AreNeeded,
  Drops,
  HasPassed,
  Hears,
  IsPlayedSince,
  Misses,
  PlayedIsNeeded,
  PlayedSinceIsPlayed,
  Resumes,
  Starts,
  is_watch,
  is_whole,
  new_pass,
  next_pass,
  pass_since,
  pass_with,
}
use Rattle.attention_law.proofs.Following.{same_role}
use Rattle.attention_law.proofs.Passing.{given_read, told_stays}
use Rattle.attention_law.proofs.Turned.{Kept, PassAfter, Renewed, turn_pass}

-- a life that is played since it was last woken is one that is played

pub played_on : PlayedSinceIsPlayed
played_on role s before since (Starts none_before none new stands) =
    subst (λ b. IsPlayed role s (since ++ b)) (sym none_before) (subst (λ c. IsPlayed role s (c ++ [])) (sym none) (Begins refl new stands))
played_on role s before since (Hears old rest e request reply played is told gives stands) =
    Told old (rest ++ before) e request reply (played_on role old before rest played) (ap (λ c. c ++ before) is) told gives stands
played_on role s before since (Drops old rest request played is gives stands) = LostBefore old (rest ++ before) request (played_on role old before rest played) (ap (λ c. c ++ before) is) gives stands
played_on role s before since (Misses old rest e request played is lost own gives stands) =
    LostAfter old (rest ++ before) e request (played_on role old before rest played) (ap (λ c. c ++ before) is) lost own gives stands
played_on role s before since (Resumes old turned earlier made played is none turns wakes stands) =
    subst (λ c. IsPlayed role s (c ++ before)) (sym none) (Wakes old turned (subst (IsPlayed role old) (sym is) (played_on role old earlier made played)) turns wakes stands)

-- which pass a watch is of

abbrev pass_of : ActorState → Pass
pass_of s = s.pass

pub whole_from : (kind : SeatKind) (pass : Pass) → length (kinds_of kind) ≤ pass.behind → is_whole kind pass ≡ true
whole_from kind pass past = by (nat_lt pass.behind (length (kinds_of kind))) refl
  where
    by : (b : Bool) → nat_lt pass.behind (length (kinds_of kind)) ≡ b → not b ≡ true
    by true e = absurd (grind (arith, nat_tests))
    by false e = refl

open_below : (kind : SeatKind) (pass : Pass) → pass.behind < length (kinds_of kind) → is_whole kind pass ≡ false
open_below kind pass below = by (nat_lt pass.behind (length (kinds_of kind))) refl
  where
    by : (b : Bool) → nat_lt pass.behind (length (kinds_of kind)) ≡ b → not b ≡ false
    by true e = refl
    by false e = absurd (grind (arith, nat_tests))

pub next_quiet : (kind : SeatKind) (pass : Pass) → pass.event ≡ false → next_pass kind pass ≡ pass
next_quiet kind pass quiet = ap (λ b. if b && is_whole kind pass then new_pass else pass) quiet

pub next_open : (kind : SeatKind) (pass : Pass) → is_whole kind pass ≡ false → next_pass kind pass ≡ pass
next_open kind pass open_ = ap (λ b. if pass.event && b then new_pass else pass) open_ ∙ by pass.event
  where
    by : (b : Bool) → (if b && false then new_pass else pass) ≡ pass
    by true = refl
    by false = refl

pub next_over : (kind : SeatKind) (pass : Pass) → pass.event ≡ true → is_whole kind pass ≡ true → next_pass kind pass ≡ new_pass
next_over kind pass brought whole = ap (λ b. if b && is_whole kind pass then new_pass else pass) brought ∙ ap (λ b. if b then new_pass else pass) whole

-- a turn leaves the pass that the next watch is of

turn_next : (kind : SeatKind) (s turned : ActorState) (answer : Next) → s.role.kind ≡ kind → IsTurn s turned answer → next_pass kind turned.pass ≡ next_pass kind s.pass
turn_next kind s turned answer own turn = by (turn_pass s turned answer turn)
  where
    over : s.pass.event ≡ true → turned.pass ≡ new_pass → is_whole kind s.pass ≡ true
    over brought is =
        let begins = passes_begin s turned answer turn (λ same. true≢false (sym brought ∙ ap (λ (p : Pass). p.event) (sym same ∙ is))) in
        whole_from kind s.pass (subst (λ k. length (kinds_of k) ≤ s.pass.behind) own (passed (kinds_of s.role.kind) s.pass.behind begins.1))

    by : PassAfter s turned → next_pass kind turned.pass ≡ next_pass kind s.pass
    by (Kept same) = ap (next_pass kind) same
    by (Renewed brought is) = ap (next_pass kind) is ∙ sym (next_over kind s.pass brought (over brought is))

lost_leaves : (s : ActorState) → (lost_to s).pass ≡ s.pass
lost_leaves s = by s.given
  where
    task : (u : Option Under) → (lost_under s u).pass ≡ s.pass
    task None = refl
    task (Some u) = refl

    by : (g : Option Given) → (lost_given s g).pass ≡ s.pass
    by None = refl
    by (Some givens.Task) = task s.under
    by (Some givens.Start) = refl
    by (Some (givens.Read kind)) = refl

-- a turn that gives a watch, where the passes by the calls have come to p

module _ (kind : SeatKind) (s turned : ActorState) (mine : List Entry) (k : Kind) (from : ℕ) (p : Pass) (own : s.role.kind ≡ kind)
    (turn : IsTurn s turned (nexts.Call (requests.Watch k from))) (stands : StandsFor turned mine) (fits : next_pass kind p ≡ next_pass kind s.pass) where
  gives_read : turned.given ≡ Some (givens.Read k)
  gives_read = given_read turned mine k from stands (sym (gives_asked s turned (nexts.Call (requests.Watch k from)) turn))

  follows : passing turned ≡ Some k
  follows = watches_follow s turned (nexts.Call (requests.Watch k from)) k from turn gives_read refl

  below : turned.pass.behind < length (kinds_of kind)
  below = subst (λ x. turned.pass.behind < length (kinds_of x))
      (ap (λ (r : Role). r.kind) (turn_role s turned (nexts.Call (requests.Watch k from)) turn) ∙ own) (slice_get_within (kinds_of turned.role.kind) turned.pass.behind k follows)

  -- the watch is of the pass of the turn
  same : next_pass kind p ≡ turned.pass
  same = fits ∙ sym (turn_next kind s turned (nexts.Call (requests.Watch k from)) own turn) ∙ next_open kind turned.pass (open_below kind turned.pass below)

  pub in_vain : is_whole kind p ≡ true → p.event ≡ false → ⊥
  in_vain whole quiet =
      let is : p ≡ turned.pass = sym (next_quiet kind p quiet) ∙ same in
      true≢false (sym whole ∙ ap (is_whole kind) is ∙ open_below kind turned.pass below)

  pub watch_leads : (new : ActorState) (reply : Reply) → new ≡ absorbed turned new.caches (requests.Watch k from) (outcomes.Told reply)
      → pass_after (next_pass kind p) true (requests.Watch k from) reply ≡ new.pass
  watch_leads new reply takes =
      ap (λ x. pass_after x true (requests.Watch k from) reply) same
      ∙ sym (ap pass_of takes
      ∙ ap (λ g. pass_of (given_told (learned turned new.caches (requests.Watch k from) reply) (requests.Watch k from) reply g)) gives_read
      ∙ ap (λ o. pass_after turned.pass (is_passing o k) (requests.Watch k from) reply) follows
      ∙ ap (λ b. pass_after turned.pass b (requests.Watch k from) reply) (itself k))

-- the answer to a call leads the passes by the calls where it leads the actor's

module _ (kind : SeatKind) (s turned new : ActorState) (mine : List Entry) (request : Request) (p : Pass) (own : s.role.kind ≡ kind)
    (turn : IsTurn s turned (nexts.Call request)) (stands : StandsFor turned mine) (fits : next_pass kind p ≡ next_pass kind s.pass) where
  stays_fit : turned.pass ≡ new.pass → next_pass kind p ≡ next_pass kind new.pass
  stays_fit same_ = fits ∙ sym (turn_next kind s turned (nexts.Call request) own turn) ∙ ap (next_pass kind) same_

  pub told_fits : (e : Entry) (reply : Reply) → IsTold e request reply → new ≡ absorbed turned new.caches request (outcomes.Told reply) → next_pass kind (pass_with kind e p) ≡ next_pass kind new.pass
  told_fits e reply told takes = by request refl
    where
      with_told : pass_with kind e p ≡ (if is_watch e.request then pass_after (next_pass kind p) true e.request e.reply else p)
      with_told = ap (λ b. if b && is_watch e.request then pass_after (next_pass kind p) true e.request e.reply else p) told.told

      other : (r : Request) → request ≡ r → is_watch r ≡ false → next_pass kind (pass_with kind e p) ≡ next_pass kind new.pass
      other r is none =
          ap (next_pass kind) (with_told ∙ ap (λ b. if b then pass_after (next_pass kind p) true e.request e.reply else p) (ap is_watch (told.asked ∙ is) ∙ none))
          ∙ stays_fit (sym (ap pass_of takes ∙ told_stays turned new.caches request reply (ap is_watch is ∙ none)))

      watch : (k : Kind) (from : ℕ) → request ≡ requests.Watch k from → next_pass kind (pass_with kind e p) ≡ next_pass kind new.pass
      watch k from is =
          ap (next_pass kind) (with_told
          ∙ ap (λ r. if is_watch r then pass_after (next_pass kind p) true r e.reply else p) (told.asked ∙ is)
          ∙ ap (λ r. pass_after (next_pass kind p) true (requests.Watch k from) r) told.answered
          ∙ watch_leads kind s turned mine k from p own (subst (λ r. IsTurn s turned (nexts.Call r)) is turn) stands fits new reply
          (takes ∙ ap (λ r. absorbed turned new.caches r (outcomes.Told reply)) is))

      by : (r : Request) → request ≡ r → next_pass kind (pass_with kind e p) ≡ next_pass kind new.pass
      by (requests.Watch k from) is = watch k from is
      by _ is = other _ is refl

  pub lost_fits : new ≡ absorbed turned new.caches request outcomes.Lost → next_pass kind p ≡ next_pass kind new.pass
  lost_fits takes = stays_fit (sym (ap pass_of takes ∙ lost_leaves turned))

pub pass_fits : (role : Role) (s : ActorState) (before since : List Call) → IsPlayedSince role s before since → next_pass role.kind (pass_since role.kind since) ≡ next_pass role.kind s.pass
pass_fits role s before since (Starts none_before none new stands) =
    let all : length (kinds_of role.kind) ≤ length (kinds_of role.kind) = omega arith in
    ap (λ c. next_pass role.kind (pass_since role.kind c)) none
    ∙ sym (ap (next_pass role.kind) new.pass
    ∙ next_over role.kind (record { behind = length (kinds_of role.kind); event = true }) refl (whole_from role.kind (record { behind = length (kinds_of role.kind); event = true }) all))
pass_fits role s before since (Hears old rest e request reply played is told gives stands) =
    ap (λ c. next_pass role.kind (pass_since role.kind c)) is
    ∙ told_fits role.kind old gives.turned s (entries (rest ++ before)) request (pass_since role.kind rest)
    (ap (λ (r : Role). r.kind) (same_role role old (rest ++ before) (played_on role old before rest played))) gives.turns.turn gives.turns.stands
    (pass_fits role old before rest played) e reply told gives.takes
pass_fits role s before since (Drops old rest request played is gives stands) =
    ap (λ c. next_pass role.kind (pass_since role.kind c)) is
    ∙ lost_fits role.kind old gives.turned s (entries (rest ++ before)) request (pass_since role.kind rest)
    (ap (λ (r : Role). r.kind) (same_role role old (rest ++ before) (played_on role old before rest played))) gives.turns.turn gives.turns.stands
    (pass_fits role old before rest played) gives.takes
pass_fits role s before since (Misses old rest e request played is lost own gives stands) =
    ap (λ c. next_pass role.kind (pass_since role.kind c)) is
    ∙ ap (λ b. next_pass role.kind (if b && is_watch e.request then pass_after (next_pass role.kind (pass_since role.kind rest)) true e.request e.reply else pass_since role.kind rest)) lost
    ∙ lost_fits role.kind old gives.turned s (entries (rest ++ before)) request (pass_since role.kind rest)
    (ap (λ (r : Role). r.kind) (same_role role old (rest ++ before) (played_on role old before rest played))) gives.turns.turn gives.turns.stands
    (pass_fits role old before rest played) gives.takes
pass_fits role s before since (Resumes old turned earlier made played is none turns wakes stands) =
    ap (λ c. next_pass role.kind (pass_since role.kind c)) none ∙ sym (ap (λ (x : ActorState). next_pass role.kind x.pass) wakes)

-- no kind is watched in vain

needed_call : (role : Role) (s turned : ActorState) (before rest : List Call) (e : Entry) (request : Request) → IsPlayedSince role s before rest
    → IsTurn s turned (nexts.Call request) → StandsFor turned (entries (rest ++ before)) → e.request ≡ request → is_watch e.request ≡ true → HasPassed role.kind rest → ⊥
needed_call role s turned before rest e request played turn stands asks watches through = by request refl
  where
    by : (r : Request) → request ≡ r → ⊥
    by (requests.Watch k from) is =
        in_vain role.kind s turned (entries (rest ++ before)) k from (pass_since role.kind rest)
        (ap (λ (r : Role). r.kind) (same_role role s (rest ++ before) (played_on role s before rest played))) (subst (λ r. IsTurn s turned (nexts.Call r)) is turn) stands
        (pass_fits role s before rest played) through.whole through.quiet
    by _ is = true≢false (sym watches ∙ ap is_watch (asks ∙ is))

pub played_is_needed : PlayedIsNeeded
played_is_needed role s before since (Starts none_before none new stands) = subst (AreNeeded role.kind) (sym none) tt
played_is_needed role s before since (Hears old rest e request reply played is told gives stands) =
    subst (AreNeeded role.kind) (sym is) (played_is_needed role old before rest played, needed_call role old gives.turned before rest e request played gives.turns.turn gives.turns.stands told.asked)
played_is_needed role s before since (Drops old rest request played is gives stands) =
    subst (AreNeeded role.kind) (sym is) (played_is_needed role old before rest played, λ watches. absurd (true≢false (sym watches)))
played_is_needed role s before since (Misses old rest e request played is lost own gives stands) =
    subst (AreNeeded role.kind) (sym is) (played_is_needed role old before rest played, needed_call role old gives.turned before rest e request played gives.turns.turn gives.turns.stands own)
played_is_needed role s before since (Resumes old turned earlier made played is none turns wakes stands) = subst (AreNeeded role.kind) (sym none) tt
