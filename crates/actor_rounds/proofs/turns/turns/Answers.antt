use Rattle.std.proofs.Common.{◌≡◌, ◌∙◌, ◌+◌, ◌≤◌, ◌&&◌, ◌++◌, ap, sym, subst, refl, inl, arith, length, take, List, [], ◌∷◌, Some, ℕ, Bool}
use Rattle.std.specs.Prelude.{slice_get, slice_set}
use Rattle.std.proofs.lemmas.Option.{slice_get_within}
use Rattle.std.proofs.lemmas.Bool.{and_parts}
use Rattle.worker_core.specs.Absorbs.{woken}
use Rattle.actor_rounds.specs.Answers.Answered.{Lets}
use Rattle.actor_rounds.specs.declared.drainers.Drainer.{Drainer}
use Rattle.actor_rounds.specs.Drainers.{AreRoles, AreSeats, AreStanding, StandsWhole, roles_of, seats_of}
use Rattle.actor_rounds.specs.Longer.{HasGrown, IsOneOf}
use Rattle.actor_rounds.specs.Rounds.{IsRound, Runs, ServesSeats}
use Rattle.actor_rounds.proofs.Entries.{grown_then, grown_wider, not_grown}
use Rattle.actor_rounds.proofs.RunFacts.{run_left}
use Rattle.actor_rounds.proofs.RoundFacts.{
  IsIdleAt,
  and_else,
  and_then,
  at_place,
  each_set,
  fewer_left,
  first_steady,
  length_set,
  one_of_seats,
  roles_set,
  same_length,
  seats_set,
  turn_more,
  turns_end,
}
use Rattle.actor_rounds.proofs.turns.turns.Goals as goal
use Rattle.actor_rounds.proofs.turns.turns.Goals.{then-whole, else-whole}

pub loop-place-init : goal.loop-place-init
loop-place-init g c =
    let view : c.drainers.inside.list.items ≡ c.args.drainers.now = cc in
    let stands = subst (λ (ds : List Drainer). AreStanding ds (g.W.Answers.past c.args.desk.now)) (sym view) c.requires.stands in
    record {
      few = omega arith;
      some = λ more any. absurd (omega arith);
      round = λ past left after whole r. r;
      stands = λ place d lt at. stands.each place d at;
      idle = λ still place d lt at. absurd (omega arith);
      seats = refl;
      roles = refl;
      serves = λ seat there. there;
      free = c.requires.free;
      lets = refl;
      setup = refl;
      lent = refl;
      grown = not_grown (seats_of c.drainers.inside.list.items) (g.W.Answers.past c.args.desk.now) (g.W.Answers.past c.args.desk.now) refl;
      users = refl;
      actors = λ before. before;
    }

pub turn-requires-clause-serves : goal.turn-requires-clause-serves
turn-requires-clause-serves g c =
    let view : c.drainers.inside.list.items ≡ c.args.drainers.now = cc in
    let serves = subst (λ (ds : List Drainer). ServesSeats (g.W.Answers.serves c.args.desk.now) (seats_of ds)) (sym view) c.requires.serves in
    let i = c.loop-place.invariant in
    let items = c.loop-place.drainers-inside.list.items in
    let d = c.index_mut.result.now in
    let at : slice_get items c.loop-place.place ≡ Some d =
    at_place c.drainers.inside.list.items items c.loop-place.place d i.seats (omega (arith, c.loop-place-test.true, c.len-place-end.ensures)) c.index_mut.ensures.value in
    i.serves d.seat (serves d.seat (subst (λ (seats : List ℕ). IsOneOf seats d.seat) i.seats (one_of_seats items c.loop-place.place d at d.seat (inl refl))))

pub turn-requires-clause-stands : goal.turn-requires-clause-stands
turn-requires-clause-stands g c =
    let items = c.loop-place.drainers-inside.list.items in
    let d = c.index_mut.result.now in
    let at : slice_get items c.loop-place.place ≡ Some d =
    at_place c.drainers.inside.list.items items c.loop-place.place d c.loop-place.invariant.seats (omega (arith, c.loop-place-test.true, c.len-place-end.ensures)) c.index_mut.ensures.value in
    c.loop-place.invariant.stands c.loop-place.place d (slice_get_within items c.loop-place.place d at) at

pub returns-in_err-ran-clause-grown : goal.returns-in_err-ran-clause-grown
returns-in_err-ran-clause-grown g c =
    let view : c.drainers.inside.list.items ≡ c.args.drainers.now = cc in
    let items = c.loop-place.drainers-inside.list.items in
    let d = c.index_mut.result.now in
    let at : slice_get items c.loop-place.place ≡ Some d =
    at_place c.drainers.inside.list.items items c.loop-place.place d c.loop-place.invariant.seats (omega (arith, c.loop-place-test.true, c.len-place-end.ensures)) c.index_mut.ensures.value in
    let i = c.loop-place.invariant in
    let wide = grown_wider (d.seat ∷ []) (seats_of items) (one_of_seats items c.loop-place.place d at) (g.W.Answers.past c.loop-place.desk) (g.W.Answers.past c.turn.new.desk) c.turn.ensures.grown in
    subst (λ (ds : List Drainer). HasGrown (seats_of ds) (g.W.Answers.past c.args.desk.now) (g.W.Answers.past c.turn.new.desk)) view
    (grown_then (seats_of c.drainers.inside.list.items) (g.W.Answers.past c.args.desk.now) (g.W.Answers.past c.loop-place.desk) (g.W.Answers.past c.turn.new.desk) i.grown
    (subst (λ (seats : List ℕ). HasGrown seats (g.W.Answers.past c.loop-place.desk) (g.W.Answers.past c.turn.new.desk)) i.seats wide))

pub returns-in_err-ran-clause-users : goal.returns-in_err-ran-clause-users
returns-in_err-ran-clause-users g c = c.turn.ensures.users ∙ c.loop-place.invariant.users

pub returns-in_err-ran-clause-seats : goal.returns-in_err-ran-clause-seats
returns-in_err-ran-clause-seats g c =
    let view : c.drainers.inside.list.items ≡ c.args.drainers.now = cc in
    let items = c.loop-place.drainers-inside.list.items in
    let d = c.index_mut.result.now in
    let at : slice_get items c.loop-place.place ≡ Some d =
    at_place c.drainers.inside.list.items items c.loop-place.place d c.loop-place.invariant.seats (omega (arith, c.loop-place-test.true, c.len-place-end.ensures)) c.index_mut.ensures.value in
    seats_set items c.loop-place.place d c.turn.new.drainer at c.turn.ensures.seat ∙ c.loop-place.invariant.seats ∙ ap seats_of view

pub loop-place-preserved : goal.loop-place-preserved
loop-place-preserved g c =
    let view : c.drainers.inside.list.items ≡ c.args.drainers.now = cc in
    let stands = subst (λ (ds : List Drainer). AreStanding ds (g.W.Answers.past c.args.desk.now)) (sym view) c.requires.stands in
    let items = c.loop-place.drainers-inside.list.items in
    let place = c.loop-place.place in
    let d = c.index_mut.result.now in
    let ran = c.turn.new.drainer in
    let h = (g.W.Answers.past c.loop-place.desk) in
    let new = (g.W.Answers.past c.turn.new.desk) in
    let left = c.loop-place.left in
    let rest = c.in_ok-ran.ran.left in
    let idle = c.in_ok-ran.ran.idle in
    let i = c.loop-place.invariant in
    let r = c.in_ok-ran.ensures in
    let lets = g.W.Answers.lets c.args.desk.now in
    let runs = subst (λ (l : Lets). Runs l d.seat ran.actor new rest idle (woken d.actor) h left) i.lets r.runs in
    let at : slice_get items place ≡ Some d =
    at_place c.drainers.inside.list.items items c.loop-place.place d c.loop-place.invariant.seats (omega (arith, c.loop-place-test.true, c.len-place-end.ensures)) c.index_mut.ensures.value in
    let low : rest ≤ left = run_left _ _ _ _ _ _ _ _ _ r.runs in
    let whole : c.if-whole.whole ≡ (c.loop-place.whole && idle) =
    elim c.if-whole.branch [ then-whole w ↦ and_then _ _ _ w.if-whole.true w.whole-is | else-whole w ↦ and_else _ _ _ w.if-whole.false w.whole-is ] in
    let seats_ok = subst (λ (seats : List ℕ). AreSeats seats) (sym i.seats) c.drainers.invariant in
    let grown = c.turn.ensures.grown in
    let wide = grown_wider (d.seat ∷ []) (seats_of items) (one_of_seats items place d at) h new grown in
    record {
      few = omega (arith, i.few, low);
      some = λ more any. fewer_left place rest left c.args.budget low i.few i.some
          (λ first. r.some (first_steady items (roles_of c.drainers.inside.list.items) place d i.roles stands.roles first at)) any;
      round = λ past last after all more. subst
          (λ (w : Bool). IsRound lets past last c.drainers.inside.list.items (g.W.Answers.past c.args.desk.now) c.args.budget
          (take (place + 1) (slice_set items place ran) ++ after) (w && all)) (sym whole)
          (turn_more lets c.drainers.inside.list.items
          (g.W.Answers.past c.args.desk.now) c.args.budget items place d ran h new left rest c.loop-place.whole idle i.round at r.seat runs past last after all more);
      stands = each_set StandsWhole (length items) (length (slice_set items place ran)) items place d ran h new seats_ok at grown
          (λ p lt other. omega (arith, lt, length_set items place ran)) i.stands r.stands;
      idle = λ still.
          let halves = and_parts c.loop-place.whole idle (sym whole ∙ still) in
          each_set IsIdleAt place (place + 1) items place d ran h new seats_ok at grown (λ p lt other. omega arith) (i.idle halves.0) (r.idle halves.1);
      seats = seats_set items place d ran at r.seat ∙ i.seats;
      roles = roles_set items place d ran at r.role ∙ i.roles;
      serves = λ seat there. r.serves seat (i.serves seat there);
      free = r.orders;
      lets = c.turn.ensures.lets ∙ i.lets;
      setup = c.turn.ensures.setup ∙ i.setup;
      lent = c.turn.ensures.lent ∙ i.lent;
      grown = grown_then (seats_of c.drainers.inside.list.items) (g.W.Answers.past c.args.desk.now) h new i.grown (subst (λ (seats : List ℕ). HasGrown seats h new) i.seats wide);
      users = c.turn.ensures.users ∙ i.users;
      actors = λ before. c.turn.ensures.actors (i.actors before);
    }

pub returns-clause-round : goal.returns-clause-round
returns-clause-round g c =
    let view : c.drainers.inside.list.items ≡ c.args.drainers.now = cc in
    let items = c.loop-place.drainers-inside.list.items in
    let same = same_length items c.drainers.inside.list.items c.loop-place.invariant.seats in
    let all : c.loop-place.place ≡ length items = omega (arith, same, c.loop-place-test.false, c.len-place-end.ensures, c.loop-place.auto.place-end) in
    subst (λ (ds : List Drainer). IsRound (g.W.Answers.lets c.args.desk.now) (g.W.Answers.past c.loop-place.desk) c.loop-place.left ds
    (g.W.Answers.past c.args.desk.now) c.args.budget items c.loop-place.whole) view
    (turns_end (g.W.Answers.lets c.args.desk.now) c.drainers.inside.list.items
    (g.W.Answers.past c.args.desk.now) c.args.budget items c.loop-place.place (g.W.Answers.past c.loop-place.desk) c.loop-place.left c.loop-place.whole all c.loop-place.invariant.round)

pub returns-clause-stands : goal.returns-clause-stands
returns-clause-stands g c =
    let view : c.drainers.inside.list.items ≡ c.args.drainers.now = cc in
    let stands = subst (λ (ds : List Drainer). AreStanding ds (g.W.Answers.past c.args.desk.now)) (sym view) c.requires.stands in
    record {
      each = λ place d at. c.loop-place.invariant.stands place d (slice_get_within c.loop-place.drainers-inside.list.items place d at) at;
      roles = subst AreRoles (sym c.loop-place.invariant.roles) stands.roles;
    }

pub returns-clause-idle : goal.returns-clause-idle
returns-clause-idle g c = λ still place d at.
    let items = c.loop-place.drainers-inside.list.items in
    let same = same_length items c.drainers.inside.list.items c.loop-place.invariant.seats in
    let within = slice_get_within items place d at in
    c.loop-place.invariant.idle still place d (omega (arith, same, within, c.loop-place-test.false, c.len-place-end.ensures)) at

-- the seats differ after the turn that failed too
pub invariant_of-drainers-in_err-ran : goal.invariant_of-drainers-in_err-ran
invariant_of-drainers-in_err-ran g c =
    let items = c.loop-place.drainers-inside.list.items in
    let d = c.index_mut.result.now in
    let at : slice_get items c.loop-place.place ≡ Some d =
    at_place c.drainers.inside.list.items items c.loop-place.place d c.loop-place.invariant.seats (omega (arith, c.loop-place-test.true, c.len-place-end.ensures)) c.index_mut.ensures.value in
    subst AreSeats (sym (seats_set items c.loop-place.place d c.turn.new.drainer at c.turn.ensures.seat ∙ c.loop-place.invariant.seats)) c.drainers.invariant

pub returns-in_err-ran-clause-differ : goal.returns-in_err-ran-clause-differ
returns-in_err-ran-clause-differ g c = invariant_of-drainers-in_err-ran g c
