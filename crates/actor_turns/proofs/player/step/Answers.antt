use Rattle.std.proofs.Common.{◌≡◌, ◌+◌, ◌<◌, ◌∙◌, ap, refl, subst, sym, arith, length, ◌^◌, List, Option}
use Rattle.call_types.specs.declared.ask.Ask.{Ask}
use Rattle.call_types.specs.declared.request.SeatKind.{SeatKind}
use Rattle.binder_model.specs.Licence.{Licensed}
use Rattle.binder_model.specs.Told.{own}
use Rattle.actor_rounds.specs.Answers.Asked.{IsAskOf}
use Rattle.worker_core.specs.declared.turn.Next.{Next}
use Rattle.worker_core.specs.declared.role.Role.{Role}
use Rattle.worker_core.specs.Roles.{IsBuiltKind}
use Rattle.worker_core.specs.Stands.{IsLicensedAnswer}
use Rattle.worker_core.specs.States.{call_in}
use Rattle.worker_core.specs.Turns.{IsTurn}
use Rattle.worker_core.proofs.Answered.{turn_role}
use Rattle.actor_turns.specs.declared.loss.Loss.{Loss}
use Rattle.actor_turns.specs.declared.part.Part.{Part}
use Rattle.actor_turns.specs.Fates.{fate_of}
use Rattle.actor_turns.specs.Calls.{seat_at}
use Rattle.actor_turns.specs.declared.player.Player.{Player}
use Rattle.actor_turns.specs.Steps.Living.{Lives}
use Rattle.actor_turns.specs.Steps.Playing.{HasMade, IsLife, and_held}
use Rattle.actor_turns.proofs.Lived.{idle_lives, made_lives}
use Rattle.actor_turns.proofs.Stepping.{latest_life, life_there, one_made, still}
use Rattle.actor_turns.proofs.player.step.Goals as goal

pub returns-in-None-clause-stepped : goal.returns-in-None-clause-stepped
returns-in-None-clause-stepped g c = λ idle plays.
    let mid = c.begin_life.new.player in
    let past = g.W.Answers.past c.args.desk.now in
    let still_is = subst (λ (a : Option Ask). IsAskOf c.kind-kind-2.result c.in_ok-next.next a) c.in-None.is c.ask_of.ensures in
    still c.args.player.now mid (record mid { actor = c.next.new.self }) past idle
    (record { part = c.begin_life.ensures.part; made = c.begin_life.ensures.made; held = c.begin_life.ensures.held; seat = c.begin_life.ensures.seat }) (record { part = refl; seat = refl }) refl refl
    (subst IsBuiltKind c.kind-kind.ensures.kind c.kind-kind.ensures.built)
    (subst (λ (a : Next). IsTurn mid.actor c.next.new.self a) still_is c.in_ok-next.ensures.turn) c.in_ok-next.ensures.stands
    (c.begin_life.ensures.plays past idle c.requires.named plays)

pub returns-in-None-clause-lived : goal.returns-in-None-clause-lived
returns-in-None-clause-lived g c = λ role idle lives.
    let mid = c.begin_life.new.player in
    let past = g.W.Answers.past c.args.desk.now in
    let some = c.requires.plays in
    let still_is = subst (λ (a : Option Ask). IsAskOf c.kind-kind-2.result c.in_ok-next.next a) c.in-None.is c.ask_of.ensures in
    idle_lives role mid c.next.new.self past idle c.next.ensures.order (subst (λ (a : Next). IsTurn mid.actor c.next.new.self a) still_is c.in_ok-next.ensures.turn) c.in_ok-next.ensures.stands
    (c.begin_life.ensures.lives role past some.idle idle c.requires.named some.plays lives)

pub make-requires-clause-kind : goal.make-requires-clause-kind
make-requires-clause-kind g c =
    let asks = subst (λ (a : Option Ask). IsAskOf c.kind-kind-2.result c.in_ok-next.next a) c.in-Some.is c.ask_of.ensures in
    asks.1 ∙ c.kind-kind-2.ensures.kind

pub make-requires-clause-asked : goal.make-requires-clause-asked
make-requires-clause-asked g c =
    let asks = subst (λ (a : Option Ask). IsAskOf c.kind-kind-2.result c.in_ok-next.next a) c.in-Some.is c.ask_of.ensures in
    sym c.in_ok-next.ensures.asked ∙ ap call_in asks.0

pub make-requires-clause-serves : goal.make-requires-clause-serves
make-requires-clause-serves g c =
    let mid = c.begin_life.new.player in
    c.requires.serves mid.seat (life_there c.args.player.now mid.seat c.requires.named c.begin_life.ensures.seat)

pub make-requires-clause-latest : goal.make-requires-clause-latest
make-requires-clause-latest g c =
    let mid = c.begin_life.new.player in
    let past = g.W.Answers.past c.args.desk.now in
    let some = c.requires.plays in
    λ other there. latest_life mid past some.idle (c.begin_life.ensures.plays past some.idle c.requires.named some.plays) other
    (subst (λ (p : Part). IsLife p other) (sym c.begin_life.ensures.part) (c.requires.orders other there))

pub make-requires-clause-licensed : goal.make-requires-clause-licensed
make-requires-clause-licensed g c =
    let mid = c.begin_life.new.player in
    let past = g.W.Answers.past c.args.desk.now in
    let some = c.requires.plays in
    let mine = own mid.seat past in
    let plays = c.begin_life.ensures.plays past some.idle c.requires.named some.plays in
    let asks = subst (λ (a : Option Ask). IsAskOf c.kind-kind-2.result c.in_ok-next.next a) c.in-Some.is c.ask_of.ensures in
    let kind : mid.actor.role.kind ≡ c.in-Some.ask.kind =
    sym (asks.1 ∙ c.kind-kind-2.ensures.kind ∙ ap (λ (r : Role). r.kind) (turn_role mid.actor c.next.new.self c.in_ok-next.next c.in_ok-next.ensures.turn)) in
    subst (λ (k : SeatKind). Licensed k mine c.in-Some.ask.request) kind
    (subst (λ (a : Next). IsLicensedAnswer mid.actor.role.kind mine a) asks.0 (c.in_ok-next.ensures.licensed mine plays.since.stands))

pub count-requires : goal.count-requires
count-requires g c =
    let made = c.begin_life.ensures.made in
    let small = c.requires.small in
    let few = small.made in
    record { seats = subst (λ (p : Part). p.first + length p.restarts < 2 ^ 32) (sym c.begin_life.ensures.part) small.seats; made = omega (arith, made, few) }

pub returns-in_ok-count-in-Some-clause-stepped : goal.returns-in_ok-count-in-Some-clause-stepped
returns-in_ok-count-in-Some-clause-stepped g c = λ idle plays.
    let mid = c.begin_life.new.player in
    let lets = g.W.Answers.lets c.args.desk.now in
    let past = g.W.Answers.past c.args.desk.now in
    let after = g.W.Answers.past c.make.new.desk in
    let b = c.in_ok-held-in-Some.held in
    let asks = subst (λ (a : Option Ask). IsAskOf c.kind-kind-2.result c.in_ok-next.next a) c.in-Some.is c.ask_of.ensures in
    subst (λ (x : Player). HasMade lets idle past after c.args.player.now x) (sym c.in_ok-count-in-Some.ensures.counted)
    (one_made lets c.args.player.now mid (record mid { made = mid.made + 1; held = and_held b (mid.made + 1) mid.held; actor = c.make.new.actor })
    c.next.new.self c.in_ok-next.next past after idle c.fate_of-fate.result b c.in-Some.ask.kind
    c.requires.named (record {
      part = c.begin_life.ensures.part;
      made = c.begin_life.ensures.made;
      held = c.begin_life.ensures.held;
      seat =
          c.begin_life.ensures.seat;
    }) (record { part = refl; seat = refl }) refl refl
    (asks.1 ∙ c.kind-kind-2.ensures.kind ∙ ap (λ (r : Role). r.kind) (turn_role mid.actor c.next.new.self c.in_ok-next.next c.in_ok-next.ensures.turn))
    (c.fate_of-fate.ensures ∙ ap (λ (losses : List Loss). fate_of losses (mid.made + 1)) c.as_slice.ensures)
    c.in_ok-next.ensures.turn c.in_ok-next.ensures.stands c.in_ok-held-in-Some.ensures.called
    (c.begin_life.ensures.plays past idle c.requires.named plays))

pub returns-in_ok-count-in-Some-clause-lived : goal.returns-in_ok-count-in-Some-clause-lived
returns-in_ok-count-in-Some-clause-lived g c = λ role idle lives.
    let mid = c.begin_life.new.player in
    let past = g.W.Answers.past c.args.desk.now in
    let after = g.W.Answers.past c.make.new.desk in
    let b = c.in_ok-held-in-Some.held in
    let some = c.requires.plays in
    let called = c.in_ok-held-in-Some.ensures.called in
    let asks = subst (λ (a : Option Ask). IsAskOf c.kind-kind-2.result c.in_ok-next.next a) c.in-Some.is c.ask_of.ensures in
    let life : mid.seat ≡ seat_at mid.part (mid.made + 1) = c.begin_life.ensures.seat
    ∙ sym (ap (λ (p : Part). seat_at p (mid.made + 1)) c.begin_life.ensures.part ∙ ap (λ m. seat_at c.args.player.now.part (m + 1)) c.begin_life.ensures.made) in
    subst (λ (x : Player). Lives role x after idle) (sym c.in_ok-count-in-Some.ensures.counted)
    (made_lives role mid c.next.new.self c.make.new.actor c.in-Some.ask.request c.fate_of-fate.result b past after some.idle idle life
    (c.fate_of-fate.ensures ∙ ap (λ (losses : List Loss). fate_of losses (mid.made + 1)) c.as_slice.ensures) c.next.ensures.order
    (subst (λ (a : Next). IsTurn mid.actor c.next.new.self a) asks.0 c.in_ok-next.ensures.turn) c.in_ok-next.ensures.stands c.in_ok-held-in-Some.ensures.goes called.others
    (c.begin_life.ensures.plays past some.idle c.requires.named some.plays)
    (c.begin_life.ensures.lives role past some.idle idle c.requires.named some.plays lives))

pub returns-in_ok-count-in-Some-clause-actors : goal.returns-in_ok-count-in-Some-clause-actors
returns-in_ok-count-in-Some-clause-actors g c = λ before.
    let past = g.W.Answers.past c.args.desk.now in
    let some = c.requires.plays in
    let plays = c.begin_life.ensures.plays past some.idle c.requires.named some.plays in
    c.in_ok-held-in-Some.ensures.actors (c.in_ok-next.ensures.stands (own c.begin_life.new.player.seat past) plays.since.stands) before
