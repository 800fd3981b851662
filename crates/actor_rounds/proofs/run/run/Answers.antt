use Rattle.std.proofs.Common.{◌≡◌, ◌∙◌, ap, sym, subst, refl, arith}
use Rattle.call_types.specs.declared.request.SeatKind.{SeatKind}
use Rattle.binder_model.specs.Licence.{Licensed}
use Rattle.binder_model.specs.Told.{own}
use Rattle.actor_rounds.specs.Answers.Asked.{IsAskOf}
use Rattle.worker_core.specs.declared.role.Role.{Role}
use Rattle.worker_core.specs.declared.turn.Next.{Next}
use Rattle.worker_core.specs.Roles.{IsBuiltKind}
use Rattle.worker_core.specs.Stands.{IsLicensedAnswer}
use Rattle.worker_core.specs.States.{call_in}
use Rattle.worker_core.specs.Turns.{IsTurn}
use Rattle.actor_rounds.specs.Answers.Answered.{Lets}
use Rattle.actor_rounds.specs.Calling.{CameTo}
use Rattle.actor_rounds.specs.Rounds.{IsIdle, IsSpent}
use Rattle.actor_rounds.proofs.RunFacts.{call_actors, call_grown, call_runs, call_stands, call_users, called_whole, idle_after, still_role, turn_kind, turned_whole}
use Rattle.worker_core.proofs.Answered.{turn_role}
use Rattle.actor_rounds.proofs.run.run.Goals as goal

pub returns-in-None-clause-runs : goal.returns-in-None-clause-runs
returns-in-None-clause-runs g c =
    let i = c.loop-left.invariant in
    let idle = subst (λ a. IsAskOf c.args.kind c.in_ok-next.next a) c.in-None.is c.ask_of.ensures in
    i.runs _ _ _ _ (IsIdle c.loop-left-test.true (record { rows = c.in_ok-next.ensures.order; stands = i.stands })
    (subst (λ (a : Next). IsTurn c.loop-left.actor c.next.new.self a) idle c.in_ok-next.ensures.turn) refl refl refl)

pub returns-in-None-clause-stands : goal.returns-in-None-clause-stands
returns-in-None-clause-stands g c =
    let i = c.loop-left.invariant in
    let mine = own c.args.seat (g.W.Answers.past c.loop-left.desk) in
    turned_whole c.loop-left.actor c.next.new.self _ mine c.in_ok-next.ensures.turn (c.in_ok-next.ensures.stands mine i.stands.told) i.stands

pub returns-in-None-clause-role : goal.returns-in-None-clause-role
returns-in-None-clause-role g c = turn_role c.loop-left.actor c.next.new.self _ c.in_ok-next.ensures.turn ∙ c.loop-left.invariant.role

pub returns-in-None-clause-idle : goal.returns-in-None-clause-idle
returns-in-None-clause-idle g c = λ still.
    let i = c.loop-left.invariant in
    let idle = subst (λ a. IsAskOf c.args.kind c.in_ok-next.next a) c.in-None.is c.ask_of.ensures in
    let mine = own c.args.seat (g.W.Answers.past c.loop-left.desk) in
    idle_after c.loop-left.actor c.next.new.self _ mine c.in_ok-next.ensures.turn (c.in_ok-next.ensures.idle mine i.stands.told idle)

pub call-requires-clause-serves : goal.call-requires-clause-serves
call-requires-clause-serves g c = c.loop-left.invariant.serves c.args.seat c.requires.serves

pub call-requires-clause-licensed : goal.call-requires-clause-licensed
call-requires-clause-licensed g c =
    let i = c.loop-left.invariant in
    let asks = subst (λ a. IsAskOf c.args.kind c.in_ok-next.next a) c.in-Some.is c.ask_of.ensures in
    let mine = own c.args.seat (g.W.Answers.past c.loop-left.desk) in
    subst (λ (k : SeatKind). Licensed k mine c.in-Some.ask.request) (sym (asks.1 ∙ i.kind))
    (subst (λ (a : Next). IsLicensedAnswer c.loop-left.actor.role.kind mine a) asks.0 (c.in_ok-next.ensures.licensed mine i.stands.told))

pub returns-in_err-absorb-in-Some-clause-grown : goal.returns-in_err-absorb-in-Some-clause-grown
returns-in_err-absorb-in-Some-clause-grown g c =
    call_grown (g.W.Answers.lets c.loop-left.desk) c.args.seat c.in-Some.ask.kind c.in-Some.ask.request c.in_ok-outcome-in-Some.outcome
    (g.W.Answers.past c.args.desk.now) (g.W.Answers.past c.loop-left.desk) (g.W.Answers.past c.call.new.desk) c.in_ok-outcome-in-Some.ensures.came c.loop-left.invariant.grown

pub returns-in_err-absorb-in-Some-clause-users : goal.returns-in_err-absorb-in-Some-clause-users
returns-in_err-absorb-in-Some-clause-users g c =
    let asks = subst (λ a. IsAskOf c.args.kind c.in_ok-next.next a) c.in-Some.is c.ask_of.ensures in
    call_users (g.W.Answers.lets c.loop-left.desk) c.args.seat c.in-Some.ask.kind c.in-Some.ask.request c.in_ok-outcome-in-Some.outcome
    (g.W.Answers.past c.loop-left.desk) (g.W.Answers.past c.call.new.desk) (subst IsBuiltKind (sym asks.1) c.requires.built) c.in_ok-outcome-in-Some.ensures.came ∙ c.loop-left.invariant.users

-- the call that was made is one of the actor, also where its answer is not absorbed
pub returns-in_err-absorb-in-Some-clause-actors : goal.returns-in_err-absorb-in-Some-clause-actors
returns-in_err-absorb-in-Some-clause-actors g c = λ before.
    let i = c.loop-left.invariant in
    let s = c.loop-left.actor in
    let given = c.next.new.self in
    let h = g.W.Answers.past c.loop-left.desk in
    let asks = subst (λ a. IsAskOf c.args.kind c.in_ok-next.next a) c.in-Some.is c.ask_of.ensures in
    let same = asks.1 ∙ turn_kind c.args.kind s given _ i.kind c.in_ok-next.ensures.turn in
    call_actors (g.W.Answers.lets c.loop-left.desk) c.args.seat c.in-Some.ask.kind given c.in-Some.ask.request c.in_ok-outcome-in-Some.outcome h
    (g.W.Answers.past c.call.new.desk) (subst IsBuiltKind (sym asks.1) c.requires.built) same
    (c.in_ok-next.ensures.stands (own c.args.seat h) i.stands.told) (sym c.in_ok-next.ensures.asked ∙ ap call_in asks.0)
    c.in_ok-outcome-in-Some.ensures.came (i.actors before)

pub loop-left-preserved : goal.loop-left-preserved
loop-left-preserved g c =
    let i = c.loop-left.invariant in
    let s = c.loop-left.actor in
    let given = c.next.new.self in
    let after = c.absorb.new.self in
    let h = g.W.Answers.past c.loop-left.desk in
    let new = g.W.Answers.past c.call.new.desk in
    let lets = g.W.Answers.lets c.args.desk.now in
    let request = c.in-Some.ask.request in
    let outcome = c.in_ok-outcome-in-Some.outcome in
    let asks = subst (λ a. IsAskOf c.args.kind c.in_ok-next.next a) c.in-Some.is c.ask_of.ensures in
    let same = asks.1 ∙ turn_kind c.args.kind s given _ i.kind c.in_ok-next.ensures.turn in
    let built = subst IsBuiltKind (sym asks.1) c.requires.built in
    let turn = subst (λ (a : Next). IsTurn s given a) asks.0 c.in_ok-next.ensures.turn in
    let came = subst (λ (l : Lets). CameTo l c.args.seat c.in-Some.ask.kind request outcome h new) i.lets c.in_ok-outcome-in-Some.ensures.came in
    let role = still_role s given after _ request outcome c.in_ok-next.ensures.turn c.in_ok-absorb-in-Some.ensures.state in
    let mine = own c.args.seat h in
    let told = c.in_ok-next.ensures.stands mine i.stands.told in
    record {
      few = omega (arith, i.few, c.loop-left-test.true);
      kind = i.kind ∙ sym (ap (λ (r : Role). r.kind) role);
      role = role ∙ i.role;
      runs = λ last past left idle more. i.runs last past left idle
          (call_runs lets c.args.seat c.in-Some.ask.kind s given after request outcome h new c.loop-left.left c.loop-left-test.true
          (record { rows = c.in_ok-next.ensures.order; stands = i.stands }) turn same
          c.in_ok-absorb-in-Some.ensures.state came last past left idle more);
      stands = called_whole s given after _ request outcome mine (own c.args.seat new) c.in_ok-next.ensures.turn c.in_ok-absorb-in-Some.ensures.state
          (call_stands lets c.args.seat c.in-Some.ask.kind given after request outcome h new same came c.in_ok-outcome-in-Some.ensures.own
          c.in_ok-absorb-in-Some.ensures.told c.in_ok-absorb-in-Some.ensures.lost_before told)
          i.stands;
      serves = λ other there. c.in_ok-outcome-in-Some.ensures.serves other (i.serves other there);
      free = c.in_ok-outcome-in-Some.ensures.orders;
      lets = c.call.ensures.lets ∙ i.lets;
      setup = c.call.ensures.setup ∙ i.setup;
      lent = c.call.ensures.lent ∙ i.lent;
      grown = call_grown lets c.args.seat c.in-Some.ask.kind request outcome _ h new came i.grown;
      users = call_users lets c.args.seat c.in-Some.ask.kind request outcome h new built came ∙ i.users;
      actors = λ before. call_actors lets c.args.seat c.in-Some.ask.kind given request outcome h new built same told (sym c.in_ok-next.ensures.asked ∙ ap call_in asks.0) came (i.actors before);
    }

pub returns-clause-runs : goal.returns-clause-runs
returns-clause-runs g c = let none : c.loop-left.left ≡ 0 = omega (arith, c.loop-left-test.false) in c.loop-left.invariant.runs _ _ _ _ (IsSpent none refl refl refl refl)
