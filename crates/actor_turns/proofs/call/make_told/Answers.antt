use Rattle.std.proofs.Common.{subst, true}
use Rattle.worker_core.specs.Roles.{IsBuiltKind}
use Rattle.actor_turns.specs.declared.loss.Fate.TheVariants.{Told}
use Rattle.actor_turns.proofs.Calling.{came_as, held_called, held_goes, told_called, told_goes}
use Rattle.actor_turns.proofs.call.make_told.Goals as goal

pub returns-in_ok-absorb-in-Some-clause-called : goal.returns-in_ok-absorb-in-Some-clause-called
returns-in_ok-absorb-in-Some-clause-called g c =
    let ask = c.args.ask.now in
    let came = came_as (g.W.Answers.lets c.args.desk.now) c.args.seat ask.kind ask.request true _ _ (g.W.Answers.past c.args.desk.now)
    (g.W.Answers.past c.call.new.self) c.in-Some.is c.in_ok-reply.ensures.answered in
    told_called (g.W.Answers.lets c.args.desk.now) c.args.seat (g.W.Answers.past c.args.desk.now)
    (g.W.Answers.past c.call.new.self) c.args.actor.now c.absorb.new.self ask.kind ask.request c.in-Some.reply c.requires.kind c.in_ok-reply.ensures.own came.0
    (subst IsBuiltKind c.kind-built.ensures.kind c.kind-built.ensures.built) c.requires.asked came.1 c.in_ok-absorb-in-Some.ensures.state c.in_ok-absorb-in-Some.ensures.told

pub returns-in_ok-absorb-in-Some-clause-goes : goal.returns-in_ok-absorb-in-Some-clause-goes
returns-in_ok-absorb-in-Some-clause-goes g c =
    let ask = c.args.ask.now in
    let came = came_as (g.W.Answers.lets c.args.desk.now) c.args.seat ask.kind ask.request true _ _ (g.W.Answers.past c.args.desk.now)
    (g.W.Answers.past c.call.new.self) c.in-Some.is c.in_ok-reply.ensures.answered in
    told_goes (g.W.Answers.lets c.args.desk.now) c.args.seat (g.W.Answers.past c.args.desk.now)
    (g.W.Answers.past c.call.new.self) c.args.actor.now c.absorb.new.self ask.kind ask.request c.in-Some.reply c.requires.kind c.in_ok-reply.ensures.own came.0
    came.1 c.in_ok-absorb-in-Some.ensures.state c.in_ok-absorb-in-Some.ensures.told

pub returns-in_ok-absorb-in-None-clause-called : goal.returns-in_ok-absorb-in-None-clause-called
returns-in_ok-absorb-in-None-clause-called g c =
    let ask = c.args.ask.now in
    let came = came_as (g.W.Answers.lets c.args.desk.now) c.args.seat ask.kind ask.request true _ _ (g.W.Answers.past c.args.desk.now)
    (g.W.Answers.past c.call.new.self) c.in-None.is c.in_ok-reply.ensures.answered in
    held_called c.args.seat (g.W.Answers.past c.args.desk.now) c.args.actor.now c.absorb-in-None.new.self ask.request
    c.in_ok-absorb-in-None.ensures.state c.in_ok-absorb-in-None.ensures.lost_before (g.W.Answers.lets c.args.desk.now) ask.kind Told
    (g.W.Answers.past c.call.new.self) c.requires.licensed came.0 came.1

pub returns-in_ok-absorb-in-None-clause-goes : goal.returns-in_ok-absorb-in-None-clause-goes
returns-in_ok-absorb-in-None-clause-goes g c =
    let ask = c.args.ask.now in
    let came = came_as (g.W.Answers.lets c.args.desk.now) c.args.seat ask.kind ask.request true _ _ (g.W.Answers.past c.args.desk.now)
    (g.W.Answers.past c.call.new.self) c.in-None.is c.in_ok-reply.ensures.answered in
    held_goes c.args.seat (g.W.Answers.past c.args.desk.now) c.args.actor.now c.absorb-in-None.new.self ask.request
    c.in_ok-absorb-in-None.ensures.state c.in_ok-absorb-in-None.ensures.lost_before Told (g.W.Answers.past c.call.new.self) came.1
