use Rattle.std.proofs.Common.{false}
use Rattle.actor_turns.specs.declared.loss.Fate.TheVariants.{LostAfter}
use Rattle.actor_turns.proofs.Calling.{came_as, held_called, held_goes, untold_called, untold_goes}
use Rattle.actor_turns.proofs.call.make_untold.Goals as goal

pub returns-in-Some-clause-called : goal.returns-in-Some-clause-called
returns-in-Some-clause-called g c =
    let ask = c.args.ask.now in
    let came = came_as (g.W.Answers.lets c.args.desk.now) c.args.seat ask.kind ask.request false _ _ (g.W.Answers.past c.args.desk.now)
    (g.W.Answers.past c.call.new.self) c.in-Some.is c.in_ok-reply.ensures.answered in
    untold_called (g.W.Answers.lets c.args.desk.now) c.args.seat (g.W.Answers.past c.args.desk.now)
    (g.W.Answers.past c.call.new.self) c.args.actor.now c.absorb.new.self ask.kind ask.request _ c.requires.kind c.in_ok-reply.ensures.own came.0
    came.1 c.in_ok-absorb.ensures.state c.in_ok-absorb.ensures.lost_after

pub returns-in-Some-clause-goes : goal.returns-in-Some-clause-goes
returns-in-Some-clause-goes g c =
    let ask = c.args.ask.now in
    let came = came_as (g.W.Answers.lets c.args.desk.now) c.args.seat ask.kind ask.request false _ _ (g.W.Answers.past c.args.desk.now)
    (g.W.Answers.past c.call.new.self) c.in-Some.is c.in_ok-reply.ensures.answered in
    untold_goes (g.W.Answers.lets c.args.desk.now) c.args.seat (g.W.Answers.past c.args.desk.now)
    (g.W.Answers.past c.call.new.self) c.args.actor.now c.absorb.new.self ask.kind ask.request _ c.requires.kind c.in_ok-reply.ensures.own came.0
    came.1 c.in_ok-absorb.ensures.state c.in_ok-absorb.ensures.lost_after

pub returns-clause-called : goal.returns-clause-called
returns-clause-called g c =
    let ask = c.args.ask.now in
    let came = came_as (g.W.Answers.lets c.args.desk.now) c.args.seat ask.kind ask.request false _ _ (g.W.Answers.past c.args.desk.now)
    (g.W.Answers.past c.call.new.self) c.in-None.is c.in_ok-reply.ensures.answered in
    held_called c.args.seat (g.W.Answers.past c.args.desk.now) c.args.actor.now c.absorb.new.self ask.request c.in_ok-absorb.ensures.state
    c.in_ok-absorb.ensures.lost_before (g.W.Answers.lets c.args.desk.now) ask.kind LostAfter (g.W.Answers.past c.call.new.self) c.requires.licensed came.0 came.1

pub returns-clause-goes : goal.returns-clause-goes
returns-clause-goes g c =
    let ask = c.args.ask.now in
    let came = came_as (g.W.Answers.lets c.args.desk.now) c.args.seat ask.kind ask.request false _ _ (g.W.Answers.past c.args.desk.now)
    (g.W.Answers.past c.call.new.self) c.in-None.is c.in_ok-reply.ensures.answered in
    held_goes c.args.seat (g.W.Answers.past c.args.desk.now) c.args.actor.now c.absorb.new.self ask.request c.in_ok-absorb.ensures.state
    c.in_ok-absorb.ensures.lost_before LostAfter (g.W.Answers.past c.call.new.self) came.1
