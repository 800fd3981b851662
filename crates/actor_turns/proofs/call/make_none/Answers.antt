use Rattle.actor_turns.proofs.Calling.{lost_called, lost_goes}
use Rattle.actor_turns.proofs.call.make_none.Goals as goal

pub returns-clause-called : goal.returns-clause-called
returns-clause-called g c =
    lost_called c.args.seat (g.W.Answers.past c.args.desk.now) c.args.actor.now c.absorb.new.self c.args.ask.now.request c.in_ok-absorb.ensures.state
    c.in_ok-absorb.ensures.lost_before (g.W.Answers.lets c.args.desk.now) c.args.ask.now.kind

pub returns-clause-goes : goal.returns-clause-goes
returns-clause-goes g c = lost_goes c.args.seat (g.W.Answers.past c.args.desk.now) c.args.actor.now c.absorb.new.self c.args.ask.now.request
    c.in_ok-absorb.ensures.state c.in_ok-absorb.ensures.lost_before
