use Rattle.actor_rounds.proofs.NewFacts.{one_added}
use Rattle.actor_rounds.proofs.drainers.add_worker.Goals as goal

pub returns : goal.returns
returns c = one_added c.args.kind c.args.seat c.in_ok-none.none c.args.list.now.items _ c.in_ok-worker.worker c.in_ok-none.ensures c.in_ok-worker.ensures c.in_ok-push.ensures.items
