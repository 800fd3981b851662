use Rattle.std.proofs.Common.{subst}
use Rattle.sync_queue.specs.Work.{StandsOnce}
use Rattle.sync_queue.specs.Steps.Lanes.{keys_in, stage_in}
use Rattle.sync_queue.proofs.Moves.{stands_once}
use Rattle.sync_queue.proofs.queue.Queue.len.Goals as goal

pub returns-clause-once : goal.returns-clause-once
returns-clause-once c =
    let l = c.self.inside.lanes in
    subst StandsOnce c.self.view_is (stands_once (stage_in l) (keys_in l l.waiting.items) (keys_in l l.taken.items) (keys_in l l.parked.items) c.self.invariant.lanes)
