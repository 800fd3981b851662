use Rattle.std.proofs.Common.{◌≡◌, length}
use Rattle.sync_queue.specs.Steps.Lanes.{IsSound, work_in}
use Rattle.sync_queue.specs.Work.{woken}
use Rattle.sync_queue.proofs.queue.Queue.wake.Given as goal

abbrev pub invariant-loop-self : goal.invariant-loop-self
invariant-loop-self l = record {
  sound : IsSound l.self-inside.lanes;
  ends : woken (work_in l.self-inside.lanes) ≡ woken l.fn.self;
}

abbrev pub decreases-loop-self : goal.decreases-loop-self
decreases-loop-self l = length l.self-inside.lanes.parked.items
