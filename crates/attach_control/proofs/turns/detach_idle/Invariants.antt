use Rattle.std.proofs.Common.{◌≡◌, ◌-◌, None, length, take}
use Rattle.binder_model.specs.World.{world}
use Rattle.attach_law.specs.Next.{first_idle}
use Rattle.attach_control.specs.Steps.Trying.{Continues}
use Rattle.attach_control.proofs.turns.detach_idle.Given as goal

-- none before this place is idle
abbrev pub invariant-loop-at : goal.invariant-loop-at
invariant-loop-at l = record {
  made : Continues (world l.world.setup l.world.past) l.initial.asks.items l.initial.list.items l.asks.items l.list.items;
  before : first_idle (world l.world.setup l.world.past) (take l.at l.list.items) ≡ None;
}

abbrev pub decreases-loop-at : goal.decreases-loop-at
decreases-loop-at l = length l.list.items - l.at
