use Rattle.std.proofs.Common.{◌≡◌, drop}
use Rattle.binder_model.specs.World.{world}
use Rattle.attach_law.specs.Next.{first_idle}
use Rattle.attach_control.proofs.idle.first_idle.Given as goal

-- the first that is idle is still ahead
abbrev pub invariant-loop-attachment : goal.invariant-loop-attachment
invariant-loop-attachment l =
    first_idle (world l.world.setup l.world.past) (drop l.attachment-index l.list) ≡ first_idle (world l.world.setup l.world.past) l.list
