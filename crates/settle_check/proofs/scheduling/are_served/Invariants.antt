use Rattle.std.proofs.Common.{◌≡◌, drop}
use Rattle.std.specs.List.{list_all}
use Rattle.settle_check.specs.Steps.Searching.{key_is_served}
use Rattle.settle_check.specs.WorldOf.{world_of}
use Rattle.settle_check.proofs.scheduling.are_served.Given as goal

-- what is to be found is still ahead
abbrev pub invariant-loop-key : goal.invariant-loop-key
invariant-loop-key l = list_all (key_is_served l.world.setup (world_of l.world) l.node) (drop l.key-index l.keys) ≡ list_all (key_is_served l.world.setup (world_of l.world) l.node) l.keys
