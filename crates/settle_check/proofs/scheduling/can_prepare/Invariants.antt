use Rattle.std.proofs.Common.{ℕ, ◌<◌}
use Rattle.settle_check.specs.Steps.Searching.{CanPrepareAt}
use Rattle.settle_check.specs.WorldOf.{world_of}
use Rattle.settle_check.proofs.scheduling.can_prepare.Given as goal

-- nothing can be prepared on a node before the place
abbrev pub invariant-loop-place : goal.invariant-loop-place
invariant-loop-place l = (before : ℕ) → before < l.place → CanPrepareAt l.world.setup (world_of l.world) l.pod before → ⊥
