use Rattle.std.proofs.Common.{◌≡◌, ◌+◌, drop, length}
use Rattle.device_model.specs.Kept.{mounts_of}
use Rattle.device_model.proofs.mounts.count_rows.Given as goal

abbrev pub invariant-loop-node : goal.invariant-loop-node
invariant-loop-node l = l.count + length (mounts_of (drop l.node-index l.nodes)) ≡ length (mounts_of l.nodes)
