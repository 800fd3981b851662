use Rattle.std.proofs.Common.{arith, ap, length}
use Rattle.device_model.specs.Kept.{mounts_of}
use Rattle.device_model.proofs.NodeLists.{length-without_mount}
use Rattle.device_model.proofs.mounts.Mounts.take_out.Goals as goal

pub invariant_of-self : goal.invariant_of-self
invariant_of-self c =
    let rows = ap length c.take_out.ensures.rows in
    let fewer = length-without_mount c.args.node.now c.args.pod (mounts_of c.self.inside.nodes.items) in
    let count = c.self.invariant.count in
    record { rising = c.take_out.ensures.rising; count = omega (arith, rows, fewer, count) }
