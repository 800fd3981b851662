use Rattle.std.proofs.Common.{rules}
use Rattle.binder_model.specs.Devices.{with_mounts}
use Rattle.binder_model.proofs.Mounts.{rows_on_put}
use Rattle.device_model.specs.Kept.{mount_at}
use Rattle.device_model.proofs.devices.Devices.mount_row.Goals as goal

pub returns : goal.returns
unfolding with_mounts
returns c =
    let rows = rows_on_put (mount_at c.args.node.now c.args.row) c.args.self.now.devices.mounts in
    rw rows (search rules)
