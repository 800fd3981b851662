use Rattle.std.proofs.Common.{reverse}
use Rattle.licence_writes.proofs.OpsRows.Erasing.{erased_alike}
use Rattle.licence_writes.proofs.roles.ops.ErasedVolumeSharedTest.shares.Goals as goal

pub returns : goal.returns
returns c object other = erased_alike (reverse c.args.self.now.mine.now) c.args.self.now.uid object other
