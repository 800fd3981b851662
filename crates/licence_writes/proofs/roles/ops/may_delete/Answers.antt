use Rattle.std.proofs.Common.{reverse}
use Rattle.licence_writes.proofs.OpsRows.Erasing.{delete_row}
use Rattle.licence_writes.proofs.roles.ops.may_delete.Goals as goal

pub returns : goal.returns
returns c = delete_row (reverse c.args.mine.now) c.args.uid _ c.told_shared.ensures
