use Rattle.std.proofs.Common.{rules}
use Rattle.licence_writes.proofs.OpsRows.Providing.{clear_row}
use Rattle.licence_record.proofs.Judging.{lift}
use Rattle.licence_writes.proofs.unserved.clears.Goals as goal

pub returns-in-Some-get : goal.returns-in-Some-get
returns-in-Some-get g c = lift _ _ _ _ (λ b is. clear_row (g.R.Record.told c.args.seat.now) c.args.old.now c.args.new.now c.in-Some.uid
    c.in-Some-get.node.now b (search rules) c.in-Some.is (search rules) (search rules) is) c.is_unserved.ensures
