use Rattle.std.proofs.Common.{rules}
use Rattle.licence_rows.proofs.Picks.{select_none, select_row}
use Rattle.licence_record.proofs.Judging.{lift, no}
use Rattle.licence_writes.proofs.scheduler.selects.Goals as goal

pub returns-in-None : goal.returns-in-None
returns-in-None g c = no _ _ (λ w row. select_none (g.R.Record.told c.args.seat.now) c.args.old.now c.args.new.now (search rules) row)

pub returns-in-Some : goal.returns-in-Some
returns-in-Some g c = lift _ _ _ _ (λ b is. select_row (g.R.Record.told c.args.seat.now) c.args.old.now c.args.new.now c.in-Some.name.now b (search rules) is) c.selects_node.ensures
