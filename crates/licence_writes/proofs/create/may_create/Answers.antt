use Rattle.licence_writes.proofs.OpsRows.Creating.{create_none, create_unknown}
use Rattle.licence_record.proofs.Judging.{no}
use Rattle.licence_writes.proofs.create.may_create.Goals as goal

pub returns-in-None : goal.returns-in-None
returns-in-None g c = no _ _ (λ w row. create_none (g.R.Record.told c.args.seat.now) c.args.new.now c.in-None.is row)

pub returns-in-None-uid : goal.returns-in-None-uid
returns-in-None-uid g c = no _ _ (λ w row. create_unknown (g.R.Record.told c.args.seat.now) c.args.new.now c.in-Some.reference c.in-Some.is c.in-None-uid.is row)
