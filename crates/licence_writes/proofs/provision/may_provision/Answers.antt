use Rattle.licence_writes.proofs.OpsRows.Providing.{provision_row}
use Rattle.licence_record.proofs.Judging.{lift, weaker}
use Rattle.licence_writes.proofs.provision.may_provision.Goals as goal

pub returns : goal.returns
returns g c = lift _ _ _ _ (λ b is. provision_row (g.R.Record.told c.args.seat.now) c.args.name.now c.args.provisioner.now c.args.bytes
    c.args.labels.now b is) (weaker _ _ _ _ (λ w. (w, w)) c.some_newest.ensures)
