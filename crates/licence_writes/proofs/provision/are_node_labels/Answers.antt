use Rattle.std.proofs.Common.{rules}
use Rattle.licence_writes.proofs.OpsRows.Providing.{labels_row}
use Rattle.licence_record.proofs.Judging.{lift}
use Rattle.licence_writes.proofs.provision.are_node_labels.Goals as goal

pub returns-in-Some : goal.returns-in-Some
returns-in-Some g c = lift _ _ _ _ (λ b is. labels_row (g.R.Record.told c.args.seat.now) c.args.claim.now c.in-Some.name.now c.args.labels.now b (search rules) is) c.are_labels_of.ensures
