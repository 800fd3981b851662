use Rattle.licence_writes.proofs.OpsRows.Providing.{asked_row}
use Rattle.licence_writes.proofs.roles.ops.AskedClaimTest.test.Goals as goal

pub returns-in-Some : goal.returns-in-Some
returns-in-Some c = asked_row c.args.self.now.name.now c.args.self.now.bytes c.args.claim.now c.in-Some.uid _ c.in-Some.is c.is_for.ensures
