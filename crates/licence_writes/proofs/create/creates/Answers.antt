use Rattle.std.proofs.Common.{reverse}
use Rattle.licence_writes.specs.OpsRows.Providing.{Creates}
use Rattle.licence_record.proofs.Judging.{exact, paged}
use Rattle.licence_writes.proofs.Growing.{creates_grows}
use Rattle.licence_writes.proofs.create.creates.Goals as goal

pub returns : goal.returns
returns g c =
    let mine = g.R.Record.told c.args.seat.now in
    let page = reverse c.provisioned-page.result.now in
    paged _ (λ m. Creates m c.args.claim.now c.args.uid c.args.class.now c.args.new.now) page mine _
    (creates_grows page mine c.provisioned-page.ensures.part c.args.claim.now c.args.uid c.args.class.now c.args.new.now) c.provisioned-page.ensures.all (exact _ _ _ c.creates.ensures)
