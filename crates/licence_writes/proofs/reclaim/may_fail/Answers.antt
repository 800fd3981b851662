use Rattle.std.proofs.Common.{reverse}
use Rattle.binder_model.specs.OpsLicence.{MayFail}
use Rattle.licence_writes.proofs.Growing.{fail_grows}
use Rattle.licence_writes.proofs.Paging.{volume_key_paged}
use Rattle.licence_writes.proofs.reclaim.may_fail.Goals as goal

pub returns : goal.returns
returns g c =
    let mine = g.R.Record.told c.args.seat.now in
    let page = reverse c.called-page.result.now in
    let small = reverse c.called-mine.result.now in
    volume_key_paged _ c.args.given page small mine c.called-page.ensures.part c.called-page.ensures.all c.called-mine.ensures.all
    (λ m o. MayFail m o) (fail_grows small mine c.called-mine.ensures.part) _ c.args.key.now c.volume_status.ensures
