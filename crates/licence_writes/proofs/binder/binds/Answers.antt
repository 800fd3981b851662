use Rattle.std.proofs.Common.{reverse}
use Rattle.binder_model.specs.BinderLicence.{MayBind}
use Rattle.evidence_pages.proofs.Rows.{bind_grows}
use Rattle.licence_writes.proofs.Paging.{volume_key_paged}
use Rattle.licence_writes.proofs.binder.binds.Goals as goal

pub returns : goal.returns
returns g c =
    let mine = g.R.Record.told c.args.seat.now in
    let small = reverse c.carried-mine.result.now in
    volume_key_paged _ c.args.given _ small mine c.about-page.ensures.part c.about-page.ensures.all c.carried-mine.ensures.all (λ m o. MayBind m o)
    (bind_grows small mine c.carried-mine.ensures.part) _ c.args.key.now c.volume_status.ensures
