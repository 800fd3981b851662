use Rattle.std.proofs.Common.{reverse}
use Rattle.binder_model.specs.BinderLicence.{MayUnbind}
use Rattle.evidence_pages.proofs.Rows.{unbind_grows}
use Rattle.licence_writes.proofs.Paging.{volume_paged}
use Rattle.licence_writes.proofs.binder.unbinds.Goals as goal

pub returns : goal.returns
returns g c =
    let mine = g.R.Record.told c.args.seat.now in
    let small = reverse c.carried-mine.result.now in
    volume_paged _ c.args.given _ small mine c.about-page.ensures.part c.about-page.ensures.all c.carried-mine.ensures.all
    (λ m o. MayUnbind m o c.args.new.now) (unbind_grows small mine c.carried-mine.ensures.part c.args.new.now) _ c.args.new.now.meta.namespace c.args.new.now.meta.name c.told_volume_at.ensures
