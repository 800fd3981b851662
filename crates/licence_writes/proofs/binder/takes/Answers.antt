use Rattle.std.proofs.Common.{reverse}
use Rattle.binder_model.specs.BinderLicence.{MayTake}
use Rattle.evidence_pages.proofs.Rows.{take_grows}
use Rattle.licence_writes.proofs.Paging.{volume_paged}
use Rattle.licence_writes.proofs.binder.takes.Goals as goal

pub returns : goal.returns
returns g c =
    let mine = g.R.Record.told c.args.seat.now in
    let small = reverse c.referred-mine.result.now in
    volume_paged _ c.args.given _ small mine c.about-page.ensures.part c.about-page.ensures.all c.referred-mine.ensures.all
    (λ m o. MayTake m o c.args.new.now) (take_grows small mine c.referred-mine.ensures.part c.args.new.now) _ c.args.new.now.meta.namespace c.args.new.now.meta.name c.told_volume_at.ensures
