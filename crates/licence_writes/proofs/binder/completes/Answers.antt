use Rattle.std.proofs.Common.{reverse}
use Rattle.binder_model.specs.BinderLicence.{MayComplete}
use Rattle.evidence_pages.proofs.Rows.{complete_grows}
use Rattle.licence_writes.proofs.Paging.{claim_paged}
use Rattle.licence_writes.proofs.binder.completes.Goals as goal

pub returns : goal.returns
returns g c =
    let mine = g.R.Record.told c.args.seat.now in
    let small = reverse c.called-mine.result.now in
    claim_paged _ c.args.given _ small mine c.about-page.ensures.part c.about-page.ensures.all c.called-mine.ensures.all
    (λ m o. MayComplete m o c.args.new.now) (complete_grows small mine c.called-mine.ensures.part c.args.new.now) _ c.args.new.now.meta.namespace c.args.new.now.meta.name c.told_claim_at.ensures
