use Rattle.std.proofs.Common.{reverse}
use Rattle.binder_model.specs.Reading.{IsDeletingIn}
use Rattle.binder_model.specs.Told.{IsClaimWith, ToldClaim}
use Rattle.evidence_pages.proofs.Growing.{told_grows}
use Rattle.licence_record.proofs.Judging.{exact, paged}
use Rattle.licence_rules.proofs.reading.told_deleting.Goals as goal

pub returns : goal.returns
returns g c =
    let mine = g.R.Record.told c.args.seat.now in
    let page = reverse c.about-page.result.now in
    paged _ (λ m. ToldClaim (IsDeletingIn c.args.namespace.now) m) page mine _
    (told_grows (IsClaimWith (IsDeletingIn c.args.namespace.now)) page mine c.about-page.ensures.part) c.about-page.ensures.all (exact _ _ _ c.told_claim.ensures)
