use Rattle.std.proofs.Common.{reverse}
use Rattle.binder_model.specs.GuardLicence.{MayUnguardClaim}
use Rattle.evidence_pages.proofs.Rows.{unguard_grows}
use Rattle.licence_writes.proofs.Paging.{claim_paged}
use Rattle.licence_writes.proofs.guards.unguards_claim.Goals as goal

pub returns : goal.returns
returns g c =
    let mine = g.R.Record.told c.args.seat.now in
    claim_paged _ c.args.given (reverse c.about-page.result.now)
    (reverse c.about-mine.result.now) mine c.about-page.ensures.part c.about-page.ensures.all c.about-mine.ensures.all
    (λ m o. MayUnguardClaim m o c.args.new.now)
    (unguard_grows (reverse c.about-mine.result.now) mine c.about-mine.ensures.part c.args.new.now) _ c.args.new.now.meta.namespace c.args.new.now.meta.name c.told_claim_at.ensures
