use Rattle.std.proofs.Common.{reverse}
use Rattle.kube_objects.specs.declared.objects.Claim.{Claim as ClaimData}
use Rattle.binder_model.specs.At.{IsWrittenAt}
use Rattle.binder_model.specs.BinderLicence.{MayAssignClass}
use Rattle.binder_model.specs.Told.{IsClaimWith, ToldClaim}
use Rattle.evidence_pages.proofs.Growing.{told_grows}
use Rattle.licence_record.proofs.Judging.{paged}
use Rattle.licence_writes.proofs.assign.may_assign_class.Goals as goal

pub returns : goal.returns
returns g c =
    let mine = g.R.Record.told c.args.seat.now in
    let page = reverse c.about-page.result.now in
    let new = c.args.new.now in
    let P : ClaimData → Type 0 = λ o. IsWrittenAt c.args.given new.meta.namespace new.meta.name o.meta × MayAssignClass mine o new in
    paged _ (λ m. ToldClaim P m) page mine _ (told_grows (IsClaimWith P) page mine c.about-page.ensures.part) c.about-page.ensures.all c.told_claim_at.ensures
