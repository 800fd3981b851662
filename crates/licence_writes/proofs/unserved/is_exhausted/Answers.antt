use Rattle.std.proofs.Common.{reverse}
use Rattle.binder_model.specs.OpsLicence.{IsThisClaim, TellsExhausted}
use Rattle.binder_model.specs.Provisioning.{data_name}
use Rattle.binder_model.specs.Told.{After, ToldClaim}
use Rattle.licence_record.proofs.Judging.{exact, paged}
use Rattle.licence_writes.proofs.Growing.{exhausted_grows}
use Rattle.licence_writes.proofs.unserved.is_exhausted.Goals as goal

pub returns : goal.returns
returns g c =
    let mine = g.R.Record.told c.args.seat.now in
    let page = reverse c.wanted.result.now in
    paged _ (λ m. After (ToldClaim (IsThisClaim c.args.claim.now)) (TellsExhausted (data_name c.args.uid)) m) page mine _
    (exhausted_grows page mine c.wanted.ensures.part c.args.claim.now c.args.uid) c.wanted.ensures.all (exact _ _ _ c.was_exhausted.ensures)
