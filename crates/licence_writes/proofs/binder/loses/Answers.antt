use Rattle.std.proofs.Common.{reverse}
use Rattle.binder_model.specs.BinderLicence.{MayLose}
use Rattle.evidence_pages.proofs.Rows.{lose_grows}
use Rattle.licence_writes.proofs.Paging.{claim_key_paged}
use Rattle.licence_writes.proofs.binder.loses.Goals as goal

pub returns : goal.returns
returns g c =
    let mine = g.R.Record.told c.args.seat.now in
    let small = reverse c.named-mine.result.now in
    claim_key_paged _ c.args.given _ small mine c.about-page.ensures.part c.about-page.ensures.all c.named-mine.ensures.all
    (λ m o. MayLose m o c.args.modes c.args.amount.now) (lose_grows small mine c.named-mine.ensures.part c.args.modes c.args.amount.now) _ c.args.key.now c.claim_status.ensures
