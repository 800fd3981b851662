use Rattle.std.proofs.Common.{reverse}
use Rattle.binder_model.specs.Licence.{MayDeleteVolume}
use Rattle.licence_record.proofs.Judging.{exact, paged}
use Rattle.licence_writes.proofs.Paging.{deletes_grow}
use Rattle.licence_writes.proofs.reclaim.may_delete.Goals as goal

pub returns : goal.returns
returns g c =
    let mine = g.R.Record.told c.args.seat.now in
    let page = reverse c.called.result.now in
    paged _ (λ m. MayDeleteVolume m c.args.key.now c.args.given) page mine _
    (deletes_grow page mine c.called.ensures.part c.args.key.now c.args.given) c.called.ensures.all (exact _ _ _ c.deletes.ensures)
