use Rattle.binder_model.specs.BinderLicence.{MayFree}
use Rattle.licence_writes.proofs.Paging.{volume_key_paged}
use Rattle.licence_writes.proofs.binder.frees.Goals as goal

pub returns : goal.returns
returns g c =
    let mine = g.R.Record.told c.args.seat.now in
    volume_key_paged _ c.args.given _ _ mine c.about-page.ensures.part c.about-page.ensures.all c.about-page.ensures.all (λ m o. MayFree o) (λ o free. free) _ c.args.key.now c.volume_status.ensures
