use Rattle.std.proofs.Common.{reverse}
use Rattle.binder_model.specs.GuardLicence.{MayUnguardVolume}
use Rattle.licence_writes.proofs.Paging.{volume_paged}
use Rattle.licence_writes.proofs.guards.unguards_volume.Goals as goal

pub returns : goal.returns
returns g c =
    let mine = g.R.Record.told c.args.seat.now in
    volume_paged _ c.args.given (reverse c.about-page.result.now)
    (reverse c.about-page.result.now) mine c.about-page.ensures.part c.about-page.ensures.all c.about-page.ensures.all
    (λ m o. MayUnguardVolume o c.args.new.now) (λ o row. row) _ c.args.new.now.meta.namespace c.args.new.now.meta.name c.told_volume_at.ensures
