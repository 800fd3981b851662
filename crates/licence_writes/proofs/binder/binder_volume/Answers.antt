use Rattle.std.proofs.Common.{sym, ◌∙◌, subst}
use Rattle.binder_model.specs.Licence.{AtVolume, VolumeMay, binder_volume}
use Rattle.licence_record.specs.Judged.{Judges}
use Rattle.licence_writes.proofs.binder.binder_volume.Goals as goal

pub returns-in-None : goal.returns-in-None
returns-in-None g c =
    let mine = g.R.Record.told c.args.seat.now in
    let new = c.args.new.now in
    subst (λ u. Judges (g.R.Record.whole c.args.seat.now) c.unbinds.result (AtVolume mine new c.args.given (VolumeMay (binder_volume u) mine new)))
    (sym (sym c.ref_uid.ensures ∙ c.in-None.is)) c.unbinds.ensures

pub returns-in-Some : goal.returns-in-Some
returns-in-Some g c =
    let mine = g.R.Record.told c.args.seat.now in
    let new = c.args.new.now in
    subst (λ u. Judges (g.R.Record.whole c.args.seat.now) c.takes.result (AtVolume mine new c.args.given (VolumeMay (binder_volume u) mine new)))
    (sym (sym c.ref_uid.ensures ∙ c.in-Some.is)) c.takes.ensures
