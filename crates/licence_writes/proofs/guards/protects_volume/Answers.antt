use Rattle.std.proofs.Common.{sym, ◌∙◌, subst}
use Rattle.binder_model.specs.Licence.{AtVolume, VolumeMay, volume_guard}
use Rattle.licence_record.specs.Judged.{Judges}
use Rattle.licence_writes.proofs.guards.protects_volume.Goals as goal

pub returns-then-is_protected_volume : goal.returns-then-is_protected_volume
returns-then-is_protected_volume g c =
    let mine = g.R.Record.told c.args.seat.now in
    let new = c.args.new.now in
    subst (λ b. Judges (g.R.Record.whole c.args.seat.now) c.guards_volume.result
    (AtVolume mine new c.args.given (VolumeMay (volume_guard b) mine new))) (sym (sym c.is_protected_volume.ensures ∙ c.if-is_protected_volume.true)) c.guards_volume.ensures

pub returns-else-is_protected_volume : goal.returns-else-is_protected_volume
returns-else-is_protected_volume g c =
    let mine = g.R.Record.told c.args.seat.now in
    let new = c.args.new.now in
    subst (λ b. Judges (g.R.Record.whole c.args.seat.now) c.unguards_volume.result
    (AtVolume mine new c.args.given (VolumeMay (volume_guard b) mine new))) (sym (sym c.is_protected_volume.ensures ∙ c.if-is_protected_volume.false)) c.unguards_volume.ensures
