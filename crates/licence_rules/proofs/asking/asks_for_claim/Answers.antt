use Rattle.std.proofs.Common.{refl}
use Rattle.binder_model.specs.Told.{newest, object_of}
use Rattle.licence_rows.proofs.Asks.{asks_claim}
use Rattle.licence_record.proofs.Judging.{lift, weaker}
use Rattle.licence_rules.proofs.asking.asks_for_claim.Goals as goal

pub returns : goal.returns
returns g c =
    let mine = g.R.Record.told c.args.seat.now in
    let key = c.args.key.now in
    lift _ _ _ _ (λ b is. asks_claim mine key (object_of (newest mine key)) refl b is) (weaker _ _ _ _ (λ w. (w, w)) c.some_newest.ensures)
