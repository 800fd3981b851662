use Rattle.licence_rows.proofs.Asks.{asks_volume}
use Rattle.licence_record.proofs.Judging.{lift, weaker}
use Rattle.licence_rules.proofs.asking.asks_for_volume.Goals as goal

pub returns : goal.returns
returns g c = lift _ _ _ _ (λ b is. asks_volume (g.R.Record.told c.args.seat.now) c.args.key.now b is) (weaker _ _ _ _ (λ w. (w, tt)) c.some_newest.ensures)
