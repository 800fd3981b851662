use Rattle.licence_record.proofs.Judging.{exact, no}
use Rattle.licence_rules.proofs.Asked.{ended_row}
use Rattle.licence_rules.proofs.asking.asks_for_ended.Goals as goal

pub returns-in-None : goal.returns-in-None
returns-in-None g c = no _ _ (λ w a. c.in-None.ensures.none w a.volume a.newest_volume)

pub returns-in-Some : goal.returns-in-Some
returns-in-Some g c = exact _ _ _ (ended_row (g.R.Record.told c.args.seat.now) c.args.key.now c.in-Some.volume.now _ c.in-Some.ensures.some c.is_to_erase.ensures)
