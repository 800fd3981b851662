use Rattle.std.proofs.Common.{◌≡◌, refl, arith}
use Rattle.licence_scans.proofs.Fronts.{event_at}
use Rattle.licence_scans.proofs.told.find_of_events.Goals as goal

pub returns-then-tells_event : goal.returns-then-tells_event
returns-then-tells_event g c =
    let found = c.if-tells_event.ensures.object refl in record {
      holds = found.holds;
      among = event_at (λ x. x ≡ c.event-item.result.object) c.args.events.now c.loop-event.event-index c.event-item.result (omega arith) c.event-item.is found.among;
    }
