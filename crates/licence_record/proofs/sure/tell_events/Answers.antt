use Rattle.std.proofs.Common.{refl, arith}
use Rattle.licence_scans.proofs.Fronts.{event_at}
use Rattle.licence_record.proofs.sure.tell_events.Goals as goal

pub returns-then-tells_event : goal.returns-then-tells_event
returns-then-tells_event g c = (
  (λ _. event_at (g.T.SureTest.allows c.args.test.now) c.args.events.now c.loop-event.event-index c.event-item.result (omega arith) c.event-item.is (c.if-tells_event.ensures.0 refl)),
  (λ _ _. refl),
)
