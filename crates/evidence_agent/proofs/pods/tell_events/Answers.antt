use Rattle.std.proofs.Common.{arith}
use Rattle.evidence_pages.proofs.Telling.{event_at}
use Rattle.evidence_agent.proofs.pods.tell_events.Goals as goal

pub loop-event-preserved : goal.loop-event-preserved
loop-event-preserved c = λ mine all pods. c.in_ok-tell_event.ensures mine (λ o some. all o
    (event_at o c.args.events.now c.loop-event.event-index c.event-item.result (omega arith) c.event-item.is some)) (c.loop-event.invariant mine all pods)
