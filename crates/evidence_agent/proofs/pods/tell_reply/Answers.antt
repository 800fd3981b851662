use Rattle.std.proofs.lemmas.Result.{on_ok_weaker}
use Rattle.evidence_pages.proofs.Telling.{done_tells, found_tells}
use Rattle.evidence_agent.proofs.pods.tell_reply.Goals as goal

pub returns-in-Done : goal.returns-in-Done
returns-in-Done c = on_ok_weaker c.tell_object.result (λ tells mine all. tells mine (all _ (done_tells _ _ c.in-Done.is))) c.tell_object.ensures

pub returns-in-Found : goal.returns-in-Found
returns-in-Found c = on_ok_weaker c.tell_object-in-Found.result (λ tells mine all. tells mine (all _ (found_tells _ _ c.in-Found.is))) c.tell_object-in-Found.ensures
