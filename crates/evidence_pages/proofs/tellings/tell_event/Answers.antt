use Rattle.std.proofs.lemmas.Result.{on_ok_weaker}
use Rattle.evidence_pages.proofs.Telling.{added_tells, modified_tells}
use Rattle.evidence_pages.proofs.tellings.tell_event.Goals as goal

pub returns-in-Added : goal.returns-in-Added
returns-in-Added c = on_ok_weaker c.tell_object.result (λ tells mine all. tells mine (all c.args.event.now.object (added_tells _ _ c.in-Added.is))) c.tell_object.ensures

pub returns-in-Modified : goal.returns-in-Modified
returns-in-Modified c = on_ok_weaker c.tell_object-in-Modified.result (λ tells mine all. tells mine
    (all c.args.event.now.object (modified_tells _ _ c.in-Modified.is))) c.tell_object-in-Modified.ensures
