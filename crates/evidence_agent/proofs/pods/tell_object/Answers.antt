use Rattle.std.proofs.Common.{subst}
use Rattle.std.proofs.lemmas.Result.{on_ok_weaker}
use Rattle.evidence_agent.specs.Places.Places.{TellsAt}
use Rattle.evidence_agent.proofs.pods.tell_object.Goals as goal

pub returns-in-Pod : goal.returns-in-Pod
returns-in-Pod c =
    let row = rw c.deref.ensures at c.tell_pod.ensures in
    on_ok_weaker c.tell_pod.result (λ tells mine told all. tells mine (subst (TellsAt mine c.args.place) c.in-Pod.is told) all) row
