use Rattle.std.proofs.Common.{sym, subst}
use Rattle.std.proofs.lemmas.Result.{on_ok_weaker}
use Rattle.kube_objects.specs.declared.objects.Object.TheVariants.{Pod}
use Rattle.kube_objects.specs.declared.objects.Pod.{Pod as PodData}
use Rattle.evidence_agent.specs.Places.Places.{TellsAt}
use Rattle.evidence_agent.proofs.pods.tell_pod.Goals as goal

pub returns-in_ok-kept-in-Some : goal.returns-in_ok-kept-in-Some
returns-in_ok-kept-in-Some c = on_ok_weaker c.add_to.result (λ adds mine told all. adds mine
    (subst (λ (p : PodData). TellsAt mine c.args.place (Pod p)) (sym c.in_ok-kept-in-Some.ensures) told) all) c.add_to.ensures
