use Rattle.script_gen.specs.Generated.{late_claim_line, pod_line}
use Rattle.script_gen.proofs.Each.{none_yet, two_lines}
use Rattle.script_gen.proofs.lines.push_pods.Goals as goal

pub loop-i-init : goal.loop-i-init
loop-i-init c = none_yet _ _

pub loop-i-preserved : goal.loop-i-preserved
loop-i-preserved c =
    two_lines _ _ c.loop-i.i late_claim_line pod_line _ _ _ _ c.loop-i.invariant
    c.in_ok-push.ensures.ok c.in_ok-late_claim_line.ensures
    c.in_ok-push-2.ensures.ok c.in_ok-pod_line.ensures
