use Rattle.std.proofs.Common.{◌≡◌, [], ◌∷◌, ◌++◌}
use Rattle.script_gen.specs.Generated.{each_below, late_claim_line, pod_line}
use Rattle.script_gen.proofs.lines.push_pods.Given as goal

abbrev pub invariant-loop-i : goal.invariant-loop-i
invariant-loop-i l = l.lines ≡ l.initial.lines ++ each_below l.i (λ i. late_claim_line i ∷ pod_line i ∷ [])
