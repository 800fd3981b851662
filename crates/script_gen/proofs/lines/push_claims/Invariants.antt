use Rattle.std.proofs.Common.{◌≡◌, ◌+◌, ◌*◌, [], ◌∷◌, ◌++◌}
use Rattle.script_gen.specs.Generated.{each_below, claim_line}
use Rattle.script_gen.proofs.lines.push_claims.Given as goal

abbrev pub invariant-loop-i : goal.invariant-loop-i
invariant-loop-i l = record {
  seed : l.draws.seed ≡ l.initial.draws.seed;
  made : l.draws.made ≡ 2 * l.i + 512;
  lines : l.lines ≡ l.initial.lines ++ each_below l.i (λ i. claim_line l.initial.draws.seed i ∷ []);
}
