use Rattle.std.proofs.Common.{◌≡◌, ◌+◌, [], ◌∷◌, ◌++◌}
use Rattle.script_gen.specs.Generated.{each_below, delete_line}
use Rattle.script_gen.proofs.lines.push_deletes.Given as goal

abbrev pub invariant-loop-i : goal.invariant-loop-i
invariant-loop-i l = record {
  seed : l.draws.seed ≡ l.initial.draws.seed;
  made : l.draws.made ≡ l.i + 1024;
  lines : l.lines ≡ l.initial.lines ++ each_below l.i (λ i. delete_line l.initial.draws.seed i ∷ []);
}
