use Rattle.std.proofs.Common.{◌≡◌, ◌+◌, ◌≤◌, drop}
use Rattle.script_runs.specs.Budget.{at_most, size_of_all}
use Rattle.script_runs.proofs.budget.size_of_all.Given as goal

abbrev pub invariant-loop-object : goal.invariant-loop-object
invariant-loop-object l = record {
  few : l.sum ≤ 1040;
  sum : at_most 1040 (l.sum + size_of_all (drop l.object-index l.objects)) ≡ at_most 1040 (size_of_all l.objects);
}
