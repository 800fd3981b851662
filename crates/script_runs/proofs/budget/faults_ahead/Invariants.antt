use Rattle.std.proofs.Common.{◌≡◌, ◌+◌, ◌≤◌, drop}
use Rattle.script_runs.specs.Budget.{at_most, faults_ahead}
use Rattle.script_runs.proofs.budget.faults_ahead.Given as goal

abbrev pub invariant-loop-fault : goal.invariant-loop-fault
invariant-loop-fault l = record {
  few : l.sum ≤ 1040;
  sum : at_most 1040 (l.sum + faults_ahead l.calls (drop l.fault-index l.faults)) ≡ at_most 1040 (faults_ahead l.calls l.faults);
}
