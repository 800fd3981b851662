use Rattle.std.proofs.Common.{◌≤◌, ◌-◌, length, take, drop}
use Rattle.binder_model.specs.Imports.{ImportsPass, PassAfter}
use Rattle.world_cases.proofs.worlds.own.pass.Given as goal

-- it is enough that those from this place on pass
abbrev pub invariant-loop-place : goal.invariant-loop-place
invariant-loop-place l = record {
  within : l.place ≤ length l.imports;
  goes : PassAfter (take l.place l.imports) (drop l.place l.imports) → ImportsPass l.imports;
}

abbrev pub decreases-loop-place : goal.decreases-loop-place
decreases-loop-place l = length l.imports - l.place
