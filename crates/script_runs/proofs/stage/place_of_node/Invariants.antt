use Rattle.std.proofs.Common.{◌≡◌, ◌+◌, ◌≤◌, drop}
use Rattle.script_runs.specs.Steps.Standing.{place_of_node}
use Rattle.script_runs.proofs.stage.place_of_node.Given as goal

abbrev pub invariant-loop-name : goal.invariant-loop-name
invariant-loop-name l = record {
  place : l.place + place_of_node l.node (drop l.name-index l.name-items) ≡ place_of_node l.node l.nodes;
  few : l.place ≤ l.name-index;
}
