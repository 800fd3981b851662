use Rattle.std.proofs.Common.{◌≡◌, ◌++◌, map, take}
use Rattle.script_lines.specs.declared.actors.Actor.TheVariants.{Worker}
use Rattle.script_lines.specs.Actors.{four}
use Rattle.script_threads.proofs.crew.add_workers.Given as goal

abbrev pub invariant-loop-place : goal.invariant-loop-place
invariant-loop-place l = l.actors.items ≡ l.initial.actors.items ++ take l.place (map (λ w. Worker w) (four l.kind))
