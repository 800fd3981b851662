use Rattle.std.proofs.Common.{◌≤◌, ◌+◌, ◌*◌, ℕ, List, drop, map}
use Rattle.script_lines.specs.declared.actors.Actor.TheVariants.{Worker}
use Rattle.script_lines.specs.declared.actors.WorkerNumber.{WorkerNumber}
use Rattle.actor_turns.specs.declared.player.Player.{Player}
use Rattle.script_runs.specs.Steps.Standing.{HasAdded}
use Rattle.script_runs.proofs.stage.add_workers.Given as goal

-- with those that are left all are added
abbrev pub invariant-loop-number : goal.invariant-loop-number
invariant-loop-number l = record {
  small : l.seat ≤ l.first + 4097 * l.number-index;
  added : (end : ℕ) (after : List Player)
      → HasAdded l.lines (map (λ (n : WorkerNumber). Worker (record { kind = l.kind; number = n })) (drop l.number-index l.number-items)) l.seat end
      l.players.items after → HasAdded l.lines (map (λ (n : WorkerNumber). Worker (record { kind = l.kind; number = n })) l.number-items) l.first end l.initial.players.items after;
}
