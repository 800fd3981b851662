use Rattle.std.proofs.Common.{◌≤◌, ◌+◌, ◌*◌, ℕ, List, drop, map}
use Rattle.script_lines.specs.declared.actors.Actor.TheVariants.{Agent}
use Rattle.actor_turns.specs.declared.player.Player.{Player}
use Rattle.script_runs.specs.Steps.Standing.{HasAdded}
use Rattle.script_runs.proofs.stage.add_agents.Given as goal

-- with those that are left all are added
abbrev pub invariant-loop-node : goal.invariant-loop-node
invariant-loop-node l = record {
  small : l.seat ≤ l.first + 4097 * l.node-index;
  added : (end : ℕ) (after : List Player)
      → HasAdded l.lines (map (λ (node : List ℕ). Agent node) (drop l.node-index l.node-items)) l.seat end l.players.items after
      → HasAdded l.lines (map (λ (node : List ℕ). Agent node) l.node-items) l.first end l.initial.players.items after;
}
