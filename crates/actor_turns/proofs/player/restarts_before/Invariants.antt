use Rattle.std.proofs.Common.{◌≡◌, ◌+◌, ◌≤◌, drop}
use Rattle.actor_turns.specs.Calls.{restarts_before}
use Rattle.actor_turns.proofs.player.restarts_before.Given as goal

abbrev pub invariant-loop-after : goal.invariant-loop-after
invariant-loop-after l = record {
  sum : l.before + restarts_before l.number (drop l.after-index l.restarts) ≡ restarts_before l.number l.restarts;
  few : l.before ≤ l.after-index;
}
