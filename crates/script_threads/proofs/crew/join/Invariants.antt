use Rattle.std.proofs.Common.{◌≤◌, ◌+◌, ◌*◌, take}
use Rattle.script_runs.specs.Parts.{first_actor_seat}
use Rattle.script_threads.specs.Steps.Hired.{HaveJoined}
use Rattle.script_threads.proofs.crew.join.Given as goal

abbrev pub invariant-loop-actor : goal.invariant-loop-actor
invariant-loop-actor g l = record {
  small : l.seat ≤ 5 + 4097 * l.actor-index;
  joined : HaveJoined l.lines l.calls first_actor_seat l.seat (take l.actor-index l.actors) l.initial.crew.items l.crew.items;
}
