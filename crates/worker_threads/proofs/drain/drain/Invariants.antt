use Rattle.std.proofs.Common.{◌≡◌, ◌≤◌, ℕ, List}
use Rattle.size_law.specs.Calls.Calls.{AreByActors}
use Rattle.call_types.specs.declared.entry.Entry.{Entry}
use Rattle.actor_rounds.specs.declared.drainers.Drainer.{Drainer}
use Rattle.actor_rounds.specs.Drainers.{AreStanding, roles_of, seats_of}
use Rattle.actor_rounds.specs.Longer.{HasGrown, users_of}
use Rattle.actor_rounds.specs.Rounds.{Drains, all_pass}
use Rattle.worker_threads.proofs.drain.drain.Given as goal

abbrev pub invariant-rounds : goal.invariant-rounds
invariant-rounds l = record {
  few : l.left ≤ l.budget;
  drains : (after : List Drainer) (past : List Entry) (left : ℕ)
      → Drains all_pass l.initial.world.setup after past left l.drainers l.world.past l.left → Drains all_pass l.initial.world.setup after past left l.initial.drainers l.initial.world.past l.budget;
  stands : AreStanding l.drainers l.world.past;
  seats : seats_of l.drainers ≡ seats_of l.initial.drainers;
  roles : roles_of l.drainers ≡ roles_of l.initial.drainers;
  setup : l.world.setup ≡ l.initial.world.setup;
  grown : HasGrown (seats_of l.initial.drainers) l.initial.world.past l.world.past;
  users : users_of l.world.past ≡ users_of l.initial.world.past;
  actors : AreByActors l.initial.world.past → AreByActors l.world.past;
}

abbrev pub decreases-rounds : goal.decreases-rounds
decreases-rounds l = l.left
