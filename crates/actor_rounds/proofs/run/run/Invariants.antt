use Rattle.std.proofs.Common.{◌≡◌, ◌≤◌, ℕ, List, [], ◌∷◌, Bool}
use Rattle.size_law.specs.Calls.Calls.{AreByActors}
use Rattle.call_types.specs.declared.entry.Entry.{Entry}
use Rattle.binder_model.specs.Told.{own}
use Rattle.worker_core.specs.States.{ActorState}
use Rattle.actor_rounds.specs.Drainers.{StandsWhole}
use Rattle.actor_rounds.specs.Longer.{HasGrown, users_of}
use Rattle.actor_rounds.specs.Rounds.{OrdersNone, Runs}
use Rattle.actor_rounds.proofs.run.run.Given as goal

abbrev pub invariant-loop-left : goal.invariant-loop-left
invariant-loop-left g l = record {
  few : l.left ≤ l.budget;
  kind : l.kind ≡ l.actor.role.kind;
  role : l.actor.role ≡ l.initial.actor.role;
  runs : (after : ActorState) (past : List Entry) (left : ℕ) (idle : Bool) → Runs (g.W.Answers.lets l.initial.desk) l.seat after past left idle l.actor (g.W.Answers.past l.desk) l.left
      → Runs (g.W.Answers.lets l.initial.desk) l.seat after past left idle l.initial.actor (g.W.Answers.past l.initial.desk) l.budget;
  stands : StandsWhole l.actor (own l.seat (g.W.Answers.past l.desk));
  serves : (other : ℕ) → g.W.Answers.serves l.initial.desk other → g.W.Answers.serves l.desk other;
  free : OrdersNone (g.W.Answers.orders l.desk);
  lets : g.W.Answers.lets l.desk ≡ g.W.Answers.lets l.initial.desk;
  setup : g.W.Answers.setup l.desk ≡ g.W.Answers.setup l.initial.desk;
  lent : g.W.Answers.lent l.desk ≡ g.W.Answers.lent l.initial.desk;
  grown : HasGrown (l.seat ∷ []) (g.W.Answers.past l.initial.desk) (g.W.Answers.past l.desk);
  users : users_of (g.W.Answers.past l.desk) ≡ users_of (g.W.Answers.past l.initial.desk);
  actors : AreByActors (g.W.Answers.past l.initial.desk) → AreByActors (g.W.Answers.past l.desk);
}

abbrev pub decreases-loop-left : goal.decreases-loop-left
decreases-loop-left g l = l.left
