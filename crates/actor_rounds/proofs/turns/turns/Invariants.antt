use Rattle.std.proofs.Common.{◌≡◌, ◌≤◌, ◌<◌, ℕ, List, ◌++◌, Bool, true, ◌&&◌, take, drop, length}
use Rattle.size_law.specs.Calls.Calls.{AreByActors}
use Rattle.call_types.specs.declared.entry.Entry.{Entry}
use Rattle.actor_rounds.specs.declared.drainers.Drainer.{Drainer}
use Rattle.actor_rounds.specs.Drainers.{StandsWhole, roles_of, seats_of}
use Rattle.actor_rounds.specs.Longer.{HasGrown, users_of}
use Rattle.actor_rounds.specs.Rounds.{IsRound, OrdersNone}
use Rattle.actor_rounds.proofs.RoundFacts.{EachBelow, IsIdleAt}
use Rattle.actor_rounds.proofs.turns.turns.Given as goal

abbrev pub invariant-loop-place : goal.invariant-loop-place
invariant-loop-place g l = record {
  few : l.left ≤ l.budget;
  some : 0 < l.place → 0 < l.budget → l.left < l.budget;
  round : (past : List Entry) (left : ℕ) (after : List Drainer) (whole : Bool)
      → IsRound (g.W.Answers.lets l.initial.desk) past left (drop l.place l.drainers-inside.list.items) (g.W.Answers.past l.desk) l.left after whole
      → IsRound (g.W.Answers.lets l.initial.desk) past left l.initial.drainers-inside.list.items (g.W.Answers.past l.initial.desk) l.budget
      (take l.place l.drainers-inside.list.items ++ after) (l.whole && whole);
  stands : EachBelow (length l.drainers-inside.list.items) StandsWhole l.drainers-inside.list.items (g.W.Answers.past l.desk);
  idle : l.whole ≡ true → EachBelow l.place IsIdleAt l.drainers-inside.list.items (g.W.Answers.past l.desk);
  serves : (seat : ℕ) → g.W.Answers.serves l.initial.desk seat → g.W.Answers.serves l.desk seat;
  free : OrdersNone (g.W.Answers.orders l.desk);
  lets : g.W.Answers.lets l.desk ≡ g.W.Answers.lets l.initial.desk;
  setup : g.W.Answers.setup l.desk ≡ g.W.Answers.setup l.initial.desk;
  lent : g.W.Answers.lent l.desk ≡ g.W.Answers.lent l.initial.desk;
  seats : seats_of l.drainers-inside.list.items ≡ seats_of l.initial.drainers-inside.list.items;
  roles : roles_of l.drainers-inside.list.items ≡ roles_of l.initial.drainers-inside.list.items;
  grown : HasGrown (seats_of l.initial.drainers-inside.list.items) (g.W.Answers.past l.initial.desk) (g.W.Answers.past l.desk);
  users : users_of (g.W.Answers.past l.desk) ≡ users_of (g.W.Answers.past l.initial.desk);
  actors : AreByActors (g.W.Answers.past l.initial.desk) → AreByActors (g.W.Answers.past l.desk);
}
