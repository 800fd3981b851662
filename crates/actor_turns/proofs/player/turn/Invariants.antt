use Rattle.std.proofs.Common.{◌≡◌, ◌≤◌, ◌+◌, ◌-◌, ℕ, List}
use Rattle.attention_law.specs.Diligence.{Call}
use Rattle.call_types.specs.declared.entry.Entry.{Entry}
use Rattle.size_law.specs.Calls.Calls.{AreByActors}
use Rattle.actor_rounds.specs.Answers.Answered.{all_pass}
use Rattle.worker_core.specs.declared.role.Role.{Role}
use Rattle.actor_turns.specs.Steps.Living.{Lives}
use Rattle.actor_turns.specs.Steps.Playing.{HasGone, Plays, SomePlays}
use Rattle.actor_turns.proofs.player.turn.Given as goal

abbrev pub invariant-loop-made : goal.invariant-loop-made
invariant-loop-made g l = record {
  few : l.made ≤ l.calls;
  part : l.player.part ≡ l.initial.player.part;
  count : l.player.made ≡ l.initial.player.made + l.made;
  serves : (seat : ℕ) → g.W.Answers.serves l.initial.desk seat → g.W.Answers.serves l.desk seat;
  orders : (seat : ℕ) → g.W.Answers.orders l.desk seat → g.W.Answers.orders l.initial.desk seat;
  lets : g.W.Answers.lets l.desk ≡ g.W.Answers.lets l.initial.desk;
  setup : g.W.Answers.setup l.desk ≡ g.W.Answers.setup l.initial.desk;
  lent : g.W.Answers.lent l.desk ≡ g.W.Answers.lent l.initial.desk;
  passes : g.W.Answers.lets l.initial.desk ≡ all_pass → l.player.held ≡ l.initial.player.held;
  actors : AreByActors (g.W.Answers.past l.initial.desk) → AreByActors (g.W.Answers.past l.desk);
  some : SomePlays l.player (g.W.Answers.past l.desk);
  lives : (role : Role) (idle : ℕ → List Call) → Lives role l.initial.player (g.W.Answers.past l.initial.desk) idle → Lives role l.player (g.W.Answers.past l.desk) idle;
  gone : (idle : ℕ → List Entry) → Plays l.initial.player (g.W.Answers.past l.initial.desk) idle
      → HasGone (g.W.Answers.lets l.initial.desk) l.made idle (g.W.Answers.past l.initial.desk) (g.W.Answers.past l.desk) l.initial.player l.player;
}

abbrev pub decreases-loop-made : goal.decreases-loop-made
decreases-loop-made g l = l.calls - l.made
