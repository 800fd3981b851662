use Rattle.std.proofs.Common.{◌≡◌, ◌≤◌, ◌+◌, ◌-◌, ◌*◌, ℕ, List, if◌then◌else◌}
use Rattle.attention_law.specs.Diligence.{Call}
use Rattle.size_law.specs.Calls.Calls.{AreByActors}
use Rattle.actor_rounds.specs.Answers.Answered.{all_pass}
use Rattle.worker_core.specs.declared.role.Role.{Role}
use Rattle.actor_turns.specs.Calls.{AreCalls}
use Rattle.actor_turns.specs.Steps.Living.{Lives}
use Rattle.actor_work.specs.Work.Steps.Reached.{HasPlayedTo}
use Rattle.actor_work.specs.Work.Working.{SomeLives}
use Rattle.actor_work.proofs.working.turns.turns.Given as goal

abbrev pub invariant-loop-player : goal.invariant-loop-player
invariant-loop-player g l = record {
  end : l.end ≡ l.initial.player.made + l.calls;
  part : l.player.part ≡ l.initial.player.part;
  held : l.player.held ≡ l.initial.player.held;
  low : l.initial.player.made ≤ l.player.made;
  high : l.player.made ≤ l.end;
  passes : g.W.Answers.lets l.desk ≡ all_pass;
  serves : (seat : ℕ) → g.W.Answers.serves l.initial.desk seat → g.W.Answers.serves l.desk seat;
  orders : (seat : ℕ) → g.W.Answers.orders l.desk seat → g.W.Answers.orders l.initial.desk seat;
  lent : g.W.Answers.lent l.desk ≡ g.W.Answers.lent l.initial.desk;
  calls : AreCalls all_pass l.initial.player.held l.initial.player.part (g.W.Answers.past l.desk) (l.initial.player.made + 1) (l.player.made - l.initial.player.made) (g.W.Answers.past l.initial.desk);
  reached : HasPlayedTo l.end l.woken l.player (g.W.Answers.past l.desk);
  lived : (role : Role) (idle : ℕ → List Call) → Lives role l.initial.player (g.W.Answers.past l.initial.desk) idle → SomeLives role l.player (g.W.Answers.past l.desk);
  actors : AreByActors (g.W.Answers.past l.initial.desk) → AreByActors (g.W.Answers.past l.desk);
}

abbrev pub decreases-loop-player : goal.decreases-loop-player
decreases-loop-player g l = 2 * (l.end - l.player.made) + (if l.woken then 0 else 1)
