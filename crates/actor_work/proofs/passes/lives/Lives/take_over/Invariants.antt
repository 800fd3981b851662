use Rattle.std.proofs.Common.{◌≡◌, ◌≤◌, length}
use Rattle.actor_work.specs.Lives.Lived.{AreLives, known_by_all, past_of}
use Rattle.actor_work.proofs.Lives.Following.{IsTold}
use Rattle.actor_work.proofs.passes.lives.Lives.take_over.Given as goal

abbrev pub invariant-loop-earlier : goal.invariant-loop-earlier
invariant-loop-earlier g l = record {
  lent : (l.self.shared ≡ l.fn.self.shared) × (l.self.made ≡ l.fn.self.made) × (l.self.first ≡ l.fn.self.first);
  lives : AreLives l.fn.self.shared.now l.fn.self.made l.fn.self.first l.self.passes.items;
  long : length l.self.passes.items ≡ length l.fn.self.passes.items;
  past : past_of l.self.passes.items ≡ past_of l.fn.self.passes.items;
  low : l.fn.self.at ≤ l.earlier;
  told : IsTold l.fn.self.first l.fn.self.at l.place l.earlier (known_by_all l.self.passes.items);
}
