-- Rounds that leave as much to do are few, so a drain of a small world, in which claims are shared well, ends settled with the stated budget.
-- A choice of this project.
use Rattle.std.specs.Prelude.{ℕ, List}
use Rattle.call_types.specs.declared.entry.Entry.{Entry}
use Rattle.call_types.specs.declared.setup.Setup.{Setup}
use Rattle.binder_model.specs.Due.{IsSettled}
use Rattle.binder_model.specs.Promises.{IsRunOf}
use Rattle.binder_model.specs.World.{world}
use Rattle.actor_rounds.specs.declared.drainers.Drainer.{Drainer}
use Rattle.actor_rounds.specs.Rounds.{Drains, all_pass}
use Rattle.settle_pays.specs.Drains.All.{ImportsAllow}
use Rattle.settle_budget.specs.Drains.Budget.{AreAlwaysInOrder}
use Rattle.settle_budget.specs.Drains.Measured.{AreTries, SharesWell}
use Rattle.settle_budget.specs.Drains.Rounds.{MaySettle}
use Rattle.settle_budget.specs.Drains.Selections.{HasBudget}

-- such rounds after one another are ten at most where a drain begins, and nine behind a whole round
abbrev pub QuietRoundsAreFew : Type 0
QuietRoundsAreFew = (setup : Setup) → AreTries setup

-- so such a drain ends settled
abbrev pub SharedDrainsSettle : Type 0
SharedDrainsSettle =
    (setup : Setup) (ds after : List Drainer) (h past : List Entry) (b left : ℕ) → ImportsAllow setup → MaySettle setup ds h
    → SharesWell (world setup h) → HasBudget setup ds h b → IsRunOf setup past → AreAlwaysInOrder setup past
    → Drains all_pass setup after past left ds h b → IsSettled setup (world setup past)
