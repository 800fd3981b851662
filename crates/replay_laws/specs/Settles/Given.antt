-- Drains in runs whose setup and users ask what a text can give.
-- A choice of this project.
use Rattle.std.specs.Prelude.{ℕ, List}
use Rattle.call_types.specs.declared.entry.Entry.{Entry}
use Rattle.call_types.specs.declared.setup.Setup.{Setup}
use Rattle.binder_model.specs.Due.{IsSettled}
use Rattle.binder_model.specs.World.{world}
use Rattle.history_laws.specs.Read.Given.{IsSetup}
use Rattle.history_laws.specs.Runs.Laws.{IsGivenRun}
use Rattle.actor_rounds.specs.declared.drainers.Drainer.{Drainer}
use Rattle.actor_rounds.specs.Rounds.{Drains, all_pass}
use Rattle.settle_pays.specs.Actors.Reclaiming.{UidsFit}
use Rattle.settle_budget.specs.Drains.Budget.{AreAlwaysInOrder}
use Rattle.settle_budget.specs.Drains.Selections.{AreFresh, HasBudget, NoneProvisionsLate}

-- in a run that a text can give, the annotations of claims are always in order
abbrev pub GivenRunsStayInOrder : Type 0
GivenRunsStayInOrder = (setup : Setup) (past : List Entry) → IsGivenRun setup past → AreAlwaysInOrder setup past

-- the UIDs of imports that a text can give have 128 bits
abbrev pub GivenImportsFit : Type 0
GivenImportsFit = (setup : Setup) → IsSetup setup → UidsFit setup

-- a drain of new drainers, with an agent for each node that was given, and the stated budget
abbrev pub GivenDrainsSettle : Type 0
GivenDrainsSettle =
    (setup : Setup) (first : ℕ) (nodes : List (List ℕ)) (ds after : List Drainer) (h past : List Entry) (b left : ℕ) → IsGivenRun setup past → AreFresh setup first nodes ds h → HasBudget setup ds h b
    → NoneProvisionsLate setup past → Drains all_pass setup after past left ds h b → IsSettled setup (world setup past)
