-- The two laws of the side: growth goes in turn, and quotas are kept.
-- A choice of this project: both are said of the merged list, at each of its points.
use Rattle.std.specs.Prelude.{List}
use Rattle.call_types.specs.declared.setup.Setup.{Setup}
use Rattle.binder_model.specs.Imports.{ImportsPass}
use Rattle.binder_model.specs.Run.{Run}
use Rattle.side_model.specs.Grown.{GrownThroughout}
use Rattle.side_model.specs.Merged.{Step, entries}
use Rattle.side_model.specs.Sides.{SideSetup}
use Rattle.side_model.specs.Within.{HoldsBack, WithinThroughout}

-- growth goes in turn in each list of steps: the definition of what the side keeps gives it
abbrev pub GrowthGoesInTurn : Type 0
GrowthGoesInTurn = (setup : Setup) (given : SideSetup) (m : List Step) → GrownThroughout setup given m

-- a run over imports that pass, in which no create reached the world that was to be held back. Since no licence lets a controller
-- create a claim, each new claim is a user's
pub record HoldsItsQuotas (setup : Setup) (given : SideSetup) (m : List Step) : Type 0 where
  pub imports : ImportsPass setup.imports
  pub run : Run setup (entries m)
  pub holds : HoldsBack setup given m

-- quotas are kept at each point of each such run
abbrev pub QuotasAreKept : Type 0
QuotasAreKept = (setup : Setup) (given : SideSetup) (m : List Step) → HoldsItsQuotas setup given m → WithinThroughout setup given m
