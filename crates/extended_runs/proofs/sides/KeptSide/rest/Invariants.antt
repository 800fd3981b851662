use Rattle.std.proofs.Common.{List}
use Rattle.call_types.specs.declared.setup.Setup.{Setup}
use Rattle.side_model.specs.Merged.{Step}
use Rattle.side_model.specs.Sides.{SideSetup}
use Rattle.extended_runs.specs.Steps.Sides.{IsResting, SideStands, left_in}
use Rattle.extended_runs.proofs.sides.KeptSide.rest.Given as goal

abbrev pub invariant-steps : goal.invariant-steps
invariant-steps l = (setup : Setup) (given : SideSetup) (m : List Step) → SideStands setup given m l.initial.self → IsResting setup given m l.self

abbrev pub decreases-steps : goal.decreases-steps
decreases-steps l = left_in l.self.sizes.rows
