use Rattle.std.proofs.Common.{◌≡◌, ◌++◌, ◌-◌, List, length}
use Rattle.call_types.specs.declared.entry.Entry.{Entry}
use Rattle.side_model.specs.Merged.{Step, entries}
use Rattle.side_model.specs.Sides.{SideSetup}
use Rattle.extended_runs.specs.Steps.Sides.{IsCatchingUp, SideStands}
use Rattle.extended_runs.proofs.sides.KeptSide.catch_up.Given as goal

abbrev pub invariant-notes : goal.invariant-notes
invariant-notes l = (given : SideSetup) (m : List Step) (added : List Entry) → SideStands l.world.setup given m l.initial.self → l.world.past ≡ added ++ entries m
    → IsCatchingUp l.world.setup given m added l.self

abbrev pub decreases-notes : goal.decreases-notes
decreases-notes l = length l.history - l.self.noted
