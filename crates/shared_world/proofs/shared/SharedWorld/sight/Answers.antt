use Rattle.std.proofs.Common.{ap}
use Rattle.shared_world.specs.Lines.{entries}
use Rattle.shared_world.proofs.shared.SharedWorld.sight.Goals as goal

pub returns-clause-shown : goal.returns-clause-shown
returns-clause-shown c = ap entries c.sight.ensures.shown
