use Rattle.std.proofs.Common.{ap}
use Rattle.evidence_agent.specs.Places.Rows.{place_in}
use Rattle.evidence_agent.proofs.by_place.lasts.Lasts.new.Goals as goal

pub returns : goal.returns
returns c = λ t. ap (place_in t) c.new.ensures.items
