use Rattle.settle_alike.proofs.Near.Near.{alike_are_near}
use Rattle.settle_alike.proofs.near_laws.alike_are_near.Goals as goal

-- worlds that are alike are near
pub returns : goal.returns
returns c = alike_are_near
