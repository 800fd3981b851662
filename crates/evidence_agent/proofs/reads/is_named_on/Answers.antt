use Rattle.std.proofs.Common.{reverse}
use Rattle.evidence_agent.proofs.Sight.{named_by}
use Rattle.evidence_agent.proofs.reads.is_named_on.Goals as goal

pub returns-in-Pod : goal.returns-in-Pod
returns-in-Pod c =
    let names = rw c.deref.ensures at c.names_claim.ensures in
    λ part told. named_by (reverse c.args.entries.now) c.args.key.now c.in-Some.object.now c.in-Pod.pod c.in-Pod.is (names told) (c.in-Some.ensures (reverse c.args.entries.now) part)
