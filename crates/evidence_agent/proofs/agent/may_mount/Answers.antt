use Rattle.std.proofs.Common.{reverse}
use Rattle.evidence_agent.proofs.Sight.{mount_by}
use Rattle.evidence_agent.proofs.agent.may_mount.Goals as goal

pub returns-in-Some : goal.returns-in-Some
returns-in-Some c = λ t. mount_by (reverse c.args.entries.now) c.args.node.now c.args.epoch c.in-Some.taken c.args.uid c.args.claims.now
    c.in-Some.ensures (c.shows_mount.ensures t c.args.epoch c.in-Some.ensures) (c.never_finished.ensures c.if-not-never_finished.false)
