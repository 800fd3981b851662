use Rattle.std.proofs.Common.{reverse}
use Rattle.evidence_agent.proofs.Sight.{ready_from}
use Rattle.evidence_agent.proofs.agent.is_read.Goals as goal

pub returns-then-is_to_mount : goal.returns-then-is_to_mount
returns-then-is_to_mount c = λ told.
    ready_from (reverse c.args.entries.now) c.args.behind c.in-Some.place _ _ c.args.namespace.now c.args.name.now c.args.uid c.in-Some.claim.now
    c.as_str.ensures c.as_str-2.ensures c.in-Some.ensures (c.is_to_mount.ensures c.if-is_to_mount.true) (c.is_volume_read.ensures told)
