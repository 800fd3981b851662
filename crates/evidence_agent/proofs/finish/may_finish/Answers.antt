use Rattle.std.proofs.Common.{reverse}
use Rattle.evidence_agent.proofs.Sight.{finish_by}
use Rattle.evidence_agent.proofs.finish.may_finish.Goals as goal

pub returns-in-Some : goal.returns-in-Some
returns-in-Some c = λ told. finish_by (reverse c.args.entries.now) c.args.key.now c.args.uid c.args.node.now c.args.epoch c.in-Some.taken (c.same.ensures.0 c.if-not-same.false)
    (c.told_ending.ensures (reverse c.args.entries.now) (c.told.ensures (reverse c.args.entries.now) c.requires.pods) c.if-not-told_ending.false) c.in-Some.ensures (c.is_unmounted.ensures told)
