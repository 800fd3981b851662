use Rattle.std.proofs.Common.{reverse, sym, subst}
use Rattle.evidence_agent.specs.Places.Steps.Since.{IsUpto}
use Rattle.evidence_agent.proofs.Sight.{quiet_by}
use Rattle.evidence_agent.proofs.finish.is_quiet_behind.Goals as goal

pub returns-in-None : goal.returns-in-None
returns-in-None c = λ t. quiet_by (reverse c.args.entries.now) c.args.uid c.args.place _ _ c.pod.ensures
    (c.place.ensures (reverse c.args.entries.now) c.requires.lasts) (subst (IsUpto c.args.place) (sym c.in-None.is) tt)

pub returns-else-last-place : goal.returns-else-last-place
returns-else-last-place c = λ t. quiet_by (reverse c.args.entries.now) c.args.uid c.args.place _ _ c.pod.ensures (c.place.ensures
    (reverse c.args.entries.now) c.requires.lasts) (subst (IsUpto c.args.place) (sym c.in-Some.is) c.if-last-place.false)
