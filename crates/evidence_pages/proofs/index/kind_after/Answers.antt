use Rattle.std.proofs.Common.{sym, ◌∙◌}
use Rattle.evidence_pages.proofs.Absorbing.{first_kind, more_kind, some_kind}
use Rattle.evidence_pages.proofs.index.kind_after.Goals as goal

pub returns-then-first : goal.returns-then-first
returns-then-first c = λ mine e own firsts before k is. first_kind mine e c.args.next k own (firsts c.if-first.true) is

pub returns-then-same : goal.returns-then-same
returns-then-same c = λ mine e own firsts before k is. more_kind mine e c.args.next k own (sym (some_kind _ _ is) ∙ c.same.ensures.0 c.if-same.true) (before k (c.in-Some.is ∙ is))
