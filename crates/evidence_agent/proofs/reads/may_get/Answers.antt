use Rattle.std.proofs.Common.{inl, inr, reverse}
use Rattle.evidence_agent.proofs.reads.may_get.Goals as goal

pub returns-then-was_found_naming : goal.returns-then-was_found_naming
returns-then-was_found_naming c = λ t. inr (c.was_found_naming.ensures c.if-was_found_naming.true)

pub returns-then-is_named : goal.returns-then-is_named
returns-then-is_named c = λ t. inl (c.is_named.ensures (c.about-last.ensures (reverse c.args.entries.now) c.requires.pages) c.if-is_named.true)

pub returns : goal.returns
returns c = λ t. inl (c.is_named-2.ensures (c.about-page.ensures (reverse c.args.entries.now) c.requires.pages) t)
