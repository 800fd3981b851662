use Rattle.evidence_pages.proofs.Paging.{pages_skip}
use Rattle.evidence_pages.proofs.tellings.learn.Goals as goal

pub returns-then-not-entry : goal.returns-then-not-entry
returns-then-not-entry c = λ mine pages. pages_skip c.args.entry.now mine _ pages
