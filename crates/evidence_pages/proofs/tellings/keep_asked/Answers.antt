use Rattle.evidence_pages.proofs.Paging.{pages_skip}
use Rattle.evidence_pages.proofs.tellings.keep_asked.Goals as goal

pub returns-in_default : goal.returns-in_default
returns-in_default c = λ mine pages. pages_skip c.args.entry.now mine _ pages
