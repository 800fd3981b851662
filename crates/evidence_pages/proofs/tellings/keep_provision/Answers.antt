use Rattle.evidence_pages.proofs.Paging.{pages_skip}
use Rattle.evidence_pages.proofs.tellings.keep_provision.Goals as goal

pub returns-in-None : goal.returns-in-None
returns-in-None c = λ mine pages. pages_skip c.args.entry.now mine _ pages
