use Rattle.evidence_pages.proofs.Stripped.{stripped}
use Rattle.std.specs.Prelude.{codes}
use Rattle.evidence_pages.proofs.parts.uid_in.Goals as goal

pub returns : goal.returns
returns c = stripped (codes "pvc-") c.args.name.now c.strip_prefix.result c.strip_prefix.ensures.cases
