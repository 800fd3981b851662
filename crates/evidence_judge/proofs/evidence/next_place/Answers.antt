use Rattle.std.proofs.lemmas.List.{length-reverse}
use Rattle.evidence_judge.proofs.evidence.next_place.Goals as goal

pub returns : goal.returns
returns c = length-reverse c.args.entries.now
