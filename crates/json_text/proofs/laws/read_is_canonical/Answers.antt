use Rattle.json_text.proofs.ReadValues.{canonical-read}
use Rattle.json_text.proofs.laws.read_is_canonical.Goals as goal

pub returns : goal.returns
returns c = canonical-read
