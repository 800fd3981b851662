use Rattle.licence_record.proofs.Itself.{itself}
use Rattle.licence_record.proofs.whole.as_part.Goals as goal

pub returns-clause-part : goal.returns-clause-part
returns-clause-part c = itself _
