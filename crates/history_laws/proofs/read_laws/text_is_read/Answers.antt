use Rattle.history_laws.proofs.Read.TextsRead.{text_is_read}
use Rattle.history_laws.proofs.read_laws.text_is_read.Goals as goal

pub returns : goal.returns
returns c = text_is_read
