use Rattle.history_text.proofs.EntryFloats.{entry_free}
use Rattle.history_text.proofs.laws.entries_hold_no_float.Goals as goal

pub returns : goal.returns
returns c = entry_free
