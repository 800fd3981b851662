use Rattle.history_text.proofs.EntryFloats.{setup_free}
use Rattle.history_text.proofs.laws.setups_hold_no_float.Goals as goal

pub returns : goal.returns
returns c = setup_free
