use Rattle.model_laws.proofs.Readings.{gets_tell_what_stands}
use Rattle.model_laws.proofs.gets_tell_what_stands.Goals as goal

pub returns : goal.returns
returns c = gets_tell_what_stands
