use Rattle.model_laws.proofs.Readings.{lists_tell_what_stands}
use Rattle.model_laws.proofs.lists_tell_what_stands.Goals as goal

pub returns : goal.returns
returns c = lists_tell_what_stands
