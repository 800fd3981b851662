use Rattle.model_laws.proofs.Watched.{watches_tell_what_came_after}
use Rattle.model_laws.proofs.watches_tell_what_came_after.Goals as goal

pub returns : goal.returns
returns c = watches_tell_what_came_after
