use Rattle.informer_cache.proofs.Stands.{quiet_stands, untold_quiet}
use Rattle.informer_cache.proofs.cache.quiet_entries.Goals as goal

pub returns-clause-quiet : goal.returns-clause-quiet
returns-clause-quiet c = quiet_stands

pub returns-clause-untold : goal.returns-clause-untold
returns-clause-untold c = untold_quiet
