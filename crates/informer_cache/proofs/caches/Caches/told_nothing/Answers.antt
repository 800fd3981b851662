use Rattle.std.proofs.Common.{[]}
use Rattle.informer_cache.proofs.Stands.{all_stand}
use Rattle.informer_cache.proofs.caches.Caches.told_nothing.Goals as goal

pub returns : goal.returns
returns c = all_stand _ c.stand_together.ensures.kinds c.stand_together.ensures.row [] c.empty-caches.ensures
