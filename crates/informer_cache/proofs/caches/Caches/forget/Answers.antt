use Rattle.std.proofs.Common.{◌∷◌}
use Rattle.informer_cache.proofs.Stands.{all_stand}
use Rattle.informer_cache.proofs.caches.Caches.forget.Goals as goal

pub returns : goal.returns
returns c = λ mine e is all. all_stand _ c.stand_together.ensures.kinds c.stand_together.ensures.row (e ∷ mine) (c.in_ok-forget_each.ensures mine e is all.each)
