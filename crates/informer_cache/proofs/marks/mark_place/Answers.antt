use Rattle.kube_objects.proofs.KeyOrder.{key_cmp_total}
use Rattle.informer_cache.specs.Marks.{mark_key}
use Rattle.informer_cache.proofs.Ending.{gap_end}
use Rattle.informer_cache.proofs.marks.mark_place.Goals as goal

pub returns-then-comes_last-clause-gap : goal.returns-then-comes_last-clause-gap
returns-then-comes_last-clause-gap c =
    let past = rw c.if-comes_last.true at c.comes_last.ensures in
    gap_end key_cmp_total mark_key c.args.key.now c.args.marks.now c.requires past
