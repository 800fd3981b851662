use Rattle.kube_objects.specs.Keys.{key_of}
use Rattle.kube_objects.proofs.KeyOrder.{key_cmp_total}
use Rattle.informer_cache.proofs.Ending.{gap_end}
use Rattle.informer_cache.proofs.rows.object_place.Goals as goal

pub returns-then-comes_last-clause-gap : goal.returns-then-comes_last-clause-gap
returns-then-comes_last-clause-gap c =
    let past = rw c.if-comes_last.true at c.comes_last.ensures in
    gap_end key_cmp_total key_of c.args.key.now c.args.objects.now c.requires past
