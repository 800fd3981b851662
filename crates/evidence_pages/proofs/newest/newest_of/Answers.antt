use Rattle.std.proofs.Common.{sym, ap, subst, ◌∙◌}
use Rattle.kube_objects.specs.Keys.{AreRows, row_at}
use Rattle.informer_cache.specs.Cache.{objects_of}
use Rattle.evidence_pages.specs.Keyed.{key_by}
use Rattle.evidence_pages.proofs.newest.newest_of.Goals as goal

pub row_of-requires : goal.row_of-requires
row_of-requires c = subst AreRows (sym c.objects.ensures.objects) c.objects.ensures.order

pub returns : goal.returns
returns c =
    let key = key_by c.args.key.now in
    c.row_of.ensures ∙ ap (row_at key) (c.objects.ensures.objects ∙ ap objects_of c.cache.ensures.cache) ∙ sym (c.stand_together.ensures.row key)
