use Rattle.std.proofs.Common.{◌∙◌, sym, ap, arith, Some, None, if◌then◌else◌}
use Rattle.kube_objects.specs.Keys.{key_of, same_key}
use Rattle.binder_model.specs.Told.{first_some}
use Rattle.informer_cache.proofs.Found.{find-take}
use Rattle.informer_cache.proofs.merge.sorted.Goals as goal

pub loop-item-preserved : goal.loop-item-preserved
loop-item-preserved c = record {
  rows = c.in_ok-put_first.ensures.rows;
  found = λ k.
      c.in_ok-put_first.ensures.found k
      ∙ ap (λ f. first_some f (if same_key (key_of c.item-item.result) k then Some c.item-item.result else None)) (c.loop-item.invariant.found k)
      ∙ sym (find-take key_of c.args.items.now c.loop-item.item-index c.item-item.result k (omega (arith, c.loop-item-test.true)) c.item-item.is);
}
