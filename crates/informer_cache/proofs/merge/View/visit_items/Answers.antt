use Rattle.std.proofs.Common.{◌≡◌, inl, inr, ◌∙◌, subst, arith}
use Rattle.kube_objects.specs.declared.key.Key.{Key}
use Rattle.kube_objects.specs.Keys.{key_of}
use Rattle.informer_cache.specs.Steps.Views.{sight_of}
use Rattle.informer_cache.specs.Steps.Sights.{Fits}
use Rattle.informer_cache.proofs.Found.{found-take}
use Rattle.informer_cache.proofs.Seen.{goes_further}
use Rattle.informer_cache.proofs.merge.View.visit_items.Goals as goal

pub loop-item-preserved : goal.loop-item-preserved
loop-item-preserved c = record {
  on = goes_further (sight_of c.args.self.now) _ _ _ c.loop-item.invariant.on c.in_ok-visit.ensures.on;
  fits = λ k of found. elim (found-take key_of c.args.self.now.items.now c.loop-item.item-index c.item-item.result k (omega (arith, c.loop-item-test.true)) c.item-item.is found) [
    | inl seen ↦ c.in_ok-visit.ensures.on.1 k (c.loop-item.invariant.fits k of seen)
    | inr same ↦ subst (λ (j : Key). j.kind ≡ c.args.self.now.rows.now.kind → Fits (sight_of c.args.self.now) c.visit.new.next j) (c.in_ok-key.ensures ∙ same) c.in_ok-visit.ensures.fits of
  ];
}
