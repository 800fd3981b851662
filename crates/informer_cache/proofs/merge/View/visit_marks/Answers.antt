use Rattle.std.proofs.Common.{◌≡◌, inl, inr, subst, arith}
use Rattle.kube_objects.specs.declared.key.Key.{Key}
use Rattle.informer_cache.specs.Marks.{mark_key}
use Rattle.informer_cache.specs.Steps.Views.{sight_of}
use Rattle.informer_cache.specs.Steps.Sights.{Fits}
use Rattle.informer_cache.proofs.Found.{found-take}
use Rattle.informer_cache.proofs.Seen.{goes_further}
use Rattle.informer_cache.proofs.merge.View.visit_marks.Goals as goal

pub loop-mark-preserved : goal.loop-mark-preserved
loop-mark-preserved c = record {
  on = goes_further (sight_of c.args.self.now) _ _ _ c.loop-mark.invariant.on c.in_ok-visit.ensures.on;
  fits = λ k of found. elim (found-take mark_key c.marks-mark-items.result.now c.loop-mark.mark-index c.mark-item.result k (omega (arith, c.loop-mark-test.true)) c.mark-item.is found) [
    | inl seen ↦ c.in_ok-visit.ensures.on.1 k (c.loop-mark.invariant.fits k of seen)
    | inr same ↦ subst (λ (j : Key). j.kind ≡ c.args.self.now.rows.now.kind → Fits (sight_of c.args.self.now) c.visit.new.next j) (same) c.in_ok-visit.ensures.fits of
  ];
}
