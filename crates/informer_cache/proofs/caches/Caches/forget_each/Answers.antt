use Rattle.std.proofs.Common.{◌∷◌, subst, sym}
use Rattle.std.proofs.lemmas.Result.{on_ok_weaker}
use Rattle.kube_parts.specs.declared.parts.Kind.TheVariants as kinds
use Rattle.informer_cache.specs.All.{AllKnown, EachStandsFor}
use Rattle.informer_cache.proofs.Stands.{each_stands}
use Rattle.informer_cache.proofs.caches.Caches.forget_each.Goals as goal

pub returns : goal.returns
returns c =
    on_ok_weaker c.forget-5.result (λ stands mine e is all.
    let own = subst (λ (v : AllKnown). EachStandsFor v mine) (sym c.self.view_is) all in
    each_stands _ _ _ _ _ (e ∷ mine) (c.in_ok-forget.ensures.stands mine e is (own kinds.StorageClass))
    (c.in_ok-forget-2.ensures.stands mine e is (own kinds.Node)) (c.in_ok-forget-3.ensures.stands mine e is (own kinds.PersistentVolume))
    (c.in_ok-forget-4.ensures.stands mine e is (own kinds.PersistentVolumeClaim)) (stands mine e is (own kinds.Pod)))
    c.forget-5.ensures.stands
