use Rattle.std.proofs.Common.{◌≡◌, refl, ◌∙◌, ap, subst}
use Rattle.kube_parts.specs.declared.parts.Kind.{Kind}
use Rattle.kube_parts.specs.declared.parts.Kind.TheVariants as kinds
use Rattle.kube_objects.specs.Keys.{row_at}
use Rattle.informer_cache.specs.Cache.{objects_of}
use Rattle.informer_cache.specs.All.{AllKnown, AreCaches, cache_of}
use Rattle.informer_cache.proofs.Together.{list_of, own_row, own_rows, together}
use Rattle.informer_cache.proofs.caches.Caches.stand_together.Goals as goal

lists_are : (all : AllKnown) (kind : Kind)
    → list_of (objects_of all.classes) (objects_of all.nodes) (objects_of all.volumes) (objects_of all.claims) (objects_of all.pods) kind ≡ objects_of (cache_of kind all)
lists_are all kinds.StorageClass = refl
lists_are all kinds.Node = refl
lists_are all kinds.PersistentVolume = refl
lists_are all kinds.PersistentVolumeClaim = refl
lists_are all kinds.Pod = refl

pub returns-clause-kinds : goal.returns-clause-kinds
returns-clause-kinds c = subst (λ (all : AllKnown). AreCaches all) c.self.view_is c.self.invariant

pub returns-clause-order : goal.returns-clause-order
returns-clause-order c = together _ _ _ _ _ c.objects.ensures.order c.objects-2.ensures.order c.objects-3.ensures.order c.objects-4.ensures.order
    c.objects-5.ensures.order c.objects.ensures.kind c.objects-2.ensures.kind c.objects-3.ensures.kind c.objects-4.ensures.kind c.objects-5.ensures.kind

pub returns-clause-rows : goal.returns-clause-rows
returns-clause-rows c = λ kind. own_rows _ _ _ _ _ c.objects.ensures.order c.objects-2.ensures.order c.objects-3.ensures.order
    c.objects-4.ensures.order c.objects-5.ensures.order c.objects.ensures.kind c.objects-2.ensures.kind c.objects-3.ensures.kind
    c.objects-4.ensures.kind c.objects-5.ensures.kind kind ∙ lists_are c.args.self.now kind

pub returns-clause-row : goal.returns-clause-row
returns-clause-row c = λ key. own_row _ _ _ _ _ c.objects.ensures.order c.objects-2.ensures.order c.objects-3.ensures.order c.objects-4.ensures.order
    c.objects-5.ensures.order c.objects.ensures.kind c.objects-2.ensures.kind c.objects-3.ensures.kind c.objects-4.ensures.kind
    c.objects-5.ensures.kind key ∙ ap (row_at key) (lists_are c.args.self.now key.kind)
