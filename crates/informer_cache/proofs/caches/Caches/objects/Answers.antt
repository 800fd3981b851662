use Rattle.std.proofs.Common.{◌∙◌, ap, subst}
use Rattle.kube_objects.specs.Keys.{AreRows}
use Rattle.informer_cache.specs.Cache.{Known, objects_of}
use Rattle.informer_cache.specs.Knowledge.{AreOfKind}
use Rattle.informer_cache.proofs.caches.Caches.objects.Goals as goal

pub returns-clause-objects : goal.returns-clause-objects
returns-clause-objects c = c.objects.ensures.objects ∙ ap objects_of c.cache.ensures.cache

pub returns-clause-order : goal.returns-clause-order
returns-clause-order c = subst (λ (k : Known). AreRows (objects_of k)) c.cache.ensures.cache c.objects.ensures.order

pub returns-clause-kind : goal.returns-clause-kind
returns-clause-kind c = subst (λ (k : Known). AreOfKind c.args.kind (objects_of k)) c.cache.ensures.cache (rw c.cache.ensures.kind at c.objects.ensures.kind)
