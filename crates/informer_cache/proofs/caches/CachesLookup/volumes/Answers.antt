use Rattle.std.proofs.Common.{List, IfSome, ◌∙◌, ap, subst, sym}
use Rattle.std.specs.Option.{option_copied}
use Rattle.kube_parts.specs.declared.parts.Kind.TheVariants as kinds
use Rattle.kube_objects.specs.declared.objects.Volume.{Volume}
use Rattle.volume_index.specs.VolumeIndex.{StandsFor, volumes_in}
use Rattle.volume_index.proofs.RowVolumes.{volumes_of_kind}
use Rattle.informer_cache.specs.Cache.{objects_of}
use Rattle.informer_cache.specs.All.{AllKnown, all_objects}
use Rattle.informer_cache.proofs.caches.CachesLookup.volumes.Goals as goal

-- the volumes among all objects are those of the cache of volumes
pub returns : goal.returns
returns c =
    let all = c.args.self.now in
    let same = ap (λ (a : AllKnown). volumes_in (objects_of a.volumes)) c.self.view_is
    ∙ sym (ap volumes_in (c.stand_together.ensures.rows kinds.PersistentVolume)) ∙ volumes_of_kind (all_objects all) in
    subst (λ (vs : List Volume). IfSome (option_copied c.volumes.result) (λ index. StandsFor index vs)) same c.volumes.ensures
