-- A new actor of each role there is.
use Rattle.std.proofs.Common.{◌≡◌, [], refl}
use Rattle.kube_parts.specs.declared.parts.Kind.{Kind}
use Rattle.kube_parts.specs.declared.parts.Kind.TheVariants as kinds
use Rattle.informer_cache.specs.Cache.{CacheStandsFor, kind_known}
use Rattle.informer_cache.specs.All.{AllStandFor, cache_of}
use Rattle.worker_core.specs.declared.role.Role.{Role}
use Rattle.worker_core.specs.Stands.{IsNew, StandsFor}
use Rattle.worker_core.proofs.Begins.{begins}
use Rattle.attention_law.specs.Begun.{BegunIsNew, begun_as, knows_nothing, no_caches}

nothing_told : (kind : Kind) → CacheStandsFor (knows_nothing kind) []
nothing_told kind = record { known = λ key own. refl; rows = λ key own. refl; from = refl }

no_caches_stand : AllStandFor no_caches []
no_caches_stand = record { kinds = kind_is; each = each; rows = λ key. refl }
  where
    kind_is : (kind : Kind) → kind_known (cache_of kind no_caches) ≡ kind
    kind_is kinds.StorageClass = refl
    kind_is kinds.Node = refl
    kind_is kinds.PersistentVolume = refl
    kind_is kinds.PersistentVolumeClaim = refl
    kind_is kinds.Pod = refl

    each : (kind : Kind) → CacheStandsFor (cache_of kind no_caches) []
    each kinds.StorageClass = nothing_told kinds.StorageClass
    each kinds.Node = nothing_told kinds.Node
    each kinds.PersistentVolume = nothing_told kinds.PersistentVolume
    each kinds.PersistentVolumeClaim = nothing_told kinds.PersistentVolumeClaim
    each kinds.Pod = nothing_told kinds.Pod

pub begun_new : (role : Role) → IsNew role (begun_as role)
begun_new role = record { is = refl; caches = no_caches_stand; work = refl; pass = refl; memory = refl; under = refl; given = refl }

pub begun_stands : (role : Role) → StandsFor (begun_as role) []
begun_stands role = begins role (begun_as role) (begun_new role)

pub begun_is_new : BegunIsNew
begun_is_new role = (begun_new role, begun_stands role)
