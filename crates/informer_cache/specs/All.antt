-- The caches of all kinds, as one look-up: a choice of this project.
use Rattle.std.specs.Prelude.{◌≡◌, List, ◌++◌}
use Rattle.kube_parts.specs.declared.parts.Kind.{Kind}
use Rattle.kube_parts.specs.declared.parts.Kind.TheVariants as kinds
use Rattle.kube_objects.specs.declared.key.Key.{Key}
use Rattle.kube_objects.specs.declared.objects.Object.{Object}
use Rattle.kube_objects.specs.Keys.{row_at}
use Rattle.call_types.specs.declared.entry.Entry.{Entry}
use Rattle.binder_model.specs.Told.{newest, object_of}
use Rattle.informer_cache.specs.Cache.{Known, CacheStandsFor, kind_known, objects_of}

-- the caches of all kinds
pub record AllKnown : Type 0 where
  pub classes : Known
  pub nodes : Known
  pub volumes : Known
  pub claims : Known
  pub pods : Known

-- the cache of a kind
abbrev pub cache_of : Kind → AllKnown → Known
cache_of kinds.StorageClass c = c.classes
cache_of kinds.Node c = c.nodes
cache_of kinds.PersistentVolume c = c.volumes
cache_of kinds.PersistentVolumeClaim c = c.claims
cache_of kinds.Pod c = c.pods

-- each cache is one of its kind
abbrev pub AreCaches : AllKnown → Type 0
AreCaches c = (kind : Kind) → kind_known (cache_of kind c) ≡ kind

-- all objects, in the order of their keys
abbrev pub all_objects : AllKnown → List Object
all_objects c = objects_of c.classes ++ (objects_of c.nodes ++ (objects_of c.volumes ++ (objects_of c.claims ++ objects_of c.pods)))

-- each cache stands for what the seat with these entries was told of its kind
abbrev pub EachStandsFor : AllKnown → List Entry → Type 0
EachStandsFor c mine = (kind : Kind) → CacheStandsFor (cache_of kind c) mine

-- the caches stand for what the seat with these entries was told: each is one of its kind and stands for what was told of
-- it, and among all objects the one of a key is that of the newest told
pub record AllStandFor (c : AllKnown) (mine : List Entry) : Type 0 where
  pub kinds : AreCaches c
  pub each : EachStandsFor c mine
  pub rows : (key : Key) → row_at key (all_objects c) ≡ object_of (newest mine key)
