-- A new actor of a role: it was told nothing. Each life begins with one.
-- A choice of this project, after the informers and the work queue of a controller in client-go.
use Rattle.std.specs.Prelude.{true, [], None, length}
use Rattle.kube_parts.specs.declared.parts.Kind.{Kind}
use Rattle.kube_parts.specs.declared.parts.Kind.TheVariants as kinds
use Rattle.informer_cache.specs.All.{AllKnown}
use Rattle.informer_cache.specs.Cache.{Known}
use Rattle.sync_queue.specs.Work.{no_work}
use Rattle.worker_core.specs.declared.role.Role.{Role}
use Rattle.worker_core.specs.Memories.{no_memory}
use Rattle.worker_core.specs.Roles.{kinds_of}
use Rattle.worker_core.specs.Stands.{IsNew, StandsFor}
use Rattle.worker_core.specs.States.{ActorState}

-- a cache of the kind that knows nothing
abbrev pub knows_nothing : Kind → Known
knows_nothing kind = record { rows = record { kind = kind; marks = []; objects = [] }; lists = record { whole = None; spaces = [] }; from = None }

-- caches that know nothing
abbrev pub no_caches : AllKnown
no_caches = record {
  classes = knows_nothing kinds.StorageClass;
  nodes = knows_nothing kinds.Node;
  volumes = knows_nothing kinds.PersistentVolume;
  claims = knows_nothing kinds.PersistentVolumeClaim;
  pods = knows_nothing kinds.Pod;
}

-- the state in which a life of the role begins
abbrev pub begun_as : Role → ActorState
begun_as role = record { role = role; caches = no_caches; work = no_work; pass = record { behind = length (kinds_of role.kind); event = true }; memory = no_memory; under = None; given = None }

-- it is new, and stands for no entries
abbrev pub BegunIsNew : Type 0
BegunIsNew = (role : Role) → IsNew role (begun_as role) × StandsFor (begun_as role) []
