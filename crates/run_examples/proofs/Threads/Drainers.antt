-- New actors of a drain.
use Rattle.std.proofs.Common.{◌≡◌, ℕ, ◌+◌, List, [], ◌∷◌, length, true, None, refl}
use Rattle.kube_parts.specs.declared.parts.Kind.{Kind}
use Rattle.kube_parts.specs.declared.parts.Kind.TheVariants as kinds
use Rattle.call_types.specs.declared.request.SeatKind.{SeatKind}
use Rattle.call_types.specs.declared.request.SeatKind.TheVariants as seats
use Rattle.informer_cache.specs.Cache.{Known, CacheStandsFor, kind_known}
use Rattle.informer_cache.specs.All.{AllKnown, AllStandFor, cache_of}
use Rattle.sync_queue.specs.Work.{no_work}
use Rattle.worker_core.specs.declared.role.Role.{Role}
use Rattle.worker_core.specs.Memories.{no_memory}
use Rattle.worker_core.specs.Roles.{kinds_of}
use Rattle.worker_core.specs.Stands.{IsNew}
use Rattle.worker_core.specs.States.{ActorState}
use Rattle.worker_core.proofs.Begins.{begins}
use Rattle.actor_rounds.specs.declared.drainers.Drainer.{Drainer}
use Rattle.actor_rounds.specs.Drainers.{AreNew, IsNewAt, agent_of, of_kind}

abbrev nothing_of : Kind → Known
nothing_of kind = record { rows = record { kind = kind; marks = []; objects = [] }; lists = record { whole = None; spaces = [] }; from = None }

abbrev no_caches : AllKnown
no_caches = record {
  classes = nothing_of kinds.StorageClass;
  nodes = nothing_of kinds.Node;
  volumes = nothing_of kinds.PersistentVolume;
  claims = nothing_of kinds.PersistentVolumeClaim;
  pods = nothing_of kinds.Pod;
}

nothing_told : (kind : Kind) → CacheStandsFor (nothing_of kind) []
nothing_told kind = record { known = λ key own. refl; rows = λ key own. refl; from = refl }

no_caches_stand : AllStandFor no_caches []
no_caches_stand = record { kinds = kind_is; each = each; rows = λ key. refl }
  where
    kind_is : (kind : Kind) → kind_known (cache_of kind no_caches) ≡ kind
    kind_is kinds.StorageClass = refl
    kind_is kinds.Node = refl
    kind_is kinds.PersistentVolume = refl
    kind_is kinds.PersistentVolumeClaim = refl
    kind_is kinds.Pod = refl

    each : (kind : Kind) → CacheStandsFor (cache_of kind no_caches) []
    each kinds.StorageClass = nothing_told kinds.StorageClass
    each kinds.Node = nothing_told kinds.Node
    each kinds.PersistentVolume = nothing_told kinds.PersistentVolume
    each kinds.PersistentVolumeClaim = nothing_told kinds.PersistentVolumeClaim
    each kinds.Pod = nothing_told kinds.Pod

abbrev begun_as : Role → ActorState
begun_as role = record { role = role; caches = no_caches; work = no_work; pass = record { behind = length (kinds_of role.kind); event = true }; memory = no_memory; under = None; given = None }

begun_new : (role : Role) → IsNew role (begun_as role)
begun_new role = record { is = refl; caches = no_caches_stand; work = refl; pass = refl; memory = refl; under = refl; given = refl }

abbrev at_seat : Role → ℕ → Drainer
at_seat role seat = record { seat = seat; actor = begun_as role }

new_at : (kind : SeatKind) (node : List ℕ) (seat : ℕ) → IsNewAt kind node seat (at_seat (record { kind = kind; node = node }) seat)
new_at kind node seat = record {
  at = refl;
  is_new = begun_new (record { kind = kind; node = node });
  stands = begins
      (record { kind = kind; node = node }) (begun_as (record { kind = kind; node = node })) (begun_new (record { kind = kind; node = node }));
}

-- those of a drain with one node, whose first seat is this one

abbrev pub drainers : ℕ → List ℕ → List Drainer
drainers first node =
    at_seat (of_kind seats.Scheduler) (first + 2) ∷ at_seat (of_kind seats.Ops) (first + 1) ∷ at_seat (of_kind seats.Binder) first
    ∷ at_seat (of_kind seats.ClaimProtect) (first + 3) ∷ at_seat (of_kind seats.VolumeProtect) (first + 4) ∷ at_seat (agent_of node) (first + 5) ∷ []

pub drainers_new : (first : ℕ) (node : List ℕ) → AreNew first (node ∷ []) (drainers first node)
drainers_new first node = record {
  scheduler = at_seat (of_kind seats.Scheduler) (first + 2);
  ops = at_seat (of_kind seats.Ops) (first + 1);
  binder = at_seat (of_kind seats.Binder) first;
  claims = at_seat (of_kind seats.ClaimProtect) (first + 3);
  volumes = at_seat (of_kind seats.VolumeProtect) (first + 4);
  agents = at_seat (agent_of node) (first + 5) ∷ [];
  are = refl;
  scheduler_is = new_at seats.Scheduler [] (first + 2);
  ops_is = new_at seats.Ops [] (first + 1);
  binder_is = new_at seats.Binder [] first;
  claims_is = new_at seats.ClaimProtect [] (first + 3);
  volumes_is = new_at seats.VolumeProtect [] (first + 4);
  agents_are = (new_at seats.Agent node (first + 5), refl);
}
