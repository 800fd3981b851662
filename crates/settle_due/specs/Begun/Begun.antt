-- What a controller begins on the store as it is comes to a call that lasts: no task of it makes reads alone.
-- A choice of this project.
use Rattle.std.specs.Prelude.{ℕ, ◌≡◌, ◌⊎◌, Bool, true, false, List, Some, None}
use Rattle.kube_objects.specs.declared.key.Key.{Key}
use Rattle.kube_objects.specs.declared.objects.Claim.{Claim as ClaimData}
use Rattle.kube_objects.specs.declared.objects.Object.TheVariants.{Claim}
use Rattle.kube_objects.specs.Keys.{row_at}
use Rattle.call_types.specs.declared.entry.Entry.{Entry}
use Rattle.call_types.specs.declared.request.SeatKind.{SeatKind}
use Rattle.call_types.specs.declared.request.SeatKind.TheVariants as seats
use Rattle.call_types.specs.declared.setup.Setup.{Setup}
use Rattle.binder_model.specs.Due.{provision_due}
use Rattle.binder_model.specs.Imports.{ImportsPass}
use Rattle.binder_model.specs.World.{world}
use Rattle.informer_cache.specs.All.{all_objects}
use Rattle.worker_core.specs.declared.role.Role.{Role}
use Rattle.worker_core.specs.declared.task.Under.{Under}
use Rattle.worker_core.specs.States.{ActorState}
use Rattle.worker_core.specs.Tasks.{GivesCall}
use Rattle.actor_rounds.specs.Rounds.{Lets}
use Rattle.settle_slot.specs.Slot.Slots.{IsDecisionPoint, WillLast}
use Rattle.settle_slot.specs.Slot.Would.{CallsPass, WouldLast}

-- whatever the actor begins, where it sees the store as it is, makes a call that lasts, if its calls reach the world
abbrev pub DecisionsLast : Setup → ℕ → Role → Type 0
DecisionsLast setup seat role =
    (start : List Entry) (s : ActorState) (h : List Entry) (u : Under) → IsDecisionPoint setup seat role start s h
    → GivesCall s.role s.memory (all_objects s.caches) u → WouldLast setup seat role.kind start h u

-- volume protection
abbrev pub VolumeGuardsLast : Type 0
VolumeGuardsLast = (setup : Setup) (seat : ℕ) (role : Role) → ImportsPass setup.imports → role.kind ≡ seats.VolumeProtect → DecisionsLast setup seat role

-- claim protection
abbrev pub ClaimGuardsLast : Type 0
ClaimGuardsLast = (setup : Setup) (seat : ℕ) (role : Role) → ImportsPass setup.imports → role.kind ≡ seats.ClaimProtect → DecisionsLast setup seat role

-- the binder, on volumes and on claims
abbrev pub BindingLasts : Type 0
BindingLasts = (setup : Setup) (seat : ℕ) (role : Role) → ImportsPass setup.imports → role.kind ≡ seats.Binder → DecisionsLast setup seat role

-- the scheduler
abbrev pub SchedulingLasts : Type 0
SchedulingLasts = (setup : Setup) (seat : ℕ) (role : Role) → ImportsPass setup.imports → role.kind ≡ seats.Scheduler → DecisionsLast setup seat role

-- a claim stands under the key for which nothing is due of provisioning: as where its class binds at once and no pool has room for it,
-- or where a volume stands that has the name which its own would get
pub record IsOfNoneDue (setup : Setup) (h : List Entry) (key : Key) : Type 0 where
  pub claim : ClaimData
  pub there : row_at key (world setup h).store.rows ≡ Some (Claim claim)
  pub none : provision_due setup (world setup h) claim ≡ None

-- the provisioner and reclaimer, but for such a claim: it asks the back end all the same, and then may write nothing
abbrev pub OpsLast : Type 0
OpsLast =
    (setup : Setup) (seat : ℕ) (role : Role) (start : List Entry) (s : ActorState) (h : List Entry) (u : Under) → ImportsPass setup.imports
    → role.kind ≡ seats.Ops → IsDecisionPoint setup seat role start s h
    → GivesCall s.role s.memory (all_objects s.caches) u → WouldLast setup seat role.kind start h u ⊎ IsOfNoneDue setup h u.key

-- the controllers of which it holds without such an exception
abbrev pub begins_to_last : SeatKind → Bool
begins_to_last seats.Binder = true
begins_to_last seats.Scheduler = true
begins_to_last seats.ClaimProtect = true
begins_to_last seats.VolumeProtect = true
begins_to_last kind = false

-- so where the calls for the key pass, what such a controller begins for it makes a call that lasts
abbrev pub BegunIsLasting : Type 0
BegunIsLasting =
    (setup : Setup) (lets : Lets) (seat : ℕ) (role : Role) (start : List Entry) (s : ActorState) (h : List Entry) (u : Under) → ImportsPass setup.imports → begins_to_last role.kind ≡ true
    → CallsPass setup lets seat role start u.key → IsDecisionPoint setup seat role start s h → GivesCall s.role s.memory (all_objects s.caches) u → WillLast setup lets seat role.kind h u
