-- What an agent remembers of the mounts of its node, and what the devices have there. The newest entry of a history stands first.
-- A choice of this project, after the volume manager of kubelet, which keeps what it mounted.
use Rattle.std.specs.Prelude.{ℕ, ◌≡◌, ◌⊎◌, Bool, true, false, List, [], ◌∷◌, Some, ⊤}
use Rattle.kube_parts.specs.declared.uid.Uid.{Uid}
use Rattle.call_types.specs.declared.entry.Entry.{Entry}
use Rattle.call_types.specs.declared.reply.MountRow.{MountRow}
use Rattle.call_types.specs.declared.request.Request.{Request}
use Rattle.call_types.specs.declared.request.Request.TheVariants as requests
use Rattle.call_types.specs.declared.setup.Setup.{Setup}
use Rattle.binder_model.specs.AgentLicence.{has_row, is_mount_of}
use Rattle.binder_model.specs.Devices.{MountAt, is_mounted_on, rows_on}
use Rattle.binder_model.specs.Promises.{IsRunOf}
use Rattle.binder_model.specs.Same.{same_uid}
use Rattle.binder_model.specs.Told.{SomeOf, own}
use Rattle.binder_model.specs.World.{world}
use Rattle.safety_law.specs.Invariant.Holders.{Holds}
use Rattle.worker_core.specs.Memories.{memory_of}
use Rattle.actor_rounds.specs.Drainers.{agent_of}

-- the request asks to unmount the pod with this UID
abbrev pub is_unmount_of : Uid → Request → Bool
is_unmount_of pod (requests.Unmount node epoch p) = same_uid p pod
is_unmount_of pod request = false

-- one of the calls asked for it, and its answer did not reach the seat
abbrev pub WasLost : (Request → Bool) → List Entry → Type 0
WasLost asks mine = SomeOf (λ e. (e.told ≡ false) × (asks e.request ≡ true)) mine

-- each answer reached the seat
abbrev pub AreTold : List Entry → Type 0
AreTold [] = ⊤
AreTold (e ∷ mine) = (e.told ≡ true) × AreTold mine

-- A pod that is remembered as mounted is mounted, unless the answer to an Unmount of it was lost; and a mounted pod is remembered,
-- unless the answer to a Mount of it was. Where no answer was lost, the rows that are remembered are those of the devices
pub record AreRemembered (node : List ℕ) (mounts : List MountAt) (rows : List MountRow) (mine : List Entry) : Type 0 where
  pub mounted : (pod : Uid) → has_row pod rows ≡ true → (is_mounted_on node pod mounts ≡ true) ⊎ WasLost (is_unmount_of pod) mine
  pub remembered : (pod : Uid) → is_mounted_on node pod mounts ≡ true → (has_row pod rows ≡ true) ⊎ WasLost (is_mount_of pod) mine
  pub whole : AreTold mine → rows ≡ rows_on node mounts

-- in a run, as long as the epoch of the seat is the node's
abbrev pub MountsAreRemembered : Type 0
MountsAreRemembered =
    (setup : Setup) (past : List Entry) (seat : ℕ) (node : List ℕ) (rows : List MountRow) → IsRunOf setup past → Holds setup past node seat
    → (memory_of (agent_of node) (own seat past)).mounts ≡ Some rows
    → AreRemembered node (world setup past).devices.mounts rows (own seat past)
