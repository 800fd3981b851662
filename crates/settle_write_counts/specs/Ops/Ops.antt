-- How many writes the provisioner and reclaimer does in a slot, by the objects with which the slot begins.
-- A choice of this project.
use Rattle.std.specs.Prelude.{ℕ, ◌≤◌, ◌+◌, Bool, false, not, ◌||◌, List, Option, Some, None}
use Rattle.kube_objects.specs.declared.objects.Object.{Object}
use Rattle.kube_objects.specs.declared.objects.Object.TheVariants.{Volume, Claim}
use Rattle.kube_parts.specs.declared.uid.Uid.{Uid}
use Rattle.kube_objects.specs.Bindings.{is_deleting, is_ended}
use Rattle.kube_objects.specs.Keys.{row_at}
use Rattle.call_types.specs.declared.setup.Setup.{Setup}
use Rattle.binder_model.specs.ObjectKeys.{volume_key}
use Rattle.binder_model.specs.Provisioning.{data_name}
use Rattle.binder_model.specs.World.{World}
use Rattle.settle_measure.specs.Left.Measure.{claims_in, faults_left, total, unless, volumes_in}
use Rattle.settle_write_counts.specs.Rounds.Counts.{nodes_in}

-- a volume stands there that has not ended
abbrev pub is_open : Option Object → Bool
is_open (Some (Volume v)) = not (is_ended v.phase)
is_open row = false

-- for the claim of this UID a volume is to be made
abbrev pub to_make : List Object → Option Uid → ℕ
to_make rows None = 0
to_make rows (Some uid) = unless (is_open (row_at (volume_key (data_name uid)) rows)) 1

-- the volume that is to be made for a claim, and the deletion of a volume that has ended and stays
abbrev pub ops_left : List Object → Object → ℕ
ops_left rows (Volume v) = unless (not (is_ended v.phase) || is_deleting v.meta) 1
ops_left rows (Claim c) = to_make rows c.meta.uid
ops_left rows o = 0

-- these, the nodes that may be taken back, and phase Failed for each planned fault that is ahead
abbrev pub ops_writes : Setup → World → ℕ
ops_writes setup w = total (ops_left w.store.rows) w.store.rows + nodes_in w + faults_left setup w.devices

-- it is no more than these, in any world
abbrev pub OpsWritesAreBounded : Type 0
OpsWritesAreBounded = (setup : Setup) (w : World) → ops_writes setup w ≤ claims_in w.store.rows + volumes_in w.store.rows + nodes_in w + faults_left setup w.devices
