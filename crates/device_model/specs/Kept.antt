-- What the devices keep, as the lists of the definitions, and the one change that a call makes.
-- A choice of this project.
use Rattle.std.specs.Prelude.{ℕ, ◌+◌, Bool, true, false, List, [], ◌∷◌, ◌++◌, map, length, if◌then◌else◌}
use Rattle.plain_data.specs.Pairs.{text_cmp}
use Rattle.plain_data.specs.Rows.{IsRising, IsAt, IsGap}
use Rattle.call_types.specs.declared.setup.Setup.{Setup}
use Rattle.call_types.specs.declared.request.Request.{Request}
use Rattle.call_types.specs.declared.request.Request.TheVariants.{Provision, Erase, TakeNode, Mounts, Mount, Unmount}
use Rattle.call_types.specs.declared.reply.MountRow.{MountRow}
use Rattle.call_types.specs.declared.reply.Reply.{Reply}
use Rattle.binder_model.specs.Devices.{Data, MountAt, Devices, DeviceAnswer, epoch_of, data_after_erase, put_mount, without_mount}
use Rattle.device_model.specs.declared.kept.StoredData.{StoredData}
use Rattle.device_model.specs.declared.devices.DeviceCounts.{DeviceCounts}
use Rattle.device_model.specs.declared.mounts.NodeRows.{NodeRows}
use Rattle.device_model.specs.declared.devices.Move.{Move}
use Rattle.device_model.specs.declared.devices.Move.TheVariants as moves

-- the devices with what they began with
pub record State : Type 0 where
  pub setup : Setup
  pub devices : Devices

-- data as the definitions have them
abbrev pub stored_data : StoredData → Data
stored_data x = record { id = x.id; name = x.name; pool = x.pool; bytes = x.bytes; there = x.there }

-- the nodes in the order of their names, none twice

-- the name of a node that has mounts
abbrev pub node_name : NodeRows → List ℕ
node_name n = n.node

-- nodes in the order of their names, each once
abbrev pub AreNodes : List NodeRows → Type 0
AreNodes ns = IsRising text_cmp node_name ns

-- the node stands at this place
abbrev pub IsNodeAt : List NodeRows → List ℕ → ℕ → Type 0
IsNodeAt ns node i = IsAt text_cmp node_name node ns i

-- the node is not there, and would stand at this place
abbrev pub IsNodeGap : List NodeRows → List ℕ → ℕ → Type 0
IsNodeGap ns node i = IsGap text_cmp node_name node ns i

-- a mount of this node
abbrev pub mount_at : List ℕ → MountRow → MountAt
mount_at node row = record { node = node; row = row }

-- the rows of all nodes, one node after the other
abbrev pub mounts_of : List NodeRows → List MountAt
mounts_of [] = []
mounts_of (n ∷ ns) = map (mount_at n.node) n.rows.items ++ mounts_of ns

-- the requests that devices answer
abbrev pub is_for_devices : Request → Bool
is_for_devices (Provision name provisioner bytes labels) = true
is_for_devices (Erase id) = true
is_for_devices (TakeNode node) = true
is_for_devices (Mounts node epoch) = true
is_for_devices (Mount node epoch pod claims) = true
is_for_devices (Unmount node epoch pod) = true
is_for_devices _ = false

-- the request goes to the back end that keeps data
abbrev pub is_for_back_end : Request → Bool
is_for_back_end (Provision name provisioner bytes labels) = true
is_for_back_end (Erase id) = true
is_for_back_end _ = false

-- the request goes to the mounts of a node
abbrev pub is_for_mounts : Request → Bool
is_for_mounts (Mounts node epoch) = true
is_for_mounts (Mount node epoch pod claims) = true
is_for_mounts (Unmount node epoch pod) = true
is_for_mounts _ = false

-- the epoch above which a TakeNode takes the next
abbrev pub taken_epoch : Devices → Request → ℕ
taken_epoch d (TakeNode node) = epoch_of node d.epochs
taken_epoch d _ = 0

-- how many of the data are there
abbrev pub count_there : List Data → ℕ
count_there [] = 0
count_there (x ∷ xs) = if x.there then 1 + count_there xs else count_there xs

-- how many mounts, data and calls there are
abbrev pub counts : Devices → DeviceCounts
counts d = record { mounted = length d.mounts; stored = count_there d.stored; calls = d.calls }

-- the devices after one more call
abbrev pub counted : Devices → Devices
counted d = record d { calls = d.calls + 1 }

-- the devices after a change
abbrev pub after : Devices → Move → Devices
after d moves.Stays = d
after d moves.Counts = counted d
after d (moves.Gives x) = counted (record d { stored = stored_data x ∷ d.stored })
after d (moves.Erases id) = counted (record d { stored = data_after_erase id d.stored })
after d (moves.Takes node epoch) = record d { epochs = (node, epoch) ∷ d.epochs }
after d (moves.Mounts node row) = record d { mounts = put_mount (mount_at node row) d.mounts }
after d (moves.Unmounts node pod) = record d { mounts = without_mount node pod d.mounts }

-- an answer and its change
abbrev pub answer_after : Devices → Move → Reply → DeviceAnswer
answer_after d move reply = record { devices = after d move; reply = reply }
