-- The devices: data on back ends, the epochs of nodes, and what is mounted there. They stand for real drivers and
-- mounts, a choice of this project. The newest data stand first.
use Rattle.std.specs.Prelude.{
  ℕ,
  ◌+◌,
  ◌-◌,
  ◌==◌,
  nat_le,
  max,
  Bool,
  true,
  false,
  not,
  ◌&&◌,
  List,
  [],
  ◌∷◌,
  ◌++◌,
  Option,
  Some,
  None,
  bytes_eq,
  codes,
  decimal,
  is_some,
  length,
  filter,
  map,
  if◌then◌else◌,
}
use Rattle.std.specs.List.{list_any}
use Rattle.std.specs.Ordering.{is_gt}
use Rattle.plain_data.specs.Pairs.{Pair, text_cmp, value_at}
use Rattle.kube_parts.specs.declared.uid.Uid.{Uid}
use Rattle.kube_objects.specs.declared.objects.DataId.{DataId}
use Rattle.call_types.specs.declared.setup.Pool.{Pool}
use Rattle.call_types.specs.declared.setup.Setup.{Setup}
use Rattle.call_types.specs.declared.request.Request.{Request}
use Rattle.call_types.specs.declared.request.Request.TheVariants.{Provision, Erase, TakeNode, Mounts, Mount, Unmount}
use Rattle.call_types.specs.declared.reply.MountRow.{MountRow}
use Rattle.call_types.specs.declared.reply.Refusal.TheVariants.{Exhausted, BackFault, StaleEpoch}
use Rattle.call_types.specs.declared.reply.Reply.{Reply}
use Rattle.call_types.specs.declared.reply.Reply.TheVariants.{Provisioned, Erased, Epoch, Mounted, Refused}
use Rattle.binder_model.specs.Same.{same_uid}

-- data that a pool gave, there until they are erased. A pool is known by its place
pub record Data : Type 0 where
  pub id : DataId
  pub name : List ℕ
  pub pool : ℕ
  pub bytes : ℕ
  pub there : Bool

-- a pod on a node
pub record MountAt : Type 0 where
  pub node : List ℕ
  pub row : MountRow

-- `epochs` begins with the last that was taken; `mounts` stand by node, in the order of texts, and on a node in the
-- order of mounting; `calls` counts the Provision and Erase calls
pub record Devices : Type 0 where
  pub stored : List Data
  pub epochs : List (List ℕ × ℕ)
  pub mounts : List MountAt
  pub calls : ℕ

-- the devices with which each world begins: no data, no epochs, no mounts
abbrev pub no_devices : Devices
no_devices = record { stored = []; epochs = []; mounts = []; calls = 0 }

-- what the devices answer, and what they then are
pub record DeviceAnswer : Type 0 where
  pub devices : Devices
  pub reply : Reply

-- epochs

-- the last epoch of the node, 0 before the first
abbrev pub epoch_of : List ℕ → List (List ℕ × ℕ) → ℕ
epoch_of node [] = 0
epoch_of node (e ∷ es) = if bytes_eq e.0 node then e.1 else epoch_of node es

-- the node's current epoch, where the given one is another
abbrev pub epoch_if_stale : Devices → List ℕ → ℕ → Option ℕ
epoch_if_stale d node given = if given == epoch_of node d.epochs then None else Some (epoch_of node d.epochs)

-- mounts

-- the rows of a node, in the order of mounting
abbrev pub rows_on : List ℕ → List MountAt → List MountRow
rows_on node [] = []
rows_on node (m ∷ ms) = if bytes_eq m.node node then m.row ∷ rows_on node ms else rows_on node ms

-- the pod is mounted on the node
abbrev pub is_mounted_on : List ℕ → Uid → List MountAt → Bool
is_mounted_on node pod mounts = list_any (λ r. same_uid r.pod pod) (rows_on node mounts)

-- the row's node is not after this one, in the order of texts
abbrev pub is_up_to : List ℕ → MountAt → Bool
is_up_to node m = not (is_gt (text_cmp m.node node))

-- the new row stands behind the rows of its node and of the nodes before it
abbrev pub put_mount : MountAt → List MountAt → List MountAt
put_mount new mounts = filter (is_up_to new.node) mounts ++ new ∷ filter (λ m. not (is_up_to new.node m)) mounts

-- a pod that is mounted stays as it is
abbrev pub with_mount : List ℕ → Uid → List Uid → List MountAt → List MountAt
with_mount node pod claims mounts =
    if is_mounted_on node pod mounts then mounts else put_mount (record { node = node; row = record { pod = pod; claims = claims } }) mounts

-- the mounts without this pod on this node
abbrev pub without_mount : List ℕ → Uid → List MountAt → List MountAt
without_mount node pod mounts = filter (λ m. not (bytes_eq m.node node && same_uid m.row.pod pod)) mounts

-- pools and data

-- there is a text, and it is the wanted one
abbrev pub is_text : Option (List ℕ) → List ℕ → Bool
is_text None wanted = false
is_text (Some text) wanted = bytes_eq text wanted

-- a pool serves a node that has its label, and every request where it has none or where no node is given
abbrev pub serves : Option (List ℕ × List ℕ) → Option (List Pair) → Bool
serves None labels = true
serves (Some pair) None = true
serves (Some pair) (Some labels) = is_text (value_at pair.0 labels) pair.1

-- the bytes that a pool has given away
abbrev pub used_bytes : ℕ → List Data → ℕ
used_bytes place [] = 0
used_bytes place (x ∷ xs) = if x.there && x.pool == place then x.bytes + used_bytes place xs else used_bytes place xs

-- the bytes that a pool can still give
abbrev pub free_bytes : Pool → ℕ → List Data → ℕ
free_bytes pool place stored = pool.bytes - used_bytes place stored

-- the pool is of this provisioner and serves
abbrev pub would_serve : List ℕ → Option (List Pair) → Pool → Bool
would_serve provisioner labels pool = bytes_eq pool.provisioner provisioner && serves pool.topology labels

-- the place of the first pool that would serve and has the bytes free; the pools here begin at a place
abbrev pub first_fit : List ℕ → ℕ → Option (List Pair) → List Data → ℕ → List Pool → Option ℕ
first_fit provisioner bytes labels stored place [] = None
first_fit provisioner bytes labels stored place (pool ∷ pools) =
    if would_serve provisioner labels pool && nat_le bytes (free_bytes pool place stored) then Some place
    else first_fit provisioner bytes labels stored (place + 1) pools

-- the greatest number of free bytes of a pool that would serve, or 0
abbrev pub most_free : List ℕ → Option (List Pair) → List Data → ℕ → List Pool → ℕ
most_free provisioner labels stored place [] = 0
most_free provisioner labels stored place (pool ∷ pools) =
    if would_serve provisioner labels pool then max (free_bytes pool place stored) (most_free provisioner labels stored (place + 1) pools)
    else most_free provisioner labels stored (place + 1) pools

-- the label of the nodes that the pool at this place serves, or none where it serves all
abbrev pub topology_at : ℕ → List Pool → Option (List ℕ × List ℕ)
topology_at place [] = None
topology_at place (pool ∷ pools) = if place == 0 then pool.topology else topology_at (place - 1) pools

-- the data of this name that are there
abbrev pub data_named : List ℕ → List Data → Option Data
data_named name [] = None
data_named name (x ∷ xs) = if x.there && bytes_eq x.name name then Some x else data_named name xs

-- two data ids are one: the same driver and the same handle
abbrev pub same_id : DataId → DataId → Bool
same_id a b = bytes_eq a.driver b.driver && bytes_eq a.id b.id

-- the data of this id are there
abbrev pub has_id : DataId → List Data → Bool
has_id id stored = list_any (λ x. x.there && same_id x.id id) stored

-- erased, and not there any more
abbrev pub erase_one : DataId → Data → Data
erase_one id x = if same_id x.id id then record x { there = false } else x

-- all data that were ever given, after those of this id were erased
abbrev pub data_after_erase : DataId → List Data → List Data
data_after_erase id stored = map (erase_one id) stored

-- each data id is given once: data-1, data-2 and so on
abbrev pub fresh_id : List ℕ → List Data → DataId
fresh_id provisioner stored = record { driver = provisioner; id = codes "data-" ++ decimal (length stored + 1) }

-- the call of this number is one that the setup lets fail
abbrev pub is_planned : ℕ → List ℕ → Bool
is_planned call faults = list_any (λ f. f == call) faults

-- a Provision or Erase call that answers so
abbrev pub after_call : Devices → Reply → DeviceAnswer
after_call d reply = record { devices = record d { calls = d.calls + 1 }; reply = reply }

-- new data in the pool that was found; without one the answer says how many bytes such a pool has free at most
unfoldable pub provision_new : List Pool → Devices → List ℕ → List ℕ → ℕ → Option (List Pair) → Option ℕ → DeviceAnswer
provision_new pools d name provisioner bytes labels None = after_call d (Refused (Exhausted (most_free provisioner labels d.stored 0 pools)))
provision_new pools d name provisioner bytes labels (Some place) =
    let id = fresh_id provisioner d.stored in
    after_call (record d { stored = (record { id = id; name = name; pool = place; bytes = bytes; there = true }) ∷ d.stored }) (Provisioned id (topology_at place pools))

-- data of the name that are there are answered, whatever their provisioner and size
unfoldable pub provision : List Pool → Devices → List ℕ → List ℕ → ℕ → Option (List Pair) → Option Data → DeviceAnswer
provision pools d name provisioner bytes labels (Some x) = after_call d (Provisioned x.id (topology_at x.pool pools))
provision pools d name provisioner bytes labels None = provision_new pools d name provisioner bytes labels (first_fit provisioner bytes labels d.stored 0 pools)

-- the data of the id go; the answer says whether they were there. To erase twice does no harm
unfoldable pub erase : Devices → DataId → DeviceAnswer
erase d id = after_call (record d { stored = data_after_erase id d.stored }) (Erased (has_id id d.stored))

-- a call whose number is planned fails
unfoldable pub unless_planned : Setup → Devices → DeviceAnswer → DeviceAnswer
unless_planned setup d next = if is_planned (d.calls + 1) setup.faults then after_call d (Refused (BackFault (d.calls + 1))) else next

-- a call with an epoch that is not the node's current one is refused
unfoldable pub unless_stale : Devices → Option ℕ → DeviceAnswer → DeviceAnswer
unless_stale d None next = next
unless_stale d (Some current) next = record { devices = d; reply = Refused (StaleEpoch current) }

-- each taking of a node begins its next epoch
unfoldable pub take_node : Devices → List ℕ → DeviceAnswer
take_node d node =
    let epoch = epoch_of node d.epochs + 1 in
    record { devices = record d { epochs = (node, epoch) ∷ d.epochs }; reply = Epoch epoch }

-- the answer is the node's whole list as it then is
unfoldable pub with_mounts : Devices → List ℕ → List MountAt → DeviceAnswer
with_mounts d node mounts = record { devices = record d { mounts = mounts }; reply = Mounted (rows_on node mounts) }

-- what the devices answer a request of theirs; other requests are not asked of them
unfoldable pub device_answer : Setup → Devices → Request → Option DeviceAnswer
device_answer setup d (Provision name provisioner bytes labels) =
    Some (unless_planned setup d (provision setup.pools d name provisioner bytes labels (data_named name d.stored)))
device_answer setup d (Erase id) = Some (unless_planned setup d (erase d id))
device_answer setup d (TakeNode node) = Some (take_node d node)
device_answer setup d (Mounts node epoch) = Some (unless_stale d (epoch_if_stale d node epoch) (with_mounts d node d.mounts))
device_answer setup d (Mount node epoch pod claims) = Some (unless_stale d (epoch_if_stale d node epoch) (with_mounts d node (with_mount node pod claims d.mounts)))
device_answer setup d (Unmount node epoch pod) = Some (unless_stale d (epoch_if_stale d node epoch) (with_mounts d node (without_mount node pod d.mounts)))
device_answer setup d _ = None

-- whether a pool has the bytes free for a request
abbrev pub pool_fits : Setup → Devices → List ℕ → ℕ → Option (List Pair) → Bool
pool_fits setup d provisioner bytes labels = is_some (first_fit provisioner bytes labels d.stored 0 setup.pools)

-- whether data of a name are there
abbrev pub has_data : Devices → List ℕ → Bool
has_data d name = list_any (λ x. x.there && bytes_eq x.name name) d.stored
