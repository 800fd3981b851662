-- What is due for an object of a world, with the actor that does it; settled, where nothing is.
-- Source: the sync functions of `pv_controller.go`, of the protection controllers and of the volume binding plugin;
-- their order, and that only what the devices can give is due, is this project's choice.
use Rattle.std.specs.Prelude.{ℕ, ◌≡◌, Bool, true, false, not, ◌&&◌, ◌||◌, List, [], ◌∷◌, Option, Some, None, is_some, is_none, if◌then◌else◌}
use Rattle.std.specs.List.{list_all, list_any}
use Rattle.std.specs.declared.cmp.Ordering.TheVariants.{Less}
use Rattle.plain_data.specs.Pairs.{Pair, value_at}
use Rattle.kube_parts.specs.declared.uid.Uid.{Uid}
use Rattle.kube_objects.specs.declared.key.Key.{Key}
use Rattle.kube_parts.specs.declared.names.Due.{Due}
use Rattle.kube_parts.specs.declared.names.Due.TheVariants as dues
use Rattle.kube_objects.specs.declared.objects.Class.{Class as ClassData}
use Rattle.kube_objects.specs.declared.objects.Claim.{Claim as ClaimData}
use Rattle.kube_objects.specs.declared.objects.Node.{Node as NodeData}
use Rattle.kube_objects.specs.declared.objects.Pod.{Pod as PodData}
use Rattle.kube_objects.specs.declared.objects.Volume.{Volume as VolumeData}
use Rattle.kube_objects.specs.declared.objects.Object.{Object}
use Rattle.kube_objects.specs.declared.objects.Object.TheVariants.{Class, Node, Volume, Claim, Pod}
use Rattle.kube_objects.specs.Keys.{key_cmp, row_at}
use Rattle.kube_objects.specs.Bindings.{
  selected_node,
  class_of_claim,
  is_deleting,
  is_scheduled,
  is_protected_volume,
  is_protected_claim,
  is_completed,
  is_ended,
  is_bound,
  is_delete,
  carries,
  ref_uid,
  uses,
}
use Rattle.call_types.specs.declared.setup.Setup.{Setup}
use Rattle.binder_model.specs.ObjectKeys.{class_key, node_key, volume_key}
use Rattle.binder_model.specs.Devices.{Devices, pool_fits, has_data, is_mounted_on}
use Rattle.binder_model.specs.World.{World}
use Rattle.binder_model.specs.Matching.{has_match}
use Rattle.binder_model.specs.BindWrites.{is_claim_bound}
use Rattle.binder_model.specs.BinderDue.{volume_due, claim_due}
use Rattle.binder_model.specs.Provisioning.{data_name, is_wanting, provisions}
use Rattle.binder_model.specs.Choice.{Share, TakesVolume, IsProvisioned, Serves, Step, Assigns, Searches, step_of, others_of, claim_named}

-- the first action that is due
unfoldable pub or_due : Option Due → Option Due → Option Due
or_due (Some action) next = Some action
or_due None next = next

-- reclaim: ended with policy Delete, and not deleting
abbrev pub reclaim_due : VolumeData → Option Due
reclaim_due v =
    if is_ended v.phase && is_delete v.policy && is_some (ref_uid v.claim_ref) && not (is_deleting v.meta) then Some dues.Reclaim else None

-- protection: the finalizer is added where it lacks, and dropped where the object is to go and nothing needs it
abbrev pub guard_due : Bool → Bool → Bool → Option Due
guard_due deleting guarded needed =
    if deleting then (if guarded && not needed then Some dues.Unguard else None)
    else (if guarded then None else Some dues.Guard)

-- a volume needs its finalizer as long as it is Bound
abbrev pub volume_guard_due : VolumeData → Option Due
volume_guard_due v = guard_due (is_deleting v.meta) (is_protected_volume v) (is_bound v.phase)

-- a claim needs its finalizer as long as a scheduled pod names it
abbrev pub claim_guard_due : List Object → ClaimData → Option Due
claim_guard_due rows c = guard_due (is_deleting c.meta) (is_protected_claim c) (list_any (uses c) rows)

-- provisioning: data of the claim's name are there, or a pool fits
abbrev pub is_served : Setup → Devices → ClaimData → Uid → ClassData → Option (List Pair) → Bool
is_served setup d c uid x labels = has_data d (data_name uid) || pool_fits setup d x.provisioner c.amount.bytes labels

-- the store would refuse a second volume of the name
abbrev pub provision_if_new : List Object → Uid → Option Due
provision_if_new rows uid = if is_none (row_at (volume_key (data_name uid)) rows) then Some dues.Provision else None

-- a node that cannot serve the claim is cleared
abbrev pub on_node_due : Setup → World → ClaimData → Uid → ClassData → Option Object → Option Due
on_node_due setup w c uid x (Some (Node n)) =
    if is_served setup w.devices c uid x (Some n.meta.labels) then provision_if_new w.store.rows uid else Some dues.ClearNode
on_node_due setup w c uid x _ = Some dues.ClearNode

-- under a delayed class the scheduler chooses the node first
abbrev pub delayed_due : Setup → World → ClaimData → Uid → ClassData → Option (List ℕ) → Option Due
delayed_due setup w c uid x None = None
delayed_due setup w c uid x (Some node) = on_node_due setup w c uid x (row_at (node_key node) w.store.rows)

-- without a delayed class the volume is provisioned at once, where the devices can give it
abbrev pub immediate_due : Setup → World → ClaimData → Uid → ClassData → Option Due
immediate_due setup w c uid x = if is_served setup w.devices c uid x None then provision_if_new w.store.rows uid else None

-- what is due for a claim that wants a new volume, by its class
abbrev pub by_class_due : Setup → World → ClaimData → Option Uid → Option Object → Option Due
by_class_due setup w c (Some uid) (Some (Class x)) =
    if not (provisions x) then None
    else if x.delayed then delayed_due setup w c uid x (value_at selected_node c.meta.annotations)
    else immediate_due setup w c uid x
by_class_due setup w c uid o = None

-- what ops has to do for a claim that wants a volume and that no volume matches
abbrev pub provision_due : Setup → World → ClaimData → Option Due
provision_due setup w c =
    if is_wanting c && not (has_match w.store.rows c) then by_class_due setup w c c.meta.uid (row_at (class_key (class_of_claim c)) w.store.rows)
    else None

-- pods: a deleting one is finished, one whose claims are all ready is mounted

-- the claim is bound and protected, and its volume carries it
abbrev pub carried_by : ClaimData → Option Object → Bool
carried_by c (Some (Volume v)) = carries v c
carried_by c _ = false

-- a pod may use the claim: it stays, is protected, completed, Bound, and its volume carries it
abbrev pub is_ready : List Object → Option ClaimData → Bool
is_ready rows None = false
is_ready rows (Some c) =
    not (is_deleting c.meta) && is_protected_claim c && is_completed c && is_claim_bound c.phase && carried_by c (row_at (volume_key c.volume_name) rows)

-- the pod with this UID is mounted on the node
abbrev pub is_pod_uid_mounted : Devices → List ℕ → Option Uid → Bool
is_pod_uid_mounted d node None = false
is_pod_uid_mounted d node (Some uid) = is_mounted_on node uid d.mounts

-- the pod is mounted on its node
abbrev pub is_pod_mounted : Devices → PodData → Bool
is_pod_mounted d p = is_pod_uid_mounted d p.node p.meta.uid

-- what the agent of its node has to do for a scheduled pod
abbrev pub agent_due : World → PodData → Option Due
agent_due w p =
    if is_deleting p.meta then Some dues.Finish
    else if not (is_pod_mounted w.devices p) && list_all (λ name. is_ready w.store.rows (claim_named w.store.rows p.meta.namespace name)) p.claims then Some dues.Mount
    else None

-- the claim's class can give it a volume on this node
abbrev pub is_served_on : Setup → World → NodeData → ClaimData → Option Uid → Option Object → Bool
is_served_on setup w n c (Some uid) (Some (Class x)) = is_served setup w.devices c uid x (Some n.meta.labels)
is_served_on setup w n c uid o = false

-- the share can be given: a volume is there, and what is to be provisioned has its data there or a pool that fits on the node
abbrev pub share_is_served : Setup → World → NodeData → ClaimData → Share → Bool
share_is_served setup w n c (TakesVolume place) = true
share_is_served setup w n c IsProvisioned = is_served_on setup w n c c.meta.uid (row_at (class_key (class_of_claim c)) w.store.rows)

-- each claim's share can be given
abbrev pub shares_are_served : Setup → World → NodeData → List ClaimData → List Share → Bool
shares_are_served setup w n (c ∷ cs) (share ∷ shares) = share_is_served setup w n c share && shares_are_served setup w n cs shares
shares_are_served setup w n [] [] = true
shares_are_served setup w n _ _ = false

-- some node serves all claims of the pod, and the devices can give what is to be provisioned there
pub record CanPrepare (setup : Setup) (w : World) (pod : PodData) : Type 0 where
  pub node : NodeData
  pub there : row_at (node_key node.meta.name) w.store.rows ≡ Some (Node node)
  pub shares : List Share
  pub serves : Serves w.store.rows pod node shares
  pub given : shares_are_served setup w node (others_of w.store.rows pod) shares ≡ true

-- what is due for a pod that no node runs
abbrev pub IsStepDue : Setup → World → PodData → Step → Option Due → Type 0
IsStepDue setup w p (Assigns n) action = action ≡ Some dues.Assign
IsStepDue setup w p Searches (Some action) = (action ≡ dues.Prepare) × CanPrepare setup w p
IsStepDue setup w p Searches None = CanPrepare setup w p → ⊥
IsStepDue setup w p _ action = action ≡ None

-- what is due for a pod: by its node's agent where it is scheduled, else by the scheduler
abbrev pub IsPodDue : Setup → World → PodData → Bool → Option Due → Type 0
IsPodDue setup w p true action = action ≡ agent_due w p
IsPodDue setup w p false action = IsStepDue setup w p (step_of w.store.rows p) action

-- the first action that is due for an object of the store, or none
abbrev pub IsDue : Setup → World → Object → Option Due → Type 0
IsDue setup w (Volume v) action = action ≡ or_due (volume_due w.store.rows v) (or_due (reclaim_due v) (volume_guard_due v))
IsDue setup w (Claim c) action = action ≡ or_due (claim_guard_due w.store.rows c) (or_due (claim_due w.store.rows c) (provision_due setup w c))
IsDue setup w (Pod p) action = IsPodDue setup w p (is_scheduled p) action
IsDue setup w o action = action ≡ None

-- nothing is due for any object
abbrev pub IsSettled : Setup → World → Type 0
IsSettled setup w = (key : Key) (o : Object) → row_at key w.store.rows ≡ Some o → IsDue setup w o None

-- the object under the key is the first in the order of kinds, namespaces and names for which something is due: this action
pub record IsFirstDueAt (setup : Setup) (w : World) (key : Key) (action : Due) : Type 0 where
  pub object : Object
  pub there : row_at key w.store.rows ≡ Some object
  pub due : IsDue setup w object (Some action)
  pub first : (earlier : Key) (other : Object) → row_at earlier w.store.rows ≡ Some other → key_cmp earlier key ≡ Less → IsDue setup w other None

-- the first action that is due in the world, with the key of its object; none exactly where the world is settled
abbrev pub IsFirstDue : Setup → World → Option (Key × Due) → Type 0
IsFirstDue setup w (Some first) = IsFirstDueAt setup w first.0 first.1
IsFirstDue setup w None = IsSettled setup w
