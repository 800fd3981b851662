-- Requests, as the member `ask` of an entry shows them.
-- A choice of this project: the history format.
use Rattle.std.specs.Prelude.{ℕ, List, [], ◌∷◌, ◌++◌, true, Option, Some, codes, option_map}
use Rattle.serde_json.specs.Data.{Data, string}
use Rattle.json_text.specs.Build.{number_data}
use Rattle.kube_parts.specs.Words.{kind_word, policy_word, volume_phase_word, claim_phase_word}
use Rattle.kube_parts.specs.declared.uid.Uid.{Uid}
use Rattle.kube_parts.specs.declared.parts.Kind.{Kind}
use Rattle.kube_parts.specs.declared.parts.ClaimPhase.{ClaimPhase}
use Rattle.kube_parts.specs.declared.parts.Modes.{Modes}
use Rattle.kube_objects.specs.declared.key.Key.{Key}
use Rattle.kube_objects.specs.declared.objects.DataId.{DataId}
use Rattle.kube_objects.specs.declared.objects.Object.{Object}
use Rattle.plain_data.specs.Pairs.{Pair}
use Rattle.kube_objects.specs.declared.objects.Amount.{Amount}
use Rattle.call_types.specs.declared.edit.Edit.{Edit}
use Rattle.call_types.specs.declared.edit.Edit.TheVariants as edits
use Rattle.call_types.specs.declared.request.NewStatus.{NewStatus}
use Rattle.call_types.specs.declared.request.NewStatus.TheVariants as statuses
use Rattle.call_types.specs.declared.request.Request.{Request}
use Rattle.call_types.specs.declared.request.Request.TheVariants as asks
use Rattle.json_text.specs.Members.{MemberList, text, whole, flag, filled, array_data, pairs_data, object_of}
use Rattle.object_print.specs.Metadata.{uid_data}
use Rattle.object_print.specs.Parts.{modes_data}
use Rattle.object_print.specs.Objects.{object_data}

-- the namespace stands where it is not empty
abbrev pub key_pairs : Key → MemberList
key_pairs k = (codes "kind", text (kind_word k.kind)) ∷ (codes "name", text k.name) ∷ (codes "namespace", filled k.namespace) ∷ []

-- two members that are texts
abbrev pub two_texts : List ℕ → List ℕ → List ℕ → List ℕ → MemberList
two_texts first x second y = (first, text x) ∷ (second, text y) ∷ []

-- a label or an annotation, as an object
abbrev pub label_data : List ℕ → List ℕ → Data
label_data key value = object_of (two_texts (codes "key") key (codes "value") value)

-- the claim that an edit names
abbrev pub claim_name_data : List ℕ → List ℕ → Data
claim_name_data namespace name = object_of (two_texts (codes "name") name (codes "namespace") namespace)

-- the one member of an edit
abbrev pub edit_pairs : Edit → MemberList
edit_pairs (edits.AddFinalizer s) = (codes "addFinalizer", text s) ∷ []
edit_pairs (edits.DropFinalizer s) = (codes "dropFinalizer", text s) ∷ []
edit_pairs (edits.DropLabel s) = (codes "dropLabel", text s) ∷ []
edit_pairs (edits.DropAnnotation s) = (codes "dropAnnotation", text s) ∷ []
edit_pairs (edits.SetLabel key value) = (codes "setLabel", Some (label_data key value)) ∷ []
edit_pairs (edits.SetAnnotation key value) = (codes "setAnnotation", Some (label_data key value)) ∷ []
edit_pairs (edits.SetVolumeName s) = (codes "setVolumeName", text s) ∷ []
edit_pairs (edits.SetPolicy policy) = (codes "setPolicy", text (policy_word policy)) ∷ []
edit_pairs (edits.SetClaimRef namespace name) = (codes "setClaimRef", Some (claim_name_data namespace name)) ∷ []
edit_pairs edits.ClearClaimRef = (codes "clearClaimRef", flag true) ∷ []

-- an amount, as it was written
abbrev pub amount_text : Amount → Data
amount_text a = string a.text

-- the modes always stand
abbrev pub claim_status_pairs : ClaimPhase → Modes → Option Amount → MemberList
claim_status_pairs phase modes amount =
    (codes "phase", text (claim_phase_word phase)) ∷ (codes "modes", Some (modes_data modes)) ∷ (codes "amount", option_map amount_text amount) ∷ []

-- the members of a new status, of a volume or of a claim
abbrev pub status_pairs : NewStatus → MemberList
status_pairs (statuses.Volume phase) = (codes "phase", text (volume_phase_word phase)) ∷ []
status_pairs (statuses.Claim phase modes amount) = claim_status_pairs phase modes amount

-- the word `do` of a request
abbrev pub ask_word : Request → List ℕ
ask_word (asks.Create object) = codes "create"
ask_word (asks.Update object version) = codes "update"
ask_word (asks.UpdateStatus key status version) = codes "status"
ask_word (asks.Edit key edit) = codes "edit"
ask_word (asks.Delete key uid) = codes "delete"
ask_word (asks.Get key) = codes "get"
ask_word (asks.List kind namespace) = codes "list"
ask_word (asks.Watch kind from) = codes "watch"
ask_word (asks.BindPod key uid node) = codes "bind"
ask_word (asks.FinishPod key uid node epoch) = codes "finish"
ask_word (asks.Provision name provisioner bytes labels) = codes "provision"
ask_word (asks.Erase id) = codes "erase"
ask_word (asks.TakeNode node) = codes "take"
ask_word (asks.Mounts node epoch) = codes "mounts"
ask_word (asks.Mount node epoch pod claims) = codes "mount"
ask_word (asks.Unmount node epoch pod) = codes "unmount"
ask_word (asks.SetTime at) = codes "time"

-- the members of an update: the object, and the version on whose condition it is
abbrev pub update_pairs : Object → Option ℕ → MemberList
update_pairs object version = (codes "object", Some (object_data object)) ∷ (codes "version", option_map number_data version) ∷ []

-- the members of an update of a status, with the version on whose condition it is
abbrev pub update_status_pairs : Key → NewStatus → Option ℕ → MemberList
update_status_pairs key status version = key_pairs key ++ (status_pairs status ++ (codes "version", option_map number_data version) ∷ [])

-- the members of a list: the kind, and one namespace or all
abbrev pub list_pairs : Kind → Option (List ℕ) → MemberList
list_pairs kind namespace = (codes "kind", text (kind_word kind)) ∷ (codes "namespace", option_map string namespace) ∷ []

-- the members of a watch: the kind, and the version from which events are asked for
abbrev pub watch_pairs : Kind → ℕ → MemberList
watch_pairs kind from = (codes "kind", text (kind_word kind)) ∷ (codes "from", whole from) ∷ []

-- the UID of a pod and the name of a node
abbrev pub pod_node_pairs : Uid → List ℕ → MemberList
pod_node_pairs uid node = (codes "uid", Some (uid_data uid)) ∷ (codes "node", text node) ∷ []

-- the members of a call that assigns a pod to a node
abbrev pub bind_pairs : Key → Uid → List ℕ → MemberList
bind_pairs key uid node = key_pairs key ++ pod_node_pairs uid node

-- the members of a provision call: name, provisioner, bytes, and the labels of the node from which the data are to be reached
abbrev pub provision_pairs : List ℕ → List ℕ → ℕ → Option (List Pair) → MemberList
provision_pairs name provisioner bytes labels =
    (codes "name", text name) ∷ (codes "provisioner", text provisioner) ∷ (codes "bytes", whole bytes) ∷ (codes "labels", option_map pairs_data labels) ∷ []

-- the members by which a back end knows data: its driver and the handle there
abbrev pub data_id_pairs : DataId → MemberList
data_id_pairs id = two_texts (codes "driver") id.driver (codes "id") id.id

-- the members of an agent's call: its node, and the epoch in which it took it
abbrev pub node_epoch_pairs : List ℕ → ℕ → MemberList
node_epoch_pairs node epoch = (codes "node", text node) ∷ (codes "epoch", whole epoch) ∷ []

-- the members of an unmount call: node, epoch and the UID of the pod
abbrev pub unmount_pairs : List ℕ → ℕ → Uid → MemberList
unmount_pairs node epoch pod = node_epoch_pairs node epoch ++ (codes "pod", Some (uid_data pod)) ∷ []

-- the other members of a request; absent options are left out
abbrev pub argument_pairs : Request → MemberList
argument_pairs (asks.Create object) = (codes "object", Some (object_data object)) ∷ []
argument_pairs (asks.Update object version) = update_pairs object version
argument_pairs (asks.UpdateStatus key status version) = update_status_pairs key status version
argument_pairs (asks.Edit key edit) = key_pairs key ++ edit_pairs edit
argument_pairs (asks.Delete key uid) = key_pairs key ++ (codes "uid", option_map uid_data uid) ∷ []
argument_pairs (asks.Get key) = key_pairs key
argument_pairs (asks.List kind namespace) = list_pairs kind namespace
argument_pairs (asks.Watch kind from) = watch_pairs kind from
argument_pairs (asks.BindPod key uid node) = bind_pairs key uid node
argument_pairs (asks.FinishPod key uid node epoch) = bind_pairs key uid node ++ (codes "epoch", whole epoch) ∷ []
argument_pairs (asks.Provision name provisioner bytes labels) = provision_pairs name provisioner bytes labels
argument_pairs (asks.Erase id) = data_id_pairs id
argument_pairs (asks.TakeNode node) = (codes "node", text node) ∷ []
argument_pairs (asks.Mounts node epoch) = node_epoch_pairs node epoch
argument_pairs (asks.Mount node epoch pod claims) = unmount_pairs node epoch pod ++ (codes "claims", Some (array_data uid_data claims)) ∷ []
argument_pairs (asks.Unmount node epoch pod) = unmount_pairs node epoch pod
argument_pairs (asks.SetTime at) = (codes "at", text at) ∷ []

-- a request as an object, which begins with the word of the call
unfoldable pub request_data : Request → Data
request_data r = object_of ((codes "do", text (ask_word r)) ∷ argument_pairs r)
