-- The request that the member `ask` of an entry gives, by its word `do`. A choice of this project: the history format.
use Rattle.std.specs.Prelude.{ℕ, List, Option, Some, None, codes}
use Rattle.serde_json.specs.Data.{Data}
use Rattle.kube_parts.specs.Named.{policy_named, volume_phase_named, claim_phase_named}
use Rattle.kube_parts.specs.declared.parts.Policy.{Policy}
use Rattle.call_types.specs.declared.edit.Edit.{Edit}
use Rattle.call_types.specs.declared.edit.Edit.TheVariants as edits
use Rattle.call_types.specs.declared.request.NewStatus.{NewStatus}
use Rattle.call_types.specs.declared.request.NewStatus.TheVariants as statuses
use Rattle.call_types.specs.declared.request.Request.{Request}
use Rattle.call_types.specs.declared.request.Request.TheVariants as requests
use Rattle.history_lines.specs.declared.words.AskWord.{AskWord}
use Rattle.history_lines.specs.declared.words.AskWord.TheVariants as asks
use Rattle.history_lines.specs.declared.words.EditWord.{EditWord}
use Rattle.history_lines.specs.declared.words.EditWord.TheVariants as words
use Rattle.history_lines.specs.Answers.{◌>>=◌}
use Rattle.history_lines.specs.Words.{ask_named, edited_word, all_edits}
use Rattle.history_lines.specs.Members.{
  Look,
  look_in,
  standing,
  text_at,
  some_text_at,
  number_at,
  some_number_at,
  uid_in,
  uid_at,
  some_uid_at,
  some_amount_at,
  object_at,
  list_at,
  modes_at,
  some_labels_at,
  kind_at,
  key_at,
  data_id_at,
}

-- ---- edits

-- two texts of the object that the member is
abbrev pub two_texts_in : List ℕ → List ℕ → Look → Option (List ℕ × List ℕ)
two_texts_in first second m = do
  one ← text_at first m
  two ← text_at second m
  Some (one, two)

-- two texts of an object under one member
abbrev pub two_texts_at : List ℕ → List ℕ → List ℕ → Look → Option (List ℕ × List ℕ)
two_texts_at k first second m = m k >>= λ d. two_texts_in first second (look_in d)

-- a reclaim policy, by its word
abbrev pub policy_at : Look → Option Policy
policy_at m = text_at (codes "setPolicy") m >>= λ s. policy_named s

-- the edit of the member that stands
abbrev pub edit_by : EditWord → Look → Option Edit
edit_by words.AddFinalizer m = text_at (codes "addFinalizer") m >>= λ s. Some (edits.AddFinalizer s)
edit_by words.DropFinalizer m = text_at (codes "dropFinalizer") m >>= λ s. Some (edits.DropFinalizer s)
edit_by words.DropLabel m = text_at (codes "dropLabel") m >>= λ s. Some (edits.DropLabel s)
edit_by words.DropAnnotation m = text_at (codes "dropAnnotation") m >>= λ s. Some (edits.DropAnnotation s)
edit_by words.SetLabel m = two_texts_at (codes "setLabel") (codes "key") (codes "value") m >>= λ p. Some (edits.SetLabel p.0 p.1)
edit_by words.SetAnnotation m = two_texts_at (codes "setAnnotation") (codes "key") (codes "value") m >>= λ p. Some (edits.SetAnnotation p.0 p.1)
edit_by words.SetVolumeName m = text_at (codes "setVolumeName") m >>= λ s. Some (edits.SetVolumeName s)
edit_by words.SetPolicy m = policy_at m >>= λ policy. Some (edits.SetPolicy policy)
edit_by words.SetClaimRef m = two_texts_at (codes "setClaimRef") (codes "namespace") (codes "name") m >>= λ p. Some (edits.SetClaimRef p.0 p.1)
edit_by words.ClearClaimRef m = Some edits.ClearClaimRef

-- an edit, by the first member that tells its kind
abbrev pub edit_at : Look → Option Edit
edit_at m = standing edited_word all_edits m >>= λ word. edit_by word m

-- ---- new statuses: that of a claim has its modes

-- a new status of a volume
abbrev pub volume_status_at : Look → Option NewStatus
volume_status_at m = text_at (codes "phase") m >>= λ s. volume_phase_named s >>= λ phase. Some (statuses.Volume phase)

-- a new status of a claim
abbrev pub claim_status_at : Look → Option NewStatus
claim_status_at m = do
  word ← text_at (codes "phase") m
  phase ← claim_phase_named word
  modes ← modes_at (codes "modes") m
  amount ← some_amount_at (codes "amount") m
  Some (statuses.Claim phase modes amount)

-- a status of a claim, where it has access modes; else of a volume
abbrev pub status_from : Option Data → Look → Option NewStatus
status_from None m = volume_status_at m
status_from (Some d) m = claim_status_at m

-- the new status of an update
abbrev pub status_at : Look → Option NewStatus
status_at m = status_from (m (codes "modes")) m

-- ---- each request

-- an update of an object
abbrev pub update_at : Look → Option Request
update_at m = do
  object ← object_at (codes "object") m
  version ← some_number_at (codes "version") m
  Some (requests.Update object version)

-- an update of a status
abbrev pub update_status_at : Look → Option Request
update_status_at m = do
  key ← key_at m
  status ← status_at m
  version ← some_number_at (codes "version") m
  Some (requests.UpdateStatus key status version)

-- an edit of the object of a key
abbrev pub edit_request_at : Look → Option Request
edit_request_at m = do
  key ← key_at m
  edit ← edit_at m
  Some (requests.Edit key edit)

-- a deletion, on the condition of a UID or without
abbrev pub delete_at : Look → Option Request
delete_at m = do
  key ← key_at m
  uid ← some_uid_at (codes "uid") m
  Some (requests.Delete key uid)

-- a list of a kind, in one namespace or all
abbrev pub list_request_at : Look → Option Request
list_request_at m = do
  kind ← kind_at m
  namespace ← some_text_at (codes "namespace") m
  Some (requests.List kind namespace)

-- a watch of a kind from a version on
abbrev pub watch_at : Look → Option Request
watch_at m = do
  kind ← kind_at m
  from ← number_at (codes "from") m
  Some (requests.Watch kind from)

-- a call that assigns a pod to a node
abbrev pub bind_at : Look → Option Request
bind_at m = do
  key ← key_at m
  uid ← uid_at (codes "uid") m
  node ← text_at (codes "node") m
  Some (requests.BindPod key uid node)

-- an agent's call that a pod is finished
abbrev pub finish_at : Look → Option Request
finish_at m = do
  key ← key_at m
  uid ← uid_at (codes "uid") m
  node ← text_at (codes "node") m
  epoch ← number_at (codes "epoch") m
  Some (requests.FinishPod key uid node epoch)

-- a provision call
abbrev pub provision_at : Look → Option Request
provision_at m = do
  name ← text_at (codes "name") m
  provisioner ← text_at (codes "provisioner") m
  bytes ← number_at (codes "bytes") m
  labels ← some_labels_at m
  Some (requests.Provision name provisioner bytes labels)

-- an agent's question which pods are mounted on its node
abbrev pub mounts_at : Look → Option Request
mounts_at m = do
  node ← text_at (codes "node") m
  epoch ← number_at (codes "epoch") m
  Some (requests.Mounts node epoch)

-- an agent's call that mounts the claims of a pod
abbrev pub mount_at : Look → Option Request
mount_at m = do
  node ← text_at (codes "node") m
  epoch ← number_at (codes "epoch") m
  pod ← uid_at (codes "pod") m
  claims ← list_at uid_in (codes "claims") m
  Some (requests.Mount node epoch pod claims)

-- an agent's call that unmounts a pod
abbrev pub unmount_at : Look → Option Request
unmount_at m = do
  node ← text_at (codes "node") m
  epoch ← number_at (codes "epoch") m
  pod ← uid_at (codes "pod") m
  Some (requests.Unmount node epoch pod)

-- the request of this word, by its other members
abbrev pub request_by : AskWord → Look → Option Request
request_by asks.Create m = object_at (codes "object") m >>= λ object. Some (requests.Create object)
request_by asks.Update m = update_at m
request_by asks.Status m = update_status_at m
request_by asks.Edit m = edit_request_at m
request_by asks.Delete m = delete_at m
request_by asks.Get m = key_at m >>= λ key. Some (requests.Get key)
request_by asks.List m = list_request_at m
request_by asks.Watch m = watch_at m
request_by asks.Bind m = bind_at m
request_by asks.Finish m = finish_at m
request_by asks.Provision m = provision_at m
request_by asks.Erase m = data_id_at m >>= λ id. Some (requests.Erase id)
request_by asks.Take m = text_at (codes "node") m >>= λ node. Some (requests.TakeNode node)
request_by asks.Mounts m = mounts_at m
request_by asks.Mount m = mount_at m
request_by asks.Unmount m = unmount_at m
request_by asks.Time m = text_at (codes "at") m >>= λ moment. Some (requests.SetTime moment)

-- a request, by its members
abbrev pub request_at : Look → Option Request
request_at m = do
  word ← text_at (codes "do") m
  ask ← ask_named word
  request_by ask m

-- a request, as an object
unfoldable pub request_in : Data → Option Request
request_in d = request_at (look_in d)
