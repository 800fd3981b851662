-- Replies, as the member `reply` of an entry shows them.
-- A choice of this project: the history format.
use Rattle.std.specs.Prelude.{ℕ, List, [], ◌∷◌, ◌++◌, true, Option, Some, None, codes}
use Rattle.serde_json.specs.Data.{Data}
use Rattle.kube_parts.specs.Words.{field_word, rule_word}
use Rattle.kube_objects.specs.declared.objects.DataId.{DataId}
use Rattle.kube_objects.specs.declared.objects.Object.{Object}
use Rattle.call_types.specs.Words.{change_word}
use Rattle.call_types.specs.declared.reply.Event.{Event}
use Rattle.call_types.specs.declared.reply.Events.{Events}
use Rattle.call_types.specs.declared.reply.MountRow.{MountRow}
use Rattle.call_types.specs.declared.reply.Refusal.{Refusal}
use Rattle.call_types.specs.declared.reply.Refusal.TheVariants as refusals
use Rattle.call_types.specs.declared.reply.Reply.{Reply}
use Rattle.call_types.specs.declared.reply.Reply.TheVariants as replies
use Rattle.json_text.specs.Members.{MemberList, text, whole, flag, array_data, object_of}
use Rattle.object_print.specs.Metadata.{uid_data}
use Rattle.object_print.specs.Objects.{object_data}
use Rattle.history_text.specs.Requests.{data_id_pairs}

-- the members of a watch event: how the object changed, the object, and the resourceVersion of the change
abbrev pub event_pairs : Event → MemberList
event_pairs e = (codes "change", text (change_word e.change)) ∷ (codes "object", Some (object_data e.object)) ∷ (codes "version", whole e.version) ∷ []

-- the same as an object
unfoldable pub event_data : Event → Data
event_data e = object_of (event_pairs e)

-- the members of a mount: the UIDs of the pod and of the claims that are mounted for it
abbrev pub mount_pairs : MountRow → MemberList
mount_pairs row = (codes "claims", Some (array_data uid_data row.claims)) ∷ (codes "pod", Some (uid_data row.pod)) ∷ []

-- the same as an object
unfoldable pub mount_data : MountRow → Data
mount_data row = object_of (mount_pairs row)

-- a label and its value, where there is a topology
abbrev pub topology_pairs : Option (List ℕ × List ℕ) → MemberList
topology_pairs None = []
topology_pairs (Some t) = (codes "label", text t.0) ∷ (codes "value", text t.1) ∷ []

-- a refusal that carries nothing
abbrev pub refused : List ℕ → MemberList
refused word = (codes "refused", text word) ∷ []

-- a refusal that carries a number, as the version that stands
abbrev pub refused_number : List ℕ → List ℕ → ℕ → MemberList
refused_number word name n = refused word ++ (name, whole n) ∷ []

-- a refusal that carries a text, as the field that is invalid
abbrev pub refused_text : List ℕ → List ℕ → List ℕ → MemberList
refused_text word name s = refused word ++ (name, text s) ∷ []

-- the word of a refusal, and what it carries
abbrev pub refusal_pairs : Refusal → MemberList
refusal_pairs refusals.NotFound = refused (codes "NotFound")
refusal_pairs refusals.AlreadyExists = refused (codes "AlreadyExists")
refusal_pairs (refusals.Conflict current) = refused_number (codes "Conflict") (codes "current") current
refusal_pairs (refusals.Invalid field) = refused_text (codes "Invalid") (codes "field") (field_word field)
refusal_pairs (refusals.Forbidden rule) = refused_text (codes "Forbidden") (codes "rule") (rule_word rule)
refusal_pairs (refusals.Gone oldest) = refused_number (codes "Gone") (codes "oldest") oldest
refusal_pairs (refusals.Exhausted free) = refused_number (codes "Exhausted") (codes "free") free
refusal_pairs (refusals.BackFault planned) = refused_number (codes "BackFault") (codes "planned") planned
refusal_pairs (refusals.StaleEpoch current) = refused_number (codes "StaleEpoch") (codes "current") current
refusal_pairs (refusals.Assigned node) = refused_text (codes "Assigned") (codes "node") node

-- the answer of a list: the objects, and the version at which they stand
abbrev pub listed_pairs : List Object → ℕ → MemberList
listed_pairs items version = (codes "items", Some (array_data object_data items)) ∷ (codes "listed", whole version) ∷ []

-- the answer of a watch: the events, and the version up to which they were told
abbrev pub events_pairs : Events → MemberList
events_pairs e = (codes "events", Some (array_data event_data e.events)) ∷ (codes "upto", whole e.upto) ∷ []

-- the answer of a provision call: which data these are, and where they can be reached
abbrev pub provisioned_pairs : DataId → Option (List ℕ × List ℕ) → MemberList
provisioned_pairs id topology = data_id_pairs id ++ topology_pairs topology

-- the members of a reply, by which its kind is told
abbrev pub reply_pairs : Reply → MemberList
reply_pairs (replies.Done object) = (codes "done", Some (object_data object)) ∷ []
reply_pairs (replies.Left object) = (codes "left", Some (object_data object)) ∷ []
reply_pairs (replies.Found object) = (codes "found", Some (object_data object)) ∷ []
reply_pairs (replies.Listed items version) = listed_pairs items version
reply_pairs (replies.Events events) = events_pairs events
reply_pairs (replies.Provisioned id topology) = provisioned_pairs id topology
reply_pairs (replies.Erased removed) = (codes "erased", flag removed) ∷ []
reply_pairs (replies.Epoch epoch) = (codes "epoch", whole epoch) ∷ []
reply_pairs (replies.Mounted rows) = (codes "mounted", Some (array_data mount_data rows)) ∷ []
reply_pairs replies.Timed = (codes "timed", flag true) ∷ []
reply_pairs (replies.Refused refusal) = refusal_pairs refusal

-- the same as an object
unfoldable pub reply_data : Reply → Data
reply_data r = object_of (reply_pairs r)
