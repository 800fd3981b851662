-- What entries speak of, and where the last one that speaks of it stands.
-- A choice of this project.
use Rattle.std.specs.Prelude.{ℕ, Bool, false, ◌||◌, List, [], ◌∷◌, Option, Some, None, length, if◌then◌else◌}
use Rattle.std.specs.declared.cmp.Ordering.{Ordering}
use Rattle.std.specs.Ordering.{is_eq, nat_cmp, ordering_then}
use Rattle.kube_parts.specs.declared.uid.Uid.{Uid}
use Rattle.kube_objects.specs.declared.key.Key.{Key}
use Rattle.kube_parts.specs.declared.parts.Kind.{Kind}
use Rattle.kube_parts.specs.declared.parts.Kind.TheVariants as kinds
use Rattle.kube_objects.specs.declared.objects.DataId.{DataId}
use Rattle.kube_objects.specs.declared.objects.Object.{Object}
use Rattle.kube_objects.specs.declared.objects.Object.TheVariants.{Claim, Volume}
use Rattle.kube_objects.specs.Keys.{key_cmp}
use Rattle.kube_objects.specs.Sources.{data_id_of}
use Rattle.call_types.specs.declared.entry.Entry.{Entry}
use Rattle.call_types.specs.declared.request.Request.{Request}
use Rattle.call_types.specs.declared.request.Request.TheVariants as requests
use Rattle.call_types.specs.declared.reply.Reply.{Reply}
use Rattle.call_types.specs.declared.reply.Reply.TheVariants as replies
use Rattle.evidence_agent.specs.declared.by_place.topics.Matter.{Matter}
use Rattle.evidence_agent.specs.declared.by_place.topics.Matter.TheVariants as matters
use Rattle.evidence_agent.specs.declared.by_place.topics.Topic.{Topic}
use Rattle.evidence_agent.specs.declared.by_place.topics.About.{About}

-- the order of matters
abbrev pub matter_index : Matter → ℕ
matter_index matters.Taken = 0
matter_index matters.Listed = 1
matter_index matters.Read = 2
matter_index matters.Naming = 3
matter_index matters.Finished = 4
matter_index matters.Mounted = 5
matter_index matters.Rows = 6
matter_index matters.Over = 7

-- by matter, then object, then pod
abbrev pub topic_cmp : Topic → Topic → Ordering
topic_cmp a b = ordering_then (ordering_then (nat_cmp (matter_index a.matter) (matter_index b.matter)) (key_cmp a.key b.key)) (nat_cmp a.uid.0 b.uid.0)

-- of an object
abbrev pub about_key : Matter → Key → Topic
about_key matter key = record { matter = matter; key = key; uid = record { 0 = 0 } }

-- the topic of an object by its kind, namespace and name
abbrev pub about_object : Matter → Kind → List ℕ → List ℕ → Topic
about_object matter kind namespace name = about_key matter (record { kind = kind; namespace = namespace; name = name })

-- of a pod
abbrev pub about_pod : Matter → Uid → Topic
about_pod matter uid = record { matter = matter; key = record { kind = kinds.Pod; namespace = []; name = [] }; uid = uid }

-- of the node, or of the volume
abbrev pub about_name : Matter → List ℕ → Topic
about_name matter name = about_object matter kinds.Node [] name

-- of the data of a volume
abbrev pub about_data : Matter → DataId → Topic
about_data matter id = about_object matter kinds.PersistentVolume id.driver id.id

-- of nothing more
abbrev pub about_all : Matter → Topic
about_all matter = about_object matter kinds.Pod [] []

-- the topic that these parts make
abbrev pub topic_by : About → Topic
topic_by a = record { matter = a.matter; key = record { kind = a.kind; namespace = a.namespace.now; name = a.name.now }; uid = a.uid }

-- the topic of an answer that gave the node's epoch
abbrev pub taken_topic : List ℕ → Reply → Option Topic
taken_topic node (replies.Epoch epoch) = Some (about_name matters.Taken node)
taken_topic node reply = None

-- the topic of an answer to a List
abbrev pub listed_topic : Reply → Option Topic
listed_topic (replies.Listed items version) = Some (about_all matters.Listed)
listed_topic reply = None

-- the topic of an answer that told the node's mounts
abbrev pub rows_topic : List ℕ → Reply → Option Topic
rows_topic node (replies.Mounted rows) = Some (about_name matters.Rows node)
rows_topic node reply = None

-- what a request and its answer that was told speak of
abbrev pub read_topic : Request → Reply → Option Topic
read_topic (requests.TakeNode node) reply = taken_topic node reply
read_topic (requests.List kinds.Pod None) reply = listed_topic reply
read_topic (requests.Get key) reply = Some (about_key matters.Read key)
read_topic (requests.Mounts node epoch) reply = rows_topic node reply
read_topic (requests.Mount node epoch pod claims) reply = rows_topic node reply
read_topic (requests.Unmount node epoch pod) reply = rows_topic node reply
read_topic request reply = None

-- what a request speaks of, told or not
abbrev pub asked_topic : Request → Option Topic
asked_topic (requests.FinishPod key uid node epoch) = Some (about_pod matters.Finished uid)
asked_topic (requests.Mount node epoch pod claims) = Some (about_pod matters.Mounted pod)
asked_topic request = None

-- what an object that was read speaks of
abbrev pub object_topic : Object → Option Topic
object_topic (Claim c) = Some (about_name matters.Naming c.volume_name)
object_topic (Volume v) = Some (about_data matters.Over (data_id_of v.source))
object_topic o = None

-- what an answer that was told speaks of
abbrev pub found_topic : Reply → Option Topic
found_topic (replies.Found o) = object_topic o
found_topic reply = None

-- the entry's topic is this one
abbrev pub is_about : Topic → Option Topic → Bool
is_about t None = false
is_about t (Some u) = is_eq (topic_cmp u t)

-- the topic, where the answer was told
abbrev pub if_told : Bool → Option Topic → Option Topic
if_told told topic = if told then topic else None

-- the entry speaks of the topic
abbrev pub speaks : Topic → Entry → Bool
speaks t e = is_about t (asked_topic e.request) || (is_about t (if_told e.told (read_topic e.request e.reply)) || is_about t (if_told e.told (found_topic e.reply)))

-- the place of the last entry that does, counted from the oldest. The entries stand newest first
abbrev pub last_of : Topic → List Entry → Option ℕ
last_of t [] = None
last_of t (e ∷ mine) = if speaks t e then Some (length mine) else last_of t mine
