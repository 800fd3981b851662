-- What the store answers a request, and what it then has: the outcome, its reply, the store after it.
-- Source: Kubernetes API conventions (verbs, optimistic concurrency); the order of refusals is this project's choice.
use Rattle.std.specs.Prelude.{ℕ, ◌+◌, ◌==◌, Bool, true, false, not, List, Option, Some, None, bytes_eq, filter}
use Rattle.kube_parts.specs.declared.uid.Uid.{Uid}
use Rattle.kube_parts.specs.declared.names.Field.{Field}
use Rattle.kube_parts.specs.declared.names.Field.TheVariants as fields
use Rattle.kube_parts.specs.declared.names.Rule.{Rule}
use Rattle.kube_parts.specs.declared.names.Rule.TheVariants as rules
use Rattle.kube_parts.specs.declared.parts.Kind.{Kind}
use Rattle.kube_objects.specs.declared.objects.Pod.{Pod as PodData}
use Rattle.kube_objects.specs.declared.objects.Object.{Object}
use Rattle.kube_objects.specs.declared.objects.Object.TheVariants.{Volume, Claim, Pod}
use Rattle.kube_objects.specs.Keys.{meta_of, key_of, row_at, put_row, without_row, rows_of}
use Rattle.kube_objects.specs.Bindings.{is_deleting, is_scheduled, is_uid}
use Rattle.call_types.specs.declared.edit.Edit.{Edit}
use Rattle.call_types.specs.declared.request.SeatKind.{SeatKind}
use Rattle.call_types.specs.declared.request.SeatKind.TheVariants.{User}
use Rattle.call_types.specs.declared.request.NewStatus.{NewStatus}
use Rattle.call_types.specs.declared.request.NewStatus.TheVariants as statuses
use Rattle.call_types.specs.declared.request.Request.{Request}
use Rattle.call_types.specs.declared.request.Request.TheVariants as requests
use Rattle.call_types.specs.declared.reply.Change.{Change}
use Rattle.call_types.specs.declared.reply.Change.TheVariants.{Added, Modified}
use Rattle.call_types.specs.declared.reply.Refusal.{Refusal}
use Rattle.call_types.specs.declared.reply.Refusal.TheVariants.{NotFound, AlreadyExists, Conflict, Invalid, Forbidden, StaleEpoch, Assigned}
use Rattle.call_types.specs.declared.reply.Reply.{Reply}
use Rattle.call_types.specs.declared.reply.Reply.TheVariants.{Done, Left, Found, Listed, Refused}
use Rattle.binder_model.specs.Guard.{guard}
use Rattle.binder_model.specs.Fields.{create_fault, update_fault}
use Rattle.binder_model.specs.Store.{State, at_version, marked_object, default_class, class_name, created_object, updated_object, leaves, leaves_at_once, lacks_node, lacks_named_node}
use Rattle.binder_model.specs.Edits.{edited_object}

-- what a request comes to: an answer that changes nothing, or one object that is written, which stays or leaves
pub data Outcome : Type 0 where
  Says : Reply → Outcome
  Stores : Change → Object → Outcome
  Removes : Object → Outcome

-- the refusal where the test holds, else what comes next
unfoldable pub refuse : Bool → Refusal → Outcome → Outcome
refuse true refusal next = Says (Refused refusal)
refuse false refusal next = next

-- the refusal for the first invalid field, if any
unfoldable pub refuse_field : Option Field → Outcome → Outcome
refuse_field (Some field) next = Says (Refused (Invalid field))
refuse_field None next = next

-- the refusal for the first rule that is broken, if any
unfoldable pub refuse_rule : Option Rule → Outcome → Outcome
refuse_rule (Some rule) next = Says (Refused (Forbidden rule))
refuse_rule None next = next

-- the seat is a user's, and no controller's
abbrev pub is_user : SeatKind → Bool
is_user User = true
is_user _ = false

-- controllers are bound by no guard
unfoldable pub guard_on : SeatKind → Option Object → Object → Option Rule
guard_on User old new = guard old new
guard_on _ old new = None

-- a version was given, and it is another
abbrev pub is_other_version : Option ℕ → ℕ → Bool
is_other_version None current = false
is_other_version (Some given) current = not (given == current)

-- a UID was given, and the object has another or none
abbrev pub is_other_uid : Option Uid → Option Uid → Bool
is_other_uid None current = false
is_other_uid (Some given) current = not (is_uid current given)

-- the write of an object that leaves is its removal, that of any other changes it
abbrev pub write_of : Object → Bool → Outcome
write_of o true = Removes o
write_of o false = Stores Modified o

-- a write that is made; the object leaves where it is deleting and has no finalizers
abbrev pub write_outcome : Object → Outcome
write_outcome o = write_of o (leaves o)

-- a create: refused where the key is taken, by the guard or by an invalid field; else the object stands there, admitted
unfoldable pub create : State → SeatKind → Object → List ℕ → Option Object → Outcome
create s kind o moment (Some old) = Says (Refused AlreadyExists)
create s kind o moment None =
    refuse_rule (guard_on kind None o)
    (refuse_field (create_fault (lacks_node o s.rows) o)
    (Stores Added (created_object (class_name (default_class s.rows)) o (s.version + 1) moment)))

-- an update: refused where nothing stands there, at another version, by the guard, or by a field that is fixed or invalid
unfoldable pub update : State → SeatKind → Object → Option ℕ → Option Object → Outcome
update s kind new given None = Says (Refused NotFound)
update s kind new given (Some old) =
    refuse (is_other_version given (meta_of old).version) (Conflict (meta_of old).version)
    (refuse_rule (guard_on kind (Some old) new)
    (refuse_field (update_fault old new)
    (write_outcome (updated_object old new (s.version + 1)))))

-- the object with this status, or none where it is not one of its kind
unfoldable pub with_status : NewStatus → Object → Option Object
with_status (statuses.Volume phase) (Volume v) = Some (Volume (record v { phase = phase }))
with_status (statuses.Claim phase modes amount) (Claim c) = Some (Claim (record c { phase = phase; got_modes = modes; got = amount }))
with_status status o = None

-- the changed object is written at the next version, or there is none since the change does not fit the kind
unfoldable pub written_if_fits : State → Option Object → Outcome
written_if_fits s None = Says (Refused (Invalid fields.Kind))
written_if_fits s (Some new) = write_outcome (at_version new (s.version + 1))

-- a new status of a volume or a claim, at the version given if any: no user may write one
unfoldable pub update_status : State → SeatKind → NewStatus → Option ℕ → Option Object → Outcome
update_status s kind status given None = refuse (is_user kind) (Forbidden rules.Verb) (Says (Refused NotFound))
update_status s kind status given (Some old) =
    refuse (is_user kind) (Forbidden rules.Verb)
    (refuse (is_other_version given (meta_of old).version) (Conflict (meta_of old).version)
    (written_if_fits s (with_status status old)))

-- an edit that fits the object's kind is judged and written like an update of what it makes
unfoldable pub edit_to : State → SeatKind → Object → Option Object → Outcome
edit_to s kind old None = Says (Refused (Invalid fields.Kind))
edit_to s kind old (Some new) =
    refuse_rule (guard_on kind (Some old) new)
    (refuse_field (update_fault old new)
    (write_outcome (updated_object old new (s.version + 1))))

-- a typed edit of the object that stands there now, without a version
unfoldable pub edit : State → SeatKind → Edit → Option Object → Outcome
edit s kind change None = Says (Refused NotFound)
edit s kind change (Some old) = edit_to s kind old (edited_object change old)

-- a second delete changes nothing
unfoldable pub delete_of : State → List ℕ → Object → Bool → Bool → Outcome
delete_of s moment old true deleting = Removes (marked_object old (s.version + 1) moment)
delete_of s moment old false true = Says (Done old)
delete_of s moment old false false = write_outcome (marked_object old (s.version + 1) moment)

-- a delete: refused where nothing stands there, or where a UID was given and another object stands there
unfoldable pub delete : State → List ℕ → Option Uid → Option Object → Outcome
delete s moment given None = Says (Refused NotFound)
delete s moment given (Some old) =
    refuse (is_other_uid given (meta_of old).uid) (Conflict (meta_of old).version)
    (delete_of s moment old (leaves_at_once old) (is_deleting (meta_of old)))

-- a read of one object: the object, or NotFound
unfoldable pub get : Option Object → Outcome
get None = Says (Refused NotFound)
get (Some o) = Says (Found o)

-- the object stands in the namespace
abbrev pub is_in_namespace : List ℕ → Object → Bool
is_in_namespace namespace o = bytes_eq (meta_of o).namespace namespace

-- the objects of one namespace, or of all where none was named
abbrev pub listed_rows : Option (List ℕ) → List Object → List Object
listed_rows None rows = rows
listed_rows (Some namespace) rows = filter (is_in_namespace namespace) rows

-- a list of a kind: its objects in order, at the version of the store
unfoldable pub list : State → Kind → Option (List ℕ) → Outcome
list s kind namespace = Says (Listed (listed_rows namespace (rows_of kind s.rows)) s.version)

-- the pod where the test holds, else none
abbrev pub pod_if : Bool → PodData → Option PodData
pod_if true pod = Some pod
pod_if false pod = None

-- the pod with this UID
unfoldable pub pod_with : Uid → Option Object → Option PodData
pod_with uid (Some (Pod p)) = pod_if (is_uid p.meta.uid uid) p
pod_with uid _ = None

-- a pod that no node runs is assigned to a node; one that is named must be in the store
unfoldable pub bind : State → List ℕ → Option PodData → Outcome
bind s node None = Says (Refused NotFound)
bind s node (Some p) =
    refuse (is_scheduled p) (Assigned p.node)
    (refuse (lacks_named_node node s.rows) (Invalid fields.NodeName)
    (Stores Modified (at_version (Pod (record p { node = node })) (s.version + 1))))

-- the refusal for an epoch that is not the node's current one, if the epoch is such
unfoldable pub refuse_stale : Option ℕ → Outcome → Outcome
refuse_stale None next = next
refuse_stale (Some current) next = Says (Refused (StaleEpoch current))

-- a pod that is deleting leaves when the node that runs it says, in its current epoch, that it has ended
unfoldable pub finish : State → Option ℕ → List ℕ → Option PodData → Outcome
finish s stale node None = Says (Refused NotFound)
finish s stale node (Some p) =
    refuse_stale stale
    (refuse (not (is_deleting p.meta)) (Invalid fields.Deletion)
    (refuse (not (bytes_eq p.node node)) (Invalid fields.NodeName)
    (Removes (at_version (Pod p) (s.version + 1)))))

-- what the request comes to on the store at this moment. `stale` is the current epoch of the node that a FinishPod
-- names, where the request has another. A request to others than the store is refused here
unfoldable pub outcome : State → SeatKind → Request → List ℕ → Option ℕ → Outcome
outcome s kind (requests.Create o) moment stale = create s kind o moment (row_at (key_of o) s.rows)
outcome s kind (requests.Update o given) moment stale = update s kind o given (row_at (key_of o) s.rows)
outcome s kind (requests.UpdateStatus key status given) moment stale = update_status s kind status given (row_at key s.rows)
outcome s kind (requests.Edit key change) moment stale = edit s kind change (row_at key s.rows)
outcome s kind (requests.Delete key given) moment stale = delete s moment given (row_at key s.rows)
outcome s kind (requests.Get key) moment stale = get (row_at key s.rows)
outcome s kind (requests.List k namespace) moment stale = list s k namespace
outcome s kind (requests.BindPod key uid node) moment stale =
    refuse (is_user kind) (Forbidden rules.Verb) (bind s node (pod_with uid (row_at key s.rows)))
outcome s kind (requests.FinishPod key uid node epoch) moment stale =
    refuse (is_user kind) (Forbidden rules.Verb) (finish s stale node (pod_with uid (row_at key s.rows)))
outcome s kind _ moment stale = Says (Refused (Invalid fields.Kind))

-- the reply to an outcome
unfoldable pub reply_of : Outcome → Reply
reply_of (Says reply) = reply
reply_of (Stores change o) = Done o
reply_of (Removes o) = Left o

-- the store after an outcome: each write raises the version by one
unfoldable pub after : State → Outcome → State
after s (Says reply) = s
after s (Stores change o) = record { rows = put_row o s.rows; version = s.version + 1 }
after s (Removes o) = record { rows = without_row (key_of o) s.rows; version = s.version + 1 }

-- the requests that the store answers
abbrev pub is_for_store : Request → Bool
is_for_store (requests.Create o) = true
is_for_store (requests.Update o given) = true
is_for_store (requests.UpdateStatus key status given) = true
is_for_store (requests.Edit key change) = true
is_for_store (requests.Delete key given) = true
is_for_store (requests.Get key) = true
is_for_store (requests.List k namespace) = true
is_for_store (requests.BindPod key uid node) = true
is_for_store (requests.FinishPod key uid node epoch) = true
is_for_store _ = false
