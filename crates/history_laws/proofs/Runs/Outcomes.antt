-- The walk over the verbs of the store: what it says and what it writes a text can give, where a text can give the request.
use Rattle.std.proofs.Common.{arith}
use Rattle.std.specs.Prelude.{ℕ, ◌+◌, ◌^◌, ◌≤◌, Bool, true, false, List, Option, Some, None, IfSome, All}
use Rattle.std.proofs.lemmas.List.Elements.{All-filter}
use Rattle.kube_parts.specs.declared.uid.Uid.{Uid}
use Rattle.kube_parts.specs.declared.names.Field.{Field}
use Rattle.kube_parts.specs.declared.names.Rule.{Rule}
use Rattle.kube_parts.specs.declared.parts.Kind.{Kind}
use Rattle.kube_objects.specs.declared.objects.Pod.{Pod as PodData}
use Rattle.kube_objects.specs.declared.objects.Object.{Object}
use Rattle.kube_objects.specs.declared.objects.Object.TheVariants.{Class, Node, Volume, Claim, Pod}
use Rattle.kube_objects.specs.Keys.{key_cmp, key_of, meta_of, rows_of, is_of_kind}
use Rattle.kube_objects.specs.Bindings.{is_deleting, is_uid}
use Rattle.call_types.specs.declared.edit.Edit.{Edit}
use Rattle.call_types.specs.declared.request.NewStatus.{NewStatus}
use Rattle.call_types.specs.declared.request.SeatKind.{SeatKind}
use Rattle.call_types.specs.declared.request.Request.{Request}
use Rattle.call_types.specs.declared.request.Request.TheVariants as requests
use Rattle.call_types.specs.declared.reply.Refusal.{Refusal}
use Rattle.binder_model.specs.Store.{State, leaves, leaves_at_once}
use Rattle.binder_model.specs.Edits.{edited_object}
use Rattle.binder_model.specs.Answers.{
  Outcome,
  Says,
  Stores,
  Removes,
  refuse,
  refuse_field,
  refuse_rule,
  refuse_stale,
  write_of,
  write_outcome,
  create,
  update,
  with_status,
  written_if_fits,
  update_status,
  edit_to,
  edit,
  delete_of,
  delete,
  get,
  is_in_namespace,
  listed_rows,
  list,
  pod_if,
  pod_with,
  bind,
  finish,
  outcome,
}
use Rattle.object_laws.specs.Given.{IsStamp, IsPod, IsGivenObject}
use Rattle.history_laws.specs.Read.Given.{IsNumber, IsStatus, IsRequest, IsRefusal, IsReply}
use Rattle.history_laws.proofs.Runs.Lists.{find_all}
use Rattle.history_laws.proofs.Runs.Objects.{version_given, created_given, updated_given, at_version_given, marked_given, edited_given, status_given, pod_placed}

abbrev pub OfOutcome : Outcome → Type 0
OfOutcome (Says reply) = IsReply reply
OfOutcome (Stores change o) = IsGivenObject o
OfOutcome (Removes o) = IsGivenObject o

pub record IsGivenOutcome (x : Outcome) : Type 0 where
  pub given : OfOutcome x

refused_or : (b : Bool) (r : Refusal) (x : Outcome) → IsRefusal r → IsGivenOutcome x → IsGivenOutcome (refuse b r x)
unfolding refuse
refused_or true r x k h = record { given = k }
refused_or false r x k h = h

field_or : (f : Option Field) (x : Outcome) → IsGivenOutcome x → IsGivenOutcome (refuse_field f x)
unfolding refuse_field
field_or (Some f) x h = record { given = tt }
field_or None x h = h

rule_or : (f : Option Rule) (x : Outcome) → IsGivenOutcome x → IsGivenOutcome (refuse_rule f x)
unfolding refuse_rule
rule_or (Some f) x h = record { given = tt }
rule_or None x h = h

stale_or : (f : Option ℕ) (x : Outcome) → IfSome f IsNumber → IsGivenOutcome x → IsGivenOutcome (refuse_stale f x)
unfolding refuse_stale
stale_or (Some f) x k h = record { given = k }
stale_or None x k h = h

write_given : (o : Object) (b : Bool) → IsGivenObject o → IsGivenOutcome (write_of o b)
write_given o true h = record { given = h }
write_given o false h = record { given = h }

wrote : (o : Object) → IsGivenObject o → IsGivenOutcome (write_outcome o)
wrote o h = write_given o (leaves o) h

version_number : (o : Object) → IsGivenObject o → IsNumber (meta_of o).version
version_number o h = let few = version_given o h in omega (arith, few)

-- ---- each verb, at what stands under its key

module _ (s : State) (few : s.version + 1 ≤ 2 ^ 62) where
  create_outcome : (kind : SeatKind) (o : Object) (moment : List ℕ) (x : Option Object) → IsStamp moment → IsGivenObject o → IsGivenOutcome (create s kind o moment x)
  unfolding create
  create_outcome kind o moment (Some old) at h = record { given = tt }
  create_outcome kind o moment None at h = rule_or _ _ (field_or _ _ (record { given = created_given _ o _ moment h few at }))

  update_outcome : (kind : SeatKind) (o : Object) (given : Option ℕ) (x : Option Object) → IfSome x IsGivenObject → IsGivenObject o → IsGivenOutcome (update s kind o given x)
  unfolding update
  update_outcome kind o given None old h = record { given = tt }
  update_outcome kind o given (Some old) k h = refused_or _ _ _ (version_number old k) (rule_or _ _ (field_or _ _ (wrote _ (updated_given old o _ k h few))))

  if_fits : (x : Option Object) → IfSome x IsGivenObject → IsGivenOutcome (written_if_fits s x)
  unfolding written_if_fits
  if_fits None h = record { given = tt }
  if_fits (Some o) h = wrote _ (at_version_given o _ h few)

  status_outcome : (kind : SeatKind) (status : NewStatus) (given : Option ℕ) (x : Option Object) → IfSome x IsGivenObject → IsStatus status → IsGivenOutcome (update_status s kind status given x)
  unfolding update_status
  status_outcome kind status given None k h = refused_or _ _ _ tt (record { given = tt })
  status_outcome kind status given (Some old) k h = refused_or _ _ _ tt (refused_or _ _ _ (version_number old k) (if_fits (with_status status old) (status_given status old h k)))

  edit_to_outcome : (kind : SeatKind) (old : Object) (x : Option Object) → IsGivenObject old → IfSome x IsGivenObject → IsGivenOutcome (edit_to s kind old x)
  unfolding edit_to
  edit_to_outcome kind old None k h = record { given = tt }
  edit_to_outcome kind old (Some new) k h = rule_or _ _ (field_or _ _ (wrote _ (updated_given old new _ k h few)))

  edit_outcome : (kind : SeatKind) (change : Edit) (x : Option Object) → IfSome x IsGivenObject → IsGivenOutcome (edit s kind change x)
  unfolding edit
  edit_outcome kind change None k = record { given = tt }
  edit_outcome kind change (Some old) k = edit_to_outcome kind old (edited_object change old) k (edited_given change old k)

  delete_of_outcome : (moment : List ℕ) (old : Object) (at_once deleting : Bool) → IsStamp moment → IsGivenObject old → IsGivenOutcome (delete_of s moment old at_once deleting)
  unfolding delete_of
  delete_of_outcome moment old true deleting at k = record { given = marked_given old _ moment k few at }
  delete_of_outcome moment old false true at k = record { given = k }
  delete_of_outcome moment old false false at k = wrote _ (marked_given old _ moment k few at)

  delete_outcome : (moment : List ℕ) (given : Option Uid) (x : Option Object) → IsStamp moment → IfSome x IsGivenObject → IsGivenOutcome (delete s moment given x)
  unfolding delete
  delete_outcome moment given None at k = record { given = tt }
  delete_outcome moment given (Some old) at k = refused_or _ _ _ (version_number old k) (delete_of_outcome moment old (leaves_at_once old) (is_deleting (meta_of old)) at k)

  bind_outcome : (node : List ℕ) (x : Option PodData) → IfSome x IsPod → IsGivenOutcome (bind s node x)
  unfolding bind
  bind_outcome node None h = record { given = tt }
  bind_outcome node (Some p) h = refused_or _ _ _ tt (refused_or _ _ _ tt (record { given = at_version_given (Pod (record p { node = node })) _ (pod_placed p node h) few }))

  finish_outcome : (stale : Option ℕ) (node : List ℕ) (x : Option PodData) → IfSome stale IsNumber → IfSome x IsPod → IsGivenOutcome (finish s stale node x)
  unfolding finish
  finish_outcome stale node None k h = record { given = tt }
  finish_outcome stale node (Some p) k h = stale_or _ _ k (refused_or _ _ _ tt (refused_or _ _ _ tt (record { given = at_version_given (Pod p) _ h few })))

get_outcome : (x : Option Object) → IfSome x IsGivenObject → IsGivenOutcome (get x)
unfolding get
get_outcome None h = record { given = tt }
get_outcome (Some o) h = record { given = h }

listed_all : (namespace : Option (List ℕ)) (rows : List Object) → All IsGivenObject rows → All IsGivenObject (listed_rows namespace rows)
listed_all None rows h = h
listed_all (Some namespace) rows h = All-filter (is_in_namespace namespace) IsGivenObject rows h

list_outcome : (s : State) (kind : Kind) (namespace : Option (List ℕ)) → s.version + 1 ≤ 2 ^ 62 → All IsGivenObject s.rows → IsGivenOutcome (list s kind namespace)
unfolding list
list_outcome s kind namespace few h = record { given = (listed_all namespace (rows_of kind s.rows) (All-filter (is_of_kind kind) IsGivenObject s.rows h), omega (arith, few)) }

pod_found : (uid : Uid) (o : Option Object) → IfSome o IsGivenObject → IfSome (pod_with uid o) IsPod
unfolding pod_with
pod_found uid None h = tt
pod_found uid (Some (Pod p)) h = by (is_uid p.meta.uid uid)
  where
    by : (b : Bool) → IfSome (pod_if b p) IsPod
    by true = h
    by false = tt
pod_found uid (Some (Class x)) h = tt
pod_found uid (Some (Node x)) h = tt
pod_found uid (Some (Volume x)) h = tt
pod_found uid (Some (Claim x)) h = tt

-- ---- the walk

pub outcome_given : (s : State) (kind : SeatKind) (request : Request) (moment : List ℕ) (stale : Option ℕ)
    → s.version + 1 ≤ 2 ^ 62 → All IsGivenObject s.rows → IsStamp moment → IfSome stale IsNumber → IsRequest request → IsGivenOutcome (outcome s kind request moment stale)
unfolding outcome
outcome_given s kind (requests.Create o) moment stale few rows at k h = create_outcome s few kind o moment _ at h
outcome_given s kind (requests.Update o given) moment stale few rows at k h = update_outcome s few kind o given _ (find_all key_cmp key_of IsGivenObject (key_of o) s.rows rows) h.0
outcome_given s kind (requests.UpdateStatus key status given) moment stale few rows at k h = status_outcome s few kind status given _ (find_all key_cmp key_of IsGivenObject key s.rows rows) h.0
outcome_given s kind (requests.Edit key change) moment stale few rows at k h = edit_outcome s few kind change _ (find_all key_cmp key_of IsGivenObject key s.rows rows)
outcome_given s kind (requests.Delete key given) moment stale few rows at k h = delete_outcome s few moment given _ at (find_all key_cmp key_of IsGivenObject key s.rows rows)
outcome_given s kind (requests.Get key) moment stale few rows at k h = get_outcome _ (find_all key_cmp key_of IsGivenObject key s.rows rows)
outcome_given s kind (requests.List of_kind namespace) moment stale few rows at k h = list_outcome s of_kind namespace few rows
outcome_given s kind (requests.BindPod key uid node) moment stale few rows at k h =
    refused_or _ _ _ tt (bind_outcome s few node _ (pod_found uid _ (find_all key_cmp key_of IsGivenObject key s.rows rows)))
outcome_given s kind (requests.FinishPod key uid node epoch) moment stale few rows at k h =
    refused_or _ _ _ tt (finish_outcome s few stale node _ k (pod_found uid _ (find_all key_cmp key_of IsGivenObject key s.rows rows)))
outcome_given s kind _ moment stale few rows at k h = record { given = tt }
