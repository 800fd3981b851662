-- The request of a claim never changes.
use Rattle.std.proofs.Common.{refl, ap, ◌∙◌, arith}
use Rattle.std.proofs.lemmas.Bool.{and_parts, not-false}
use Rattle.std.proofs.lemmas.Bool.Decides.{nat_tests}
use Rattle.std.specs.Prelude.{ℕ, ◌≡◌, ◌==◌, Bool, true, false, ◌&&◌, List, Option, Some, None, bytes_eq, ⊤}
use Rattle.std.specs.Bool.{beq}
use Rattle.kube_objects.specs.declared.key.Key.{Key}
use Rattle.kube_parts.specs.declared.uid.Uid.{Uid}
use Rattle.kube_objects.specs.declared.objects.Claim.{Claim as ClaimData}
use Rattle.kube_objects.specs.declared.objects.Meta.{Meta}
use Rattle.kube_objects.specs.declared.objects.Pod.{Pod as PodData}
use Rattle.kube_objects.specs.declared.objects.Object.{Object}
use Rattle.kube_objects.specs.declared.objects.Object.TheVariants.{Class, Node, Volume, Claim, Pod}
use Rattle.kube_objects.specs.Keys.{key_of, row_at}
use Rattle.kube_objects.specs.Bindings.{is_uid}
use Rattle.kube_objects.proofs.KeyOrder.{row_at_key}
use Rattle.call_types.specs.declared.edit.Edit.{Edit}
use Rattle.call_types.specs.declared.request.NewStatus.{NewStatus}
use Rattle.call_types.specs.declared.request.NewStatus.TheVariants as statuses
use Rattle.call_types.specs.declared.request.SeatKind.{SeatKind}
use Rattle.call_types.specs.declared.request.Request.{Request}
use Rattle.call_types.specs.declared.request.Request.TheVariants as requests
use Rattle.call_types.specs.declared.reply.Change.{Change}
use Rattle.call_types.specs.declared.reply.Change.TheVariants.{Added}
use Rattle.binder_model.specs.Same.{same_option, same_modes, same_amount, same_selector}
use Rattle.binder_model.specs.Fields.{changed_field, keeps_class, same_claim_spec, update_fault}
use Rattle.binder_model.specs.Store.{State, at_version, leaves, marked_object, updated_object, with_meta, with_status_of}
use Rattle.binder_model.specs.Answers.{Outcome, Says, Stores, Removes, outcome}
use Rattle.binder_model.specs.Answers.{write_outcome, create, update, with_status, written_if_fits, update_status, edit_to, edit, delete_of, delete, get, list, pod_if, pod_with, bind, finish}
use Rattle.model_laws.proofs.OnOutcome.{OnOutcome, says, refused_or, field_or, rule_or, stale_or}
use Rattle.model_laws.proofs.Identity.{faulty_none, key-updated, key-at_version, key-marked, IsKeyKept, IsVersionOf, status_kept, edit_kept}

abbrev pub KeepsBytes : Object → Object → Type 0
KeepsBytes (Claim a) (Claim b) = b.amount.bytes ≡ a.amount.bytes
KeepsBytes old new = ⊤

claim_fixed : (a b : ClaimData) → update_fault (Claim a) (Claim b) ≡ None → b.amount.bytes ≡ a.amount.bytes
unfolding update_fault changed_field
claim_fixed a b e =
    let spec = and_parts (same_claim_spec a b) (keeps_class a b) (not-false _ (faulty_none _ _ _ e).0) in
    let selectors =
    and_parts (same_modes a.modes b.modes && same_amount a.amount b.amount && beq a.block b.block && same_option same_selector a.selector b.selector) (bytes_eq a.extra b.extra) spec.0 in
    let blocks = and_parts (same_modes a.modes b.modes && same_amount a.amount b.amount && beq a.block b.block) (same_option same_selector a.selector b.selector) selectors.0 in
    let sizes = and_parts (same_modes a.modes b.modes && same_amount a.amount b.amount) (beq a.block b.block) blocks.0 in
    let amounts = and_parts (same_modes a.modes b.modes) (same_amount a.amount b.amount) sizes.0 in
    let bytes : (a.amount.bytes == b.amount.bytes) ≡ true = (and_parts (bytes_eq a.amount.text b.amount.text) (a.amount.bytes == b.amount.bytes) amounts.1).1 in
    grind (arith, nat_tests)

-- other metadata leave the request
with_meta_bytes : (old new : Object) (m : Meta) → KeepsBytes old new → KeepsBytes old (with_meta new m)
unfolding with_meta
with_meta_bytes (Claim a) (Class x) m k = tt
with_meta_bytes (Claim a) (Node x) m k = tt
with_meta_bytes (Claim a) (Volume x) m k = tt
with_meta_bytes (Claim a) (Claim x) m k = k
with_meta_bytes (Claim a) (Pod x) m k = tt
with_meta_bytes (Class a) new m k = tt
with_meta_bytes (Node a) new m k = tt
with_meta_bytes (Volume a) new m k = tt
with_meta_bytes (Pod a) new m k = tt

with_status_of_bytes : (old new : Object) → KeepsBytes old new → KeepsBytes old (with_status_of old new)
unfolding with_status_of
with_status_of_bytes (Claim a) (Class x) k = tt
with_status_of_bytes (Claim a) (Node x) k = tt
with_status_of_bytes (Claim a) (Volume x) k = tt
with_status_of_bytes (Claim a) (Claim x) k = k
with_status_of_bytes (Claim a) (Pod x) k = tt
with_status_of_bytes (Class a) new k = tt
with_status_of_bytes (Node a) new k = tt
with_status_of_bytes (Volume a) new k = tt
with_status_of_bytes (Pod a) new k = tt

own_bytes : (o : Object) → KeepsBytes o o
own_bytes (Class x) = tt
own_bytes (Node x) = tt
own_bytes (Volume x) = tt
own_bytes (Claim x) = refl
own_bytes (Pod x) = tt

fault_bytes : (old new : Object) → update_fault old new ≡ None → KeepsBytes old new
fault_bytes (Claim a) (Class x) e = tt
fault_bytes (Claim a) (Node x) e = tt
fault_bytes (Claim a) (Volume x) e = tt
fault_bytes (Claim a) (Claim b) e = claim_fixed a b e
fault_bytes (Claim a) (Pod x) e = tt
fault_bytes (Class a) new e = tt
fault_bytes (Node a) new e = tt
fault_bytes (Volume a) new e = tt
fault_bytes (Pod a) new e = tt

updated_bytes : (old new : Object) (n : ℕ) → update_fault old new ≡ None → KeepsBytes old (updated_object old new n)
unfolding updated_object
updated_bytes old new n e = with_meta_bytes old (with_status_of old new) _ (with_status_of_bytes old new (fault_bytes old new e))

at_version_bytes : (old new : Object) (n : ℕ) → KeepsBytes old new → KeepsBytes old (at_version new n)
unfolding at_version
at_version_bytes old new n k = with_meta_bytes old new _ k

marked_bytes : (old : Object) (n : ℕ) (moment : List ℕ) → KeepsBytes old (marked_object old n moment)
unfolding marked_object
marked_bytes old n moment = with_meta_bytes old old _ (own_bytes old)

abbrev IsStatusOf : Object → Option Object → Type 0
IsStatusOf old None = ⊤
IsStatusOf old (Some new) = KeepsBytes old new

status_bytes : (status : NewStatus) (old : Object) → IsStatusOf old (with_status status old)
unfolding with_status
status_bytes (statuses.Volume phase) (Volume v) = tt
status_bytes (statuses.Claim phase modes amount) (Claim c) = refl
status_bytes status old = tt

-- ---- outcomes

-- an object that is put over an old one keeps the request; none has come from elsewhere
abbrev pub IsOverBytes : List Object → Object → Type 0
IsOverBytes rows o = (old : Object) × ((row_at (key_of o) rows ≡ Some old) × KeepsBytes old o)

abbrev pub IsPutBytes : List Object → Change → Object → Type 0
IsPutBytes rows Added o = ⊤
IsPutBytes rows change o = IsOverBytes rows o

abbrev pub BytesOf : List Object → Outcome → Type 0
BytesOf rows (Says reply) = ⊤
BytesOf rows (Stores change o) = IsPutBytes rows change o
BytesOf rows (Removes o) = ⊤

abbrev pub KeepBytes : List Object → Outcome → Type 0
KeepBytes rows = OnOutcome (BytesOf rows)

over : (rows : List Object) (key : Key) (old new : Object) → row_at key rows ≡ Some old → key_of new ≡ key → KeepsBytes old new → IsOverBytes rows new
over rows key old new is same keeps = (old, (ap (λ k. row_at k rows) same ∙ is, keeps))

wrote : (rows : List Object) (key : Key) (old new : Object) → row_at key rows ≡ Some old → key_of new ≡ key → KeepsBytes old new → KeepBytes rows (write_outcome new)
wrote rows key old new is same keeps = by_leaving (leaves new) refl
  where
    by_leaving : (b : Bool) → leaves new ≡ b → KeepBytes rows (write_outcome new)
    by_leaving true e = rw e (record { holds = tt })
    by_leaving false e = rw e (record { holds = over rows key old new is same keeps })

create_bytes : (s : State) (kind : SeatKind) (o : Object) (moment : List ℕ) (x : Option Object) → KeepBytes s.rows (create s kind o moment x)
unfolding create
create_bytes s kind o moment (Some old) = says (λ r. tt) _
create_bytes s kind o moment None = rule_or (λ r. tt) _ _ (field_or (λ r. tt) _ _ (λ e. record { holds = tt }))

update_bytes : (s : State) (kind : SeatKind) (o : Object) (given : Option ℕ) (x : Option Object) → row_at (key_of o) s.rows ≡ x → KeepBytes s.rows (update s kind o given x)
unfolding update
update_bytes s kind o given None is = says (λ r. tt) _
update_bytes s kind o given (Some old) is =
    refused_or (λ r. tt) _ _ _ (rule_or (λ r. tt) _ _ (field_or (λ r. tt) _ _ (λ e. wrote s.rows (key_of o) old _ is (key-updated old o _) (updated_bytes old o _ e))))

if_fits : (s : State) (key : Key) (old : Object) (x : Option Object) → row_at key s.rows ≡ Some old → IsVersionOf old x → IsStatusOf old x → KeepBytes s.rows (written_if_fits s x)
unfolding written_if_fits
if_fits s key old None is v k = says (λ r. tt) _
if_fits s key old (Some new) is v k = wrote s.rows key old _ is (key-at_version new _ ∙ v.1 ∙ row_at_key key old s.rows is) (at_version_bytes old new _ k)

update_status_bytes : (s : State) (kind : SeatKind) (key : Key) (status : NewStatus) (given : Option ℕ) (x : Option Object) → row_at key s.rows ≡ x
    → KeepBytes s.rows (update_status s kind status given x)
unfolding update_status
update_status_bytes s kind key status given None is = refused_or (λ r. tt) _ _ _ (says (λ r. tt) _)
update_status_bytes s kind key status given (Some old) is = refused_or (λ r. tt) _ _ _ (refused_or (λ r. tt) _ _ _ (if_fits s key old _ is (status_kept status old) (status_bytes status old)))

edit_to_bytes : (s : State) (kind : SeatKind) (key : Key) (old : Object) (x : Option Object) → row_at key s.rows ≡ Some old → IsKeyKept old x → KeepBytes s.rows (edit_to s kind old x)
unfolding edit_to
edit_to_bytes s kind key old None is k = says (λ r. tt) _
edit_to_bytes s kind key old (Some new) is k =
    rule_or (λ r. tt) _ _ (field_or (λ r. tt) _ _ (λ e. wrote s.rows key old _ is (key-updated old new _ ∙ k ∙ row_at_key key old s.rows is) (updated_bytes old new _ e)))

edit_bytes : (s : State) (kind : SeatKind) (key : Key) (change : Edit) (x : Option Object) → row_at key s.rows ≡ x → KeepBytes s.rows (edit s kind change x)
unfolding edit
edit_bytes s kind key change None is = says (λ r. tt) _
edit_bytes s kind key change (Some old) is = edit_to_bytes s kind key old _ is (edit_kept change old)

delete_of_bytes : (s : State) (moment : List ℕ) (key : Key) (old : Object) (at_once deleting : Bool) → row_at key s.rows ≡ Some old → KeepBytes s.rows (delete_of s moment old at_once deleting)
unfolding delete_of
delete_of_bytes s moment key old true deleting is = record { holds = tt }
delete_of_bytes s moment key old false true is = says (λ r. tt) _
delete_of_bytes s moment key old false false is = wrote s.rows key old _ is (key-marked old _ moment ∙ row_at_key key old s.rows is) (marked_bytes old _ moment)

delete_bytes : (s : State) (moment : List ℕ) (key : Key) (given : Option Uid) (x : Option Object) → row_at key s.rows ≡ x → KeepBytes s.rows (delete s moment given x)
unfolding delete
delete_bytes s moment key given None is = says (λ r. tt) _
delete_bytes s moment key given (Some old) is = refused_or (λ r. tt) _ _ _ (delete_of_bytes s moment key old _ _ is)

get_bytes : (rows : List Object) (x : Option Object) → KeepBytes rows (get x)
unfolding get
get_bytes rows None = says (λ r. tt) _
get_bytes rows (Some o) = says (λ r. tt) _

bind_none : (s : State) (node : List ℕ) → KeepBytes s.rows (bind s node None)
unfolding bind
bind_none s node = says (λ r. tt) _

bind_some : (s : State) (key : Key) (node : List ℕ) (p : PodData) → row_at key s.rows ≡ Some (Pod p) → KeepBytes s.rows (bind s node (Some p))
unfolding bind
bind_some s key node p is =
    let at = key-at_version (Pod (record p { node = node })) _ ∙ row_at_key key (Pod p) s.rows is in
    refused_or (λ r. tt) _ _ _ (refused_or (λ r. tt) _ _ _ (record { holds = over s.rows key (Pod p) _ is at tt }))

bind_bytes : (s : State) (key : Key) (node : List ℕ) (uid : Uid) (x : Option Object) → row_at key s.rows ≡ x → KeepBytes s.rows (bind s node (pod_with uid x))
unfolding pod_with
bind_bytes s key node uid (Some (Pod p)) is = by (is_uid p.meta.uid uid)
  where
    by : (b : Bool) → KeepBytes s.rows (bind s node (pod_if b p))
    by true = bind_some s key node p is
    by false = bind_none s node
bind_bytes s key node uid x is = bind_none s node

finish_bytes : (s : State) (stale : Option ℕ) (node : List ℕ) (x : Option PodData) → KeepBytes s.rows (finish s stale node x)
unfolding finish
finish_bytes s stale node None = says (λ r. tt) _
finish_bytes s stale node (Some p) = stale_or (λ r. tt) _ _ (refused_or (λ r. tt) _ _ _ (refused_or (λ r. tt) _ _ _ (record { holds = tt })))

pub outcome_bytes : (s : State) (kind : SeatKind) (request : Request) (moment : List ℕ) (stale : Option ℕ) → KeepBytes s.rows (outcome s kind request moment stale)
unfolding outcome list
outcome_bytes s kind (requests.Create o) moment stale = create_bytes s kind o moment _
outcome_bytes s kind (requests.Update o given) moment stale = update_bytes s kind o given _ refl
outcome_bytes s kind (requests.UpdateStatus key status given) moment stale = update_status_bytes s kind key status given _ refl
outcome_bytes s kind (requests.Edit key change) moment stale = edit_bytes s kind key change _ refl
outcome_bytes s kind (requests.Delete key given) moment stale = delete_bytes s moment key given _ refl
outcome_bytes s kind (requests.Get key) moment stale = get_bytes _ _
outcome_bytes s kind (requests.List k namespace) moment stale = says (λ r. tt) _
outcome_bytes s kind (requests.BindPod key uid node) moment stale = refused_or (λ r. tt) _ _ _ (bind_bytes s key node uid _ refl)
outcome_bytes s kind (requests.FinishPod key uid node epoch) moment stale = refused_or (λ r. tt) _ _ _ (finish_bytes s stale node _)
outcome_bytes s kind _ moment stale = says (λ r. tt) _
