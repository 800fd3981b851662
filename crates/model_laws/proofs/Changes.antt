-- Whose place an outcome's object takes: none, or that of an object whose identity it keeps.
use Rattle.std.proofs.Common.{sym, refl, ap, ◌∙◌, true≢false}
use Rattle.std.specs.Prelude.{ℕ, ◌≡◌, Bool, true, false, List, Option, Some, None, is_some, option_map, ⊤}
use Rattle.kube_parts.specs.declared.uid.Uid.{Uid}
use Rattle.kube_objects.specs.declared.key.Key.{Key}
use Rattle.kube_objects.specs.declared.objects.Pod.{Pod as PodData}
use Rattle.kube_objects.specs.declared.objects.Object.{Object}
use Rattle.kube_objects.specs.declared.objects.Object.TheVariants.{Pod}
use Rattle.kube_objects.specs.Keys.{meta_of, key_of, row_at}
use Rattle.kube_objects.specs.Bindings.{is_deleting, is_uid}
use Rattle.kube_objects.proofs.KeyOrder.{row_at_key}
use Rattle.call_types.specs.declared.edit.Edit.{Edit}
use Rattle.call_types.specs.declared.request.NewStatus.{NewStatus}
use Rattle.call_types.specs.declared.request.SeatKind.{SeatKind}
use Rattle.call_types.specs.declared.request.Request.{Request}
use Rattle.call_types.specs.declared.request.Request.TheVariants as requests
use Rattle.call_types.specs.declared.reply.Change.{Change}
use Rattle.call_types.specs.declared.reply.Change.TheVariants.{Added}
use Rattle.binder_model.specs.Store.{State, leaves}
use Rattle.binder_model.specs.Answers.{
  Outcome,
  Says,
  Stores,
  Removes,
  write_outcome,
  create,
  update,
  written_if_fits,
  update_status,
  edit_to,
  edit,
  delete_of,
  delete,
  get,
  list,
  pod_with,
  bind,
  finish,
  outcome,
}
use Rattle.model_laws.proofs.OnOutcome.{OnOutcome, says, refused_or, field_or, rule_or, stale_or}
use Rattle.model_laws.specs.Histories.{KeepsIdentity}
use Rattle.model_laws.proofs.Identity.{key-created, key-updated, key-at_version, key-marked, updated_keeps, at_version_keeps, marked_keeps, IsKeyKept, IsVersionOf, status_kept, edit_kept}

-- an object is put where one stood whose identity it keeps
abbrev pub IsOver : List Object → Object → Type 0
IsOver rows o = (old : Object) × ((row_at (key_of o) rows ≡ Some old) × KeepsIdentity old o)

-- a new object is put where none stood, another over an old one
abbrev pub IsInPlace : List Object → Change → Object → Type 0
IsInPlace rows Added o = row_at (key_of o) rows ≡ None
IsInPlace rows change o = IsOver rows o

abbrev pub ChangeOf : List Object → Outcome → Type 0
ChangeOf rows (Says reply) = ⊤
ChangeOf rows (Stores change o) = IsInPlace rows change o
ChangeOf rows (Removes o) = ⊤

abbrev pub IsChange : List Object → Outcome → Type 0
IsChange rows = OnOutcome (ChangeOf rows)

-- the object of an old one's key is written, and keeps its identity
over : (rows : List Object) (key : Key) (old new : Object) → row_at key rows ≡ Some old → key_of new ≡ key → KeepsIdentity old new → IsOver rows new
over rows key old new is same keeps = (old, (ap (λ k. row_at k rows) same ∙ is, keeps))

wrote : (rows : List Object) (key : Key) (old new : Object) → row_at key rows ≡ Some old → key_of new ≡ key → KeepsIdentity old new → IsChange rows (write_outcome new)
wrote rows key old new is same keeps = by_leaving (leaves new) refl
  where
    by_leaving : (b : Bool) → leaves new ≡ b → IsChange rows (write_outcome new)
    by_leaving true e = rw e (record { holds = tt })
    by_leaving false e = rw e (record { holds = over rows key old new is same keeps })

create_changes : (s : State) (kind : SeatKind) (o : Object) (moment : List ℕ) (x : Option Object) → row_at (key_of o) s.rows ≡ x → IsChange s.rows (create s kind o moment x)
unfolding create
create_changes s kind o moment (Some old) is = says (λ r. tt) _
create_changes s kind o moment None is = rule_or (λ r. tt) _ _ (field_or (λ r. tt) _ _ (λ e. record { holds = ap (λ k. row_at k s.rows) (key-created _ o _ moment) ∙ is }))

update_changes : (s : State) (kind : SeatKind) (o : Object) (given : Option ℕ) (x : Option Object) → row_at (key_of o) s.rows ≡ x → IsChange s.rows (update s kind o given x)
unfolding update
update_changes s kind o given None is = says (λ r. tt) _
update_changes s kind o given (Some old) is =
    refused_or (λ r. tt) _ _ _ (rule_or (λ r. tt) _ _ (field_or (λ r. tt) _ _ (λ e. wrote s.rows (key_of o) old _ is (key-updated old o _) (updated_keeps old o _ e))))

if_fits : (s : State) (key : Key) (old : Object) (x : Option Object) → row_at key s.rows ≡ Some old → IsVersionOf old x → IsChange s.rows (written_if_fits s x)
unfolding written_if_fits
if_fits s key old None is v = says (λ r. tt) _
if_fits s key old (Some new) is v =
    wrote s.rows key old _ is (key-at_version new _ ∙ v.1 ∙ row_at_key key old s.rows is) (at_version_keeps old new _ v.0 v.2)

status_changes : (s : State) (kind : SeatKind) (key : Key) (status : NewStatus) (given : Option ℕ) (x : Option Object) → row_at key s.rows ≡ x → IsChange s.rows (update_status s kind status given x)
unfolding update_status
status_changes s kind key status given None is = refused_or (λ r. tt) _ _ _ (says (λ r. tt) _)
status_changes s kind key status given (Some old) is = refused_or (λ r. tt) _ _ _ (refused_or (λ r. tt) _ _ _ (if_fits s key old _ is (status_kept status old)))

edit_to_changes : (s : State) (kind : SeatKind) (key : Key) (old : Object) (x : Option Object) → row_at key s.rows ≡ Some old → IsKeyKept old x → IsChange s.rows (edit_to s kind old x)
unfolding edit_to
edit_to_changes s kind key old None is k = says (λ r. tt) _
edit_to_changes s kind key old (Some new) is k =
    rule_or (λ r. tt) _ _ (field_or (λ r. tt) _ _ (λ e. wrote s.rows key old _ is (key-updated old new _ ∙ k ∙ row_at_key key old s.rows is) (updated_keeps old new _ e)))

edit_changes : (s : State) (kind : SeatKind) (key : Key) (change : Edit) (x : Option Object) → row_at key s.rows ≡ x → IsChange s.rows (edit s kind change x)
unfolding edit
edit_changes s kind key change None is = says (λ r. tt) _
edit_changes s kind key change (Some old) is = edit_to_changes s kind key old _ is (edit_kept change old)

delete_of_changes : (s : State) (moment : List ℕ) (key : Key) (old : Object) (at_once deleting : Bool) → row_at key s.rows ≡ Some old
    → is_deleting (meta_of old) ≡ deleting → IsChange s.rows (delete_of s moment old at_once deleting)
unfolding delete_of
delete_of_changes s moment key old true deleting is d = record { holds = tt }
delete_of_changes s moment key old false true is d = says (λ r. tt) _
delete_of_changes s moment key old false false is d = wrote s.rows key old _ is (key-marked old _ moment ∙ row_at_key key old s.rows is) (marked_keeps old _ moment d)

delete_changes : (s : State) (moment : List ℕ) (key : Key) (given : Option Uid) (x : Option Object) → row_at key s.rows ≡ x → IsChange s.rows (delete s moment given x)
unfolding delete
delete_changes s moment key given None is = says (λ r. tt) _
delete_changes s moment key given (Some old) is = refused_or (λ r. tt) _ _ _ (delete_of_changes s moment key old _ _ is refl)

get_changes : (rows : List Object) (x : Option Object) → IsChange rows (get x)
unfolding get
get_changes rows None = says (λ r. tt) _
get_changes rows (Some o) = says (λ r. tt) _

pod_row : (uid : Uid) (x : Option Object) (p : PodData) → pod_with uid x ≡ Some p → x ≡ Some (Pod p)
unfolding pod_with
pod_row uid (Some (Pod q)) p e = by (is_uid q.meta.uid uid) refl
  where
    by : (b : Bool) → is_uid q.meta.uid uid ≡ b → Some (Pod q) ≡ Some (Pod p)
    by true is = let f : Some q ≡ Some p = rw is at e in ap (option_map (λ r. Pod r)) f
    by false is = let f : None ≡ Some p = rw is at e in absurd (true≢false (sym (ap is_some f)))
pod_row uid x p e = absurd (true≢false (sym (ap is_some e)))

bind_changes : (s : State) (key : Key) (node : List ℕ) (x : Option PodData) → ((p : PodData) → x ≡ Some p → row_at key s.rows ≡ Some (Pod p)) → IsChange s.rows (bind s node x)
unfolding bind
bind_changes s key node None is = says (λ r. tt) _
bind_changes s key node (Some p) is =
    refused_or (λ r. tt) _ _ _ (refused_or (λ r. tt) _ _ _ (record {
      holds =
          over s.rows key (Pod p) _ (is p refl) (key-at_version (Pod (record p { node = node })) _ ∙ row_at_key key (Pod p) s.rows (is p refl))
          (at_version_keeps (Pod p) (Pod (record p { node = node })) _ refl tt);
    }))

finish_changes : (s : State) (stale : Option ℕ) (node : List ℕ) (x : Option PodData) → IsChange s.rows (finish s stale node x)
unfolding finish
finish_changes s stale node None = says (λ r. tt) _
finish_changes s stale node (Some p) = stale_or (λ r. tt) _ _ (refused_or (λ r. tt) _ _ _ (refused_or (λ r. tt) _ _ _ (record { holds = tt })))

-- each outcome puts its object in place
pub outcome_changes : (s : State) (kind : SeatKind) (request : Request) (moment : List ℕ) (stale : Option ℕ) → IsChange s.rows (outcome s kind request moment stale)
unfolding outcome list
outcome_changes s kind (requests.Create o) moment stale = create_changes s kind o moment _ refl
outcome_changes s kind (requests.Update o given) moment stale = update_changes s kind o given _ refl
outcome_changes s kind (requests.UpdateStatus key status given) moment stale = status_changes s kind key status given _ refl
outcome_changes s kind (requests.Edit key change) moment stale = edit_changes s kind key change _ refl
outcome_changes s kind (requests.Delete key given) moment stale = delete_changes s moment key given _ refl
outcome_changes s kind (requests.Get key) moment stale = get_changes _ _
outcome_changes s kind (requests.List k namespace) moment stale = says (λ r. tt) _
outcome_changes s kind (requests.BindPod key uid node) moment stale = refused_or (λ r. tt) _ _ _ (bind_changes s key node _ (λ p e. pod_row uid _ p e))
outcome_changes s kind (requests.FinishPod key uid node epoch) moment stale = refused_or (λ r. tt) _ _ _ (finish_changes s stale node _)
outcome_changes s kind _ moment stale = says (λ r. tt) _
