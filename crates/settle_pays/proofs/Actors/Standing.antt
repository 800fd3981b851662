-- No volume and no claim that stands in a store has left: none is deleting without finalizers. It belongs beside `rows_are_valid` in `settle_writes`.
use Rattle.std.proofs.Common.{◌≡◌, ◌∙◌, ℕ, List, [], ◌∷◌, ◌++◌, Bool, true, false, Option, Some, None, inl, inr, refl, sym, ap, subst}
use Rattle.std.specs.Prelude.{cond, ⊤}
use Rattle.std.proofs.lemmas.Bool.{and_right}
use Rattle.kube_parts.specs.declared.uid.Uid.{Uid}
use Rattle.kube_objects.specs.declared.objects.Pod.{Pod as PodData}
use Rattle.kube_objects.specs.declared.objects.Object.{Object}
use Rattle.kube_objects.specs.declared.objects.Object.TheVariants.{Class, Node, Volume, Claim, Pod}
use Rattle.kube_objects.specs.declared.key.Key.{Key}
use Rattle.kube_objects.specs.Bindings.{has_name, is_deleting, pv_protection, pvc_protection}
use Rattle.kube_objects.specs.Keys.{AreRows, key_of, meta_of, put_row, row_at, without_row}
use Rattle.kube_objects.proofs.KeyOrder.{row_at-put_row, row_at-put_row_other, row_at-without_row, row_at-without_row_other}
use Rattle.kube_objects.proofs.SameKeys.{key_tells}
use Rattle.call_types.specs.declared.edit.Edit.{Edit}
use Rattle.call_types.specs.declared.entry.Entry.{Entry}
use Rattle.call_types.specs.declared.request.NewStatus.{NewStatus}
use Rattle.call_types.specs.declared.request.Request.{Request}
use Rattle.call_types.specs.declared.request.Request.TheVariants as requests
use Rattle.call_types.specs.declared.request.SeatKind.{SeatKind}
use Rattle.call_types.specs.declared.setup.Setup.{Setup}
use Rattle.binder_model.specs.Answers.{
  Outcome,
  Says,
  Stores,
  Removes,
  after,
  bind,
  create,
  delete,
  delete_of,
  edit,
  edit_to,
  finish,
  get,
  list,
  outcome,
  update,
  update_status,
  write_of,
  write_outcome,
  written_if_fits,
}
use Rattle.binder_model.specs.Edits.{edited_object}
use Rattle.binder_model.specs.Imports.{imported_object}
use Rattle.binder_model.specs.Store.{State, admitted_object, at_version, created_object, has_no_names, leaves, leaves_at_once, with_finalizer, with_meta, without_status}
use Rattle.binder_model.specs.World.{Effect, OnDevices, OnStore, SetsMoment, World, effect, world, world_after}
use Rattle.model_laws.proofs.Effects.{OfStore, on_effects}
use Rattle.model_laws.proofs.Histories.{rows_stand_in_order}
use Rattle.model_laws.proofs.Imported.{import_row}
use Rattle.model_laws.proofs.Lists.{none_some, one}
use Rattle.model_laws.proofs.OnOutcome.{OnOutcome, field_or, refused_or, rule_or, says, stale_or}

-- what is written has not left

abbrev StoresStaying : Outcome → Type 0
StoresStaying (Stores change o) = leaves o ≡ false
StoresStaying x = ⊤

wrote : (o : Object) → OnOutcome StoresStaying (write_outcome o)
wrote o = by (leaves o) refl
  where
    by : (b : Bool) → leaves o ≡ b → OnOutcome StoresStaying (write_of o b)
    by true is = record { holds = tt }
    by false is = record { holds = is }

created_stays : (default : Option (List ℕ)) (o : Object) (version : ℕ) (moment : List ℕ) → leaves (created_object default o version moment) ≡ false
unfolding leaves created_object admitted_object without_status with_meta
created_stays default (Class x) version moment = refl
created_stays default (Node x) version moment = refl
created_stays default (Volume x) version moment = refl
created_stays default (Claim x) version moment = refl
created_stays default (Pod x) version moment = refl

create_stays : (s : State) (kind : SeatKind) (o : Object) (moment : List ℕ) (x : Option Object) → OnOutcome StoresStaying (create s kind o moment x)
unfolding create
create_stays s kind o moment (Some old) = says (λ r. tt) _
create_stays s kind o moment None = rule_or (λ r. tt) _ _ (field_or (λ r. tt) _ _ (λ e. record { holds = created_stays _ o _ moment }))

update_stays : (s : State) (kind : SeatKind) (o : Object) (given : Option ℕ) (x : Option Object) → OnOutcome StoresStaying (update s kind o given x)
unfolding update
update_stays s kind o given None = says (λ r. tt) _
update_stays s kind o given (Some old) = refused_or (λ r. tt) _ _ _ (rule_or (λ r. tt) _ _ (field_or (λ r. tt) _ _ (λ e. wrote _)))

edit_stays : (s : State) (kind : SeatKind) (change : Edit) (x : Option Object) → OnOutcome StoresStaying (edit s kind change x)
unfolding edit edit_to
edit_stays s kind change None = says (λ r. tt) _
edit_stays s kind change (Some old) = by (edited_object change old)
  where
    by : (new : Option Object) → OnOutcome StoresStaying (edit_to s kind old new)
    by None = says (λ r. tt) _
    by (Some new) = rule_or (λ r. tt) _ _ (field_or (λ r. tt) _ _ (λ e. wrote _))

if_fits : (s : State) (o : Option Object) → OnOutcome StoresStaying (written_if_fits s o)
unfolding written_if_fits
if_fits s None = says (λ r. tt) _
if_fits s (Some o) = wrote _

status_stays : (s : State) (kind : SeatKind) (status : NewStatus) (given : Option ℕ) (x : Option Object) → OnOutcome StoresStaying (update_status s kind status given x)
unfolding update_status
status_stays s kind status given None = refused_or (λ r. tt) _ _ _ (says (λ r. tt) _)
status_stays s kind status given (Some old) = refused_or (λ r. tt) _ _ _ (refused_or (λ r. tt) _ _ _ (if_fits s _))

delete_stays : (s : State) (moment : List ℕ) (given : Option Uid) (x : Option Object) → OnOutcome StoresStaying (delete s moment given x)
unfolding delete delete_of
delete_stays s moment given None = says (λ r. tt) _
delete_stays s moment given (Some old) = refused_or (λ r. tt) _ _ _ (by (leaves_at_once old) (is_deleting (meta_of old)))
  where
    by : (at_once deleting : Bool) → OnOutcome StoresStaying (delete_of s moment old at_once deleting)
    by true deleting = record { holds = tt }
    by false true = says (λ r. tt) _
    by false false = wrote _

get_stays : (x : Option Object) → OnOutcome StoresStaying (get x)
unfolding get
get_stays None = says (λ r. tt) _
get_stays (Some o) = says (λ r. tt) _

bind_stays : (s : State) (node : List ℕ) (p : Option PodData) → OnOutcome StoresStaying (bind s node p)
unfolding bind at_version with_meta leaves
bind_stays s node None = says (λ r. tt) _
bind_stays s node (Some p) = refused_or (λ r. tt) _ _ _ (refused_or (λ r. tt) _ _ _ (record { holds = refl }))

finish_stays : (s : State) (stale : Option ℕ) (node : List ℕ) (p : Option PodData) → OnOutcome StoresStaying (finish s stale node p)
unfolding finish
finish_stays s stale node None = says (λ r. tt) _
finish_stays s stale node (Some p) = stale_or (λ r. tt) _ _ (refused_or (λ r. tt) _ _ _ (refused_or (λ r. tt) _ _ _ (record { holds = tt })))

outcome_stays : (s : State) (kind : SeatKind) (request : Request) (moment : List ℕ) (stale : Option ℕ) → OnOutcome StoresStaying (outcome s kind request moment stale)
unfolding outcome list
outcome_stays s kind (requests.Create o) moment stale = create_stays s kind o moment _
outcome_stays s kind (requests.Update o given) moment stale = update_stays s kind o given _
outcome_stays s kind (requests.UpdateStatus key status given) moment stale = status_stays s kind status given _
outcome_stays s kind (requests.Edit key change) moment stale = edit_stays s kind change _
outcome_stays s kind (requests.Delete key given) moment stale = delete_stays s moment given _
outcome_stays s kind (requests.Get key) moment stale = get_stays _
outcome_stays s kind (requests.List k namespace) moment stale = says (λ r. tt) _
outcome_stays s kind (requests.BindPod key uid node) moment stale = refused_or (λ r. tt) _ _ _ (bind_stays s node _)
outcome_stays s kind (requests.FinishPod key uid node epoch) moment stale = refused_or (λ r. tt) _ _ _ (finish_stays s stale node _)
outcome_stays s kind _ moment stale = says (λ r. tt) _

-- the rows

abbrev IsStaying : Object → Type 0
IsStaying (Volume v) = leaves (Volume v) ≡ false
IsStaying (Claim c) = leaves (Claim c) ≡ false
IsStaying o = ⊤

abbrev pub AreStaying : List Object → Type 0
AreStaying rows = (key : Key) (o : Object) → row_at key rows ≡ Some o → IsStaying o

staying : (o : Object) → leaves o ≡ false → IsStaying o
staying (Class x) e = tt
staying (Node x) e = tt
staying (Volume x) e = e
staying (Claim x) e = e
staying (Pod x) e = tt

step_stays : (w : World) (x : Effect) → AreRows w.store.rows → OfStore StoresStaying x → AreStaying w.store.rows → AreStaying (world_after w x).store.rows
unfolding world_after after
step_stays w (OnStore (Says reply)) rows s v key o is = v key o is
step_stays w (OnStore (Stores change new)) rows s v key o is = elim (key_tells (key_of new) key) [
  | inl same ↦ staying o (subst (λ p. leaves p ≡ false) (one new o (sym (row_at-put_row new w.store.rows) ∙ ap (λ j. row_at j (put_row new w.store.rows)) same ∙ is)) s)
  | inr other ↦ v key o (sym (row_at-put_row_other key new w.store.rows other) ∙ is)
]
step_stays w (OnStore (Removes last)) rows s v key o is = elim (key_tells (key_of last) key) [
  | inl same ↦ none_some (sym (row_at-without_row (key_of last) w.store.rows rows) ∙ ap (λ j. row_at j (without_row (key_of last) w.store.rows)) same ∙ is)
  | inr other ↦ v key o (sym (row_at-without_row_other (key_of last) key w.store.rows other) ∙ is)
]
step_stays w (OnDevices a) rows s v key o is = v key o is
step_stays w (SetsMoment at) rows s v key o is = v key o is

-- an import is protected
never_empty : (name : List ℕ) (names : List (List ℕ)) → has_no_names (with_finalizer name names) ≡ false
never_empty name [] = refl
never_empty name (x ∷ xs) = by (has_name name (x ∷ xs))
  where
    by : (b : Bool) → has_no_names (cond b (x ∷ xs) ((x ∷ xs) ++ name ∷ [])) ≡ false
    by true = refl
    by false = refl

imported_stays : (imports : List Object) (o : Object) → IsStaying (imported_object imports o)
unfolding leaves imported_object
imported_stays imports (Class x) = tt
imported_stays imports (Node x) = tt
imported_stays imports (Volume x) = and_right _ _ (never_empty pv_protection x.meta.finalizers)
imported_stays imports (Claim x) = and_right _ _ (never_empty pvc_protection x.meta.finalizers)
imported_stays imports (Pod x) = tt

pub none_has_left : (setup : Setup) (past : List Entry) → AreStaying (world setup past).store.rows
none_has_left setup [] = λ key o is. let c = import_row setup.imports setup.imports key o is in subst IsStaying (sym c.is) (imported_stays setup.imports c.import)
none_has_left setup (e ∷ past) =
    let w = world setup past in
    step_stays w (effect setup w e.kind e.request) (rows_stand_in_order setup past)
    (on_effects (λ r. tt) setup w e.kind e.request (outcome_stays w.store e.kind e.request w.moment)).on (none_has_left setup past)
