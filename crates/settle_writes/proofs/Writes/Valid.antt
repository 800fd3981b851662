-- What stands in a store passes the tests of a create.
use Rattle.std.proofs.Common.{◌≡◌, ◌∙◌, ℕ, List, [], ◌∷◌, ◌++◌, Bool, true, false, Option, Some, None, true≢false, inl, inr, refl, sym, ap, subst, if◌then◌else◌}
use Rattle.std.proofs.lemmas.Bool.{or_parts}
use Rattle.std.proofs.lemmas.Slice.Eq.{bytes_eq-Decides}
use Rattle.std.specs.Prelude.{◌||◌, bytes_eq, ⊤}
use Rattle.kube_parts.specs.declared.uid.Uid.{Uid}
use Rattle.kube_parts.specs.declared.names.Field.{Field}
use Rattle.kube_objects.specs.declared.objects.Pod.{Pod as PodData}
use Rattle.kube_objects.specs.declared.objects.Object.{Object}
use Rattle.kube_objects.specs.declared.objects.Object.TheVariants.{Class, Node, Volume, Claim, Pod}
use Rattle.kube_objects.specs.Bindings.{has_name, is_uid, pv_protection, pvc_protection}
use Rattle.kube_objects.specs.Keys.{AreRows, key_of, meta_of, put_row, row_at, without_row}
use Rattle.kube_objects.proofs.KeyOrder.{row_at-put_row, row_at-put_row_other, row_at-without_row, row_at-without_row_other}
use Rattle.kube_objects.proofs.SameKeys.{key_tells}
use Rattle.call_types.specs.declared.edit.Edit.{Edit}
use Rattle.call_types.specs.declared.request.NewStatus.{NewStatus}
use Rattle.call_types.specs.declared.request.NewStatus.TheVariants as statuses
use Rattle.call_types.specs.declared.request.Request.{Request}
use Rattle.call_types.specs.declared.request.Request.TheVariants as requests
use Rattle.call_types.specs.declared.request.SeatKind.{SeatKind}
use Rattle.binder_model.specs.Answers.{
  Outcome,
  Says,
  Stores,
  Removes,
  after,
  bind,
  create,
  delete,
  delete_of,
  edit,
  edit_to,
  finish,
  get,
  list,
  outcome,
  pod_if,
  pod_with,
  update,
  update_status,
  with_status,
  write_outcome,
  written_if_fits,
}
use Rattle.binder_model.specs.Edits.{edited_object}
use Rattle.binder_model.specs.Fields.{changed_field, claim_fault, class_fault, create_fault, faulty, has_twice, kind_fault, pod_fault, update_fault, volume_fault}
use Rattle.binder_model.specs.Imports.{ImportsPass, PassAfter, imported_object}
use Rattle.binder_model.specs.Store.{State, admitted_object, at_version, created_object, lacks_node, leaves, marked_object, updated_object, with_finalizer, with_meta, with_status_of, without_status}
use Rattle.binder_model.specs.World.{Effect, OnDevices, OnStore, SetsMoment, World, effect, world, world_after}
use Rattle.model_laws.proofs.Effects.{OfStore, on_effects}
use Rattle.model_laws.proofs.Histories.{rows_stand_in_order}
use Rattle.model_laws.proofs.Imported.{ComesFrom, import_row, passed}
use Rattle.model_laws.proofs.Lists.{IsIn, none_some, one}
use Rattle.model_laws.proofs.OnOutcome.{OnOutcome, field_or, refused_or, rule_or, says, stale_or}
use Rattle.settle_writes.specs.Writes.Valid.{AreValid, IsValid, RowsAreValid}

-- finalizers that are added

or_false : (b : Bool) → (b || false) ≡ b
or_false true = refl
or_false false = refl

or_assoc : (a b c : Bool) → ((a || b) || c) ≡ (a || (b || c))
or_assoc true b c = refl
or_assoc false b c = refl

-- the last name stands once where it is new
pub named_last : (x f : List ℕ) (fs : List (List ℕ)) → has_name x (fs ++ f ∷ []) ≡ (has_name x fs || bytes_eq f x)
named_last x f [] = or_false (bytes_eq f x)
named_last x f (y ∷ fs) = ap (λ b. bytes_eq y x || b) (named_last x f fs) ∙ sym (or_assoc (bytes_eq y x) (has_name x fs) (bytes_eq f x))

pub flipped : (a b : List ℕ) → bytes_eq a b ≡ false → bytes_eq b a ≡ false
flipped a b differs = by (bytes_eq b a) refl
  where
    by : (t : Bool) → bytes_eq b a ≡ t → bytes_eq b a ≡ false
    by true e = absurd (true≢false (sym ((bytes_eq-Decides a b).1 (sym ((bytes_eq-Decides b a).0 e))) ∙ differs))
    by false e = e

pub twice_last : (f : List ℕ) (fs : List (List ℕ)) → has_name f fs ≡ false → has_twice (fs ++ f ∷ []) ≡ has_twice fs
twice_last f [] new = refl
twice_last f (y ∷ fs) new =
    let p = or_parts (bytes_eq y f) (has_name f fs) new in
    let here : has_name y (fs ++ f ∷ []) ≡ has_name y fs = named_last y f fs ∙ ap (λ b. has_name y fs || b) (flipped y f p.0) ∙ or_false (has_name y fs) in
    rw (here, twice_last f fs p.1) refl

twice_with : (f : List ℕ) (fs : List (List ℕ)) → has_twice (with_finalizer f fs) ≡ has_twice fs
twice_with f fs = by (has_name f fs) refl
  where
    by : (b : Bool) → has_name f fs ≡ b → has_twice (if b then fs else fs ++ f ∷ []) ≡ has_twice fs
    by true e = refl
    by false e = twice_last f fs e

-- what the tests do not look at

stamped : (o : Object) (uid : Option Uid) (version : ℕ) (created : List ℕ) (deleted : Option (List ℕ))
    → create_fault false (with_meta o (record (meta_of o) { uid = uid; version = version; created = created; deleted = deleted })) ≡ create_fault false o
unfolding create_fault kind_fault volume_fault claim_fault class_fault pod_fault with_meta
stamped (Class x) uid version created deleted = refl
stamped (Node x) uid version created deleted = refl
stamped (Volume x) uid version created deleted = refl
stamped (Claim x) uid version created deleted = refl
stamped (Pod x) uid version created deleted = refl

at_version_same : (o : Object) (version : ℕ) → create_fault false (at_version o version) ≡ create_fault false o
unfolding create_fault kind_fault volume_fault claim_fault class_fault pod_fault with_meta at_version
at_version_same (Class x) version = refl
at_version_same (Node x) version = refl
at_version_same (Volume x) version = refl
at_version_same (Claim x) version = refl
at_version_same (Pod x) version = refl

marked_same : (o : Object) (version : ℕ) (moment : List ℕ) → create_fault false (marked_object o version moment) ≡ create_fault false o
unfolding create_fault kind_fault volume_fault claim_fault class_fault pod_fault with_meta marked_object
marked_same (Class x) version moment = refl
marked_same (Node x) version moment = refl
marked_same (Volume x) version moment = refl
marked_same (Claim x) version moment = refl
marked_same (Pod x) version moment = refl

status_same : (old new : Object) → create_fault false (with_status_of old new) ≡ create_fault false new
unfolding create_fault kind_fault volume_fault claim_fault with_status_of
status_same (Volume old) (Volume new) = refl
status_same (Claim old) (Claim new) = refl
status_same old new = refl

updated_same : (old new : Object) (version : ℕ) → create_fault false (updated_object old new version) ≡ create_fault false new
unfolding updated_object
updated_same old new version = stamped (with_status_of old new) _ version _ _ ∙ status_same old new

-- the last test of an update is that of a create

next_none : (b : Bool) (field : Field) (next : Option Field) → faulty b field next ≡ None → next ≡ None
unfolding faulty
next_none true field next e = none_some (sym e)
next_none false field next e = e

unchanged : (old new : Object) (next : Option Field) → changed_field old new next ≡ None → next ≡ None
unfolding changed_field
unchanged (Claim old) (Claim new) next e = next_none _ _ next (next_none _ _ _ e)
unchanged (Pod old) (Pod new) next e = next_none _ _ next e
unchanged (Volume old) (Volume new) next e = next_none _ _ next (next_none _ _ _ (next_none _ _ _ (next_none _ _ _ e)))
unchanged (Class old) (Class new) next e = next_none _ _ next (next_none _ _ _ (next_none _ _ _ (next_none _ _ _ e)))
unchanged old new next e = e

update_valid : (old new : Object) → update_fault old new ≡ None → IsValid new
unfolding update_fault
update_valid old new e = next_none _ _ _ (unchanged old new _ e)

-- a create

-- the node that a pod names is not looked at any more
node_may_go : (a b c : Bool) (fa fb fc : Field) (next : Option Field) → faulty a fa (faulty b fb (faulty c fc next)) ≡ None → faulty a fa (faulty b fb (faulty false fc next)) ≡ None
unfolding faulty
node_may_go true b c fa fb fc next e = e
node_may_go false true c fa fb fc next e = e
node_may_go false false true fa fb fc next e = none_some (sym e)
node_may_go false false false fa fb fc next e = e

created_valid : (default : Option (List ℕ)) (lacks : Bool) (o : Object) (version : ℕ) (moment : List ℕ) → create_fault lacks o ≡ None → IsValid (created_object default o version moment)
unfolding create_fault kind_fault volume_fault claim_fault class_fault pod_fault with_meta created_object admitted_object without_status
created_valid default lacks (Class x) version moment e = e
created_valid default lacks (Node x) version moment e = e
created_valid default lacks (Volume x) version moment e = rw (twice_with pv_protection x.meta.finalizers) e
created_valid default lacks (Claim x) version moment e = rw (twice_with pvc_protection x.meta.finalizers) e
created_valid default lacks (Pod x) version moment e = node_may_go _ _ lacks _ _ _ _ e

-- each outcome stores what is valid

abbrev StoresValid : Outcome → Type 0
StoresValid (Stores change o) = IsValid o
StoresValid x = ⊤

wrote : (o : Object) → IsValid o → OnOutcome StoresValid (write_outcome o)
wrote o e = by_leaving (leaves o) refl
  where
    by_leaving : (b : Bool) → leaves o ≡ b → OnOutcome StoresValid (write_outcome o)
    by_leaving true is = rw is (record { holds = tt })
    by_leaving false is = rw is (record { holds = e })

create_valid : (s : State) (kind : SeatKind) (o : Object) (moment : List ℕ) (x : Option Object) → OnOutcome StoresValid (create s kind o moment x)
unfolding create
create_valid s kind o moment (Some old) = says (λ r. tt) _
create_valid s kind o moment None = rule_or (λ r. tt) _ _ (field_or (λ r. tt) _ _ (λ e. record { holds = created_valid _ (lacks_node o s.rows) o _ moment e }))

updates_valid : (s : State) (kind : SeatKind) (o : Object) (given : Option ℕ) (x : Option Object) → OnOutcome StoresValid (update s kind o given x)
unfolding update
updates_valid s kind o given None = says (λ r. tt) _
updates_valid s kind o given (Some old) = refused_or (λ r. tt) _ _ _ (rule_or (λ r. tt) _ _ (field_or (λ r. tt) _ _ (λ e. wrote _ (updated_same old o _ ∙ update_valid old o e))))

edit_valid : (s : State) (kind : SeatKind) (change : Edit) (x : Option Object) → OnOutcome StoresValid (edit s kind change x)
unfolding edit edit_to
edit_valid s kind change None = says (λ r. tt) _
edit_valid s kind change (Some old) = by (edited_object change old)
  where
    by : (new : Option Object) → OnOutcome StoresValid (edit_to s kind old new)
    by None = says (λ r. tt) _
    by (Some new) = rule_or (λ r. tt) _ _ (field_or (λ r. tt) _ _ (λ e. wrote _ (updated_same old new _ ∙ update_valid old new e)))

with_status_valid : (status : NewStatus) (old new : Object) → with_status status old ≡ Some new → IsValid old → IsValid new
unfolding with_status create_fault kind_fault volume_fault claim_fault
with_status_valid (statuses.Volume phase) (Volume v) new is e = subst IsValid (one _ new is) e
with_status_valid (statuses.Claim phase modes amount) (Claim c) new is e = subst IsValid (one _ new is) e
with_status_valid status old new is e = none_some is

if_fits : (s : State) (o : Option Object) → ((p : Object) → o ≡ Some p → IsValid p) → OnOutcome StoresValid (written_if_fits s o)
unfolding written_if_fits
if_fits s None valid = says (λ r. tt) _
if_fits s (Some o) valid = wrote _ (at_version_same o _ ∙ valid o refl)

-- what stands under a key is valid, if anything does
abbrev StandsValid : Option Object → Type 0
StandsValid x = (o : Object) → x ≡ Some o → IsValid o

status_valid : (s : State) (kind : SeatKind) (status : NewStatus) (given : Option ℕ) (x : Option Object) → StandsValid x → OnOutcome StoresValid (update_status s kind status given x)
unfolding update_status
status_valid s kind status given None valid = refused_or (λ r. tt) _ _ _ (says (λ r. tt) _)
status_valid s kind status given (Some old) valid = refused_or (λ r. tt) _ _ _ (refused_or (λ r. tt) _ _ _ (if_fits s _ (λ p is. with_status_valid status old p is (valid old refl))))

delete_of_valid : (s : State) (moment : List ℕ) (old : Object) (at_once deleting : Bool) → IsValid old → OnOutcome StoresValid (delete_of s moment old at_once deleting)
unfolding delete_of
delete_of_valid s moment old true deleting e = record { holds = tt }
delete_of_valid s moment old false true e = says (λ r. tt) _
delete_of_valid s moment old false false e = wrote _ (marked_same old _ moment ∙ e)

delete_valid : (s : State) (moment : List ℕ) (given : Option Uid) (x : Option Object) → StandsValid x → OnOutcome StoresValid (delete s moment given x)
unfolding delete
delete_valid s moment given None valid = says (λ r. tt) _
delete_valid s moment given (Some old) valid = refused_or (λ r. tt) _ _ _ (delete_of_valid s moment old _ _ (valid old refl))

get_valid : (x : Option Object) → OnOutcome StoresValid (get x)
unfolding get
get_valid None = says (λ r. tt) _
get_valid (Some o) = says (λ r. tt) _

pod_valid : (uid : Uid) (x : Option Object) → StandsValid x → (p : PodData) → pod_with uid x ≡ Some p → IsValid (Pod p)
unfolding pod_with
pod_valid uid (Some (Pod q)) valid p is = by (is_uid q.meta.uid uid) is
  where
    by : (b : Bool) → pod_if b q ≡ Some p → IsValid (Pod p)
    by true e = subst (λ (r : PodData). IsValid (Pod r)) (one q p e) (valid (Pod q) refl)
    by false e = none_some e
pod_valid uid x valid p is = none_some is

on_node : (p : PodData) (node : List ℕ) → IsValid (Pod p) → IsValid (Pod (record p { node = node }))
unfolding create_fault kind_fault pod_fault
on_node p node e = e

bind_valid : (s : State) (node : List ℕ) (p : Option PodData) → ((q : PodData) → p ≡ Some q → IsValid (Pod q)) → OnOutcome StoresValid (bind s node p)
unfolding bind
bind_valid s node None valid = says (λ r. tt) _
bind_valid s node (Some p) valid = refused_or (λ r. tt) _ _ _ (refused_or (λ r. tt) _ _ _ (record { holds = at_version_same (Pod (record p { node = node })) _ ∙ on_node p node (valid p refl) }))

finish_valid : (s : State) (stale : Option ℕ) (node : List ℕ) (p : Option PodData) → OnOutcome StoresValid (finish s stale node p)
unfolding finish
finish_valid s stale node None = says (λ r. tt) _
finish_valid s stale node (Some p) = stale_or (λ r. tt) _ _ (refused_or (λ r. tt) _ _ _ (refused_or (λ r. tt) _ _ _ (record { holds = tt })))

outcome_valid : (s : State) → AreValid s.rows → (kind : SeatKind) (request : Request) (moment : List ℕ) (stale : Option ℕ) → OnOutcome StoresValid (outcome s kind request moment stale)
unfolding outcome list
outcome_valid s v kind (requests.Create o) moment stale = create_valid s kind o moment _
outcome_valid s v kind (requests.Update o given) moment stale = updates_valid s kind o given _
outcome_valid s v kind (requests.UpdateStatus key status given) moment stale = status_valid s kind status given _ (v key)
outcome_valid s v kind (requests.Edit key change) moment stale = edit_valid s kind change _
outcome_valid s v kind (requests.Delete key given) moment stale = delete_valid s moment given _ (v key)
outcome_valid s v kind (requests.Get key) moment stale = get_valid _
outcome_valid s v kind (requests.List k namespace) moment stale = says (λ r. tt) _
outcome_valid s v kind (requests.BindPod key uid node) moment stale = refused_or (λ r. tt) _ _ _ (bind_valid s node _ (pod_valid uid (row_at key s.rows) (v key)))
outcome_valid s v kind (requests.FinishPod key uid node epoch) moment stale = refused_or (λ r. tt) _ _ _ (finish_valid s stale node _)
outcome_valid s v kind _ moment stale = says (λ r. tt) _

-- the rows

after_valid : (w : World) (x : Effect) → AreRows w.store.rows → OfStore StoresValid x → AreValid w.store.rows → AreValid (world_after w x).store.rows
unfolding world_after after
after_valid w (OnStore (Says reply)) rows s v key o is = v key o is
after_valid w (OnStore (Stores change new)) rows s v key o is = elim (key_tells (key_of new) key) [
  | inl same ↦ subst IsValid (one new o (sym (row_at-put_row new w.store.rows) ∙ ap (λ j. row_at j (put_row new w.store.rows)) same ∙ is)) s
  | inr other ↦ v key o (sym (row_at-put_row_other key new w.store.rows other) ∙ is)
]
after_valid w (OnStore (Removes last)) rows s v key o is = elim (key_tells (key_of last) key) [
  | inl same ↦ none_some (sym (row_at-without_row (key_of last) w.store.rows rows) ∙ ap (λ j. row_at j (without_row (key_of last) w.store.rows)) same ∙ is)
  | inr other ↦ v key o (sym (row_at-without_row_other (key_of last) key w.store.rows other) ∙ is)
]
after_valid w (OnDevices a) rows s v key o is = v key o is
after_valid w (SetsMoment at) rows s v key o is = v key o is

-- the imports

imported_valid : (imports : List Object) (o : Object) → IsValid o → IsValid (imported_object imports o)
unfolding imported_object create_fault kind_fault volume_fault claim_fault class_fault pod_fault
imported_valid imports (Class x) e = e
imported_valid imports (Node x) e = e
imported_valid imports (Volume x) e = rw (twice_with pv_protection x.meta.finalizers) e
imported_valid imports (Claim x) e = rw (twice_with pvc_protection x.meta.finalizers) e
imported_valid imports (Pod x) e = e

each_passes : (before os : List Object) → PassAfter before os → (o : Object) → IsIn o os → IsValid o
each_passes before [] p o h = absurd h
each_passes before (x ∷ os) p o (inl is) = subst IsValid is (passed before x p.0).valid
each_passes before (x ∷ os) p o (inr more) = each_passes (before ++ x ∷ []) os p.1 o more

first_valid : (imports : List Object) (o : Object) → ImportsPass imports → ComesFrom imports imports o → IsValid o
first_valid imports o pass c = subst IsValid (sym c.is) (imported_valid imports c.import (each_passes [] imports pass c.import c.given))

pub rows_are_valid : RowsAreValid
rows_are_valid setup [] pass = λ key o is. first_valid setup.imports o pass (import_row setup.imports setup.imports key o is)
rows_are_valid setup (e ∷ past) pass =
    let w = world setup past in
    let before = rows_are_valid setup past pass in
    after_valid w (effect setup w e.kind e.request) (rows_stand_in_order setup past)
    (on_effects (λ r. tt) setup w e.kind e.request (outcome_valid w.store before e.kind e.request w.moment)).on before
