-- What a write makes of an object that stands there: it keeps its identity. By verbs.
use Rattle.std.proofs.Common.{sym, refl, inl, inr, ap, ◌∙◌, true≢false}
use Rattle.std.specs.Prelude.{ℕ, ◌≡◌, ◌⊎◌, Bool, true, false, not, ◌&&◌, List, [], ◌∷◌, Option, Some, None, bytes_eq, is_some, ⊤}
use Rattle.std.specs.Bool.{Decides}
use Rattle.std.proofs.lemmas.Slice.Eq.{bytes_eq-Decides}
use Rattle.kube_parts.specs.declared.names.Field.{Field}
use Rattle.kube_objects.specs.declared.objects.Meta.{Meta}
use Rattle.kube_objects.specs.declared.objects.Object.{Object}
use Rattle.kube_objects.specs.declared.objects.Object.TheVariants.{Class, Node, Volume, Claim, Pod}
use Rattle.kube_objects.specs.Keys.{meta_of, key_of, kind_of}
use Rattle.kube_objects.specs.Bindings.{is_deleting, is_empty}
use Rattle.call_types.specs.declared.edit.Edit.{Edit}
use Rattle.call_types.specs.declared.edit.Edit.TheVariants as edits
use Rattle.call_types.specs.declared.request.NewStatus.{NewStatus}
use Rattle.call_types.specs.declared.request.NewStatus.TheVariants as statuses
use Rattle.binder_model.specs.Store.{with_meta, at_version, marked_object, created_object, updated_object, admitted_object, without_status, with_status_of}
use Rattle.binder_model.specs.Fields.{faulty, update_fault, changed_field}
use Rattle.binder_model.specs.Edits.{edited_object, with_volume_name}
use Rattle.binder_model.specs.Answers.{with_status}
use Rattle.binder_model.specs.BindWrites.{annotated_meta_if}
use Rattle.model_laws.specs.Histories.{NamesOnce, KeepsIdentity}
use Rattle.model_laws.proofs.Versions.{meta-with_meta}

-- an annotation changes neither namespace nor name
pub placed_same : (b : Bool) (name : List ℕ) (m : Meta) → ((annotated_meta_if b name m).namespace ≡ m.namespace) × ((annotated_meta_if b name m).name ≡ m.name)
placed_same true name m = (refl, refl)
placed_same false name m = (refl, refl)

pub kind-with_meta : (o : Object) (m : Meta) → kind_of (with_meta o m) ≡ kind_of o
unfolding with_meta
kind-with_meta (Class x) m = refl
kind-with_meta (Node x) m = refl
kind-with_meta (Volume x) m = refl
kind-with_meta (Claim x) m = refl
kind-with_meta (Pod x) m = refl

-- another metadata of the same namespace and name leaves the key
pub key-with_meta : (o : Object) (m : Meta) → m.namespace ≡ (meta_of o).namespace → m.name ≡ (meta_of o).name → key_of (with_meta o m) ≡ key_of o
unfolding with_meta
key-with_meta (Class x) m e f = λ i. record { kind = kind_of (Class x); namespace = e i; name = f i }
key-with_meta (Node x) m e f = λ i. record { kind = kind_of (Node x); namespace = e i; name = f i }
key-with_meta (Volume x) m e f = λ i. record { kind = kind_of (Volume x); namespace = e i; name = f i }
key-with_meta (Claim x) m e f = λ i. record { kind = kind_of (Claim x); namespace = e i; name = f i }
key-with_meta (Pod x) m e f = λ i. record { kind = kind_of (Pod x); namespace = e i; name = f i }

-- other metadata leave the name of a claim's volume
names-with_meta : (old o : Object) (m : Meta) → NamesOnce old o → NamesOnce old (with_meta o m)
unfolding with_meta
names-with_meta (Claim c) (Claim d) m n = n
names-with_meta (Claim c) (Class x) m n = tt
names-with_meta (Claim c) (Node x) m n = tt
names-with_meta (Claim c) (Volume x) m n = tt
names-with_meta (Claim c) (Pod x) m n = tt
names-with_meta (Class c) o m n = tt
names-with_meta (Node c) o m n = tt
names-with_meta (Volume c) o m n = tt
names-with_meta (Pod c) o m n = tt

-- an object names as itself
pub names-own : (o : Object) → NamesOnce o o
names-own (Class x) = tt
names-own (Node x) = tt
names-own (Volume x) = tt
names-own (Claim x) = inr refl
names-own (Pod x) = tt

pub meta-with_status_of : (old new : Object) → meta_of (with_status_of old new) ≡ meta_of new
unfolding with_status_of
meta-with_status_of (Volume a) (Volume b) = refl
meta-with_status_of (Claim a) (Claim b) = refl
meta-with_status_of old new = refl

pub key-with_status_of : (old new : Object) → key_of (with_status_of old new) ≡ key_of new
unfolding with_status_of
key-with_status_of (Volume a) (Volume b) = refl
key-with_status_of (Claim a) (Claim b) = refl
key-with_status_of old new = refl

names-with_status_of : (old new : Object) → NamesOnce old new → NamesOnce old (with_status_of old new)
unfolding with_status_of
names-with_status_of (Volume a) (Volume b) n = tt
names-with_status_of (Claim a) (Claim b) n = n
names-with_status_of old new n = n

pub key-updated : (old new : Object) (n : ℕ) → key_of (updated_object old new n) ≡ key_of new
unfolding updated_object
key-updated old new n = key-with_meta (with_status_of old new) _ refl refl ∙ key-with_status_of old new

pub key-at_version : (o : Object) (n : ℕ) → key_of (at_version o n) ≡ key_of o
unfolding at_version
key-at_version o n = key-with_meta o _ refl refl

pub key-marked : (o : Object) (n : ℕ) (moment : List ℕ) → key_of (marked_object o n moment) ≡ key_of o
unfolding marked_object
key-marked o n moment = key-with_meta o _ refl refl

pub faulty_none : (b : Bool) (f : Field) (next : Option Field) → faulty b f next ≡ None → (b ≡ false) × (next ≡ None)
unfolding faulty
faulty_none true f next e = absurd (true≢false (ap is_some e))
faulty_none false f next e = (refl, e)

told_by : {P : Type 0} (b : Bool) → Decides b P → not b ≡ false → P
told_by true d h = d.0 refl
told_by false d h = absurd (true≢false h)

named_by : (name other : List ℕ) → (not (is_empty name) && not (bytes_eq name other)) ≡ false → (name ≡ []) ⊎ (other ≡ name)
named_by [] other h = inl refl
named_by (c ∷ cs) other h = inr (sym (told_by (bytes_eq (c ∷ cs) other) (bytes_eq-Decides (c ∷ cs) other) h))

-- an update without an invalid field names its volume once
pub names_once : (old new : Object) → update_fault old new ≡ None → NamesOnce old new
unfolding update_fault changed_field
names_once (Claim a) (Claim b) e = named_by a.volume_name b.volume_name (faulty_none _ _ _ (faulty_none _ _ _ e).1).0
names_once old new e = tt

-- the update of an object keeps its identity
pub updated_keeps : (old new : Object) (n : ℕ) → update_fault old new ≡ None → KeepsIdentity old (updated_object old new n)
unfolding updated_object
updated_keeps old new n e = record {
  uid = ap (λ m. m.uid) (meta-with_meta (with_status_of old new) _);
  created = ap (λ m. m.created) (meta-with_meta (with_status_of old new) _);
  deleted = inr (ap (λ m. m.deleted) (meta-with_meta (with_status_of old new) _));
  named = names-with_meta old _ _ (names-with_status_of old new (names_once old new e));
}

-- another version of an object keeps its identity
pub at_version_keeps : (old new : Object) (n : ℕ) → meta_of new ≡ meta_of old → NamesOnce old new → KeepsIdentity old (at_version new n)
unfolding at_version
at_version_keeps old new n e named = record {
  uid = ap (λ m. m.uid) (meta-with_meta new _) ∙ ap (λ m. m.uid) e;
  created = ap (λ m. m.created) (meta-with_meta new _) ∙ ap (λ m. m.created) e;
  deleted = inr (ap (λ m. m.deleted) (meta-with_meta new _) ∙ ap (λ m. m.deleted) e);
  named = names-with_meta old new _ named;
}

not_there : {X : Type 0} (o : Option X) → is_some o ≡ false → o ≡ None
not_there None e = refl
not_there (Some x) e = absurd (true≢false e)

-- a first delete keeps the identity
pub marked_keeps : (old : Object) (n : ℕ) (moment : List ℕ) → is_deleting (meta_of old) ≡ false → KeepsIdentity old (marked_object old n moment)
unfolding marked_object
marked_keeps old n moment e = record {
  uid = ap (λ m. m.uid) (meta-with_meta old _);
  created = ap (λ m. m.created) (meta-with_meta old _);
  deleted = inl (not_there (meta_of old).deleted e);
  named = names-with_meta old old _ (names-own old);
}

-- the changed object, if there is one, has the key
abbrev pub IsKeyKept : Object → Option Object → Type 0
IsKeyKept old None = ⊤
IsKeyKept old (Some new) = key_of new ≡ key_of old

-- the changed object, if there is one, is another version
abbrev pub IsVersionOf : Object → Option Object → Type 0
IsVersionOf old None = ⊤
IsVersionOf old (Some new) = (meta_of new ≡ meta_of old) × (key_of new ≡ key_of old) × NamesOnce old new

-- a status leaves metadata and names
pub status_kept : (status : NewStatus) (old : Object) → IsVersionOf old (with_status status old)
unfolding with_status
status_kept (statuses.Volume phase) (Volume v) = (refl, refl, tt)
status_kept (statuses.Claim phase modes amount) (Claim c) = (refl, refl, inr refl)
status_kept status old = tt

-- an edit leaves the key
pub edit_kept : (change : Edit) (old : Object) → IsKeyKept old (edited_object change old)
unfolding edited_object with_volume_name
edit_kept (edits.AddFinalizer f) o = key-with_meta o _ refl refl
edit_kept (edits.DropFinalizer f) o = key-with_meta o _ refl refl
edit_kept (edits.DropLabel k) o = key-with_meta o _ refl refl
edit_kept (edits.DropAnnotation k) o = key-with_meta o _ refl refl
edit_kept (edits.SetLabel k v) o = key-with_meta o _ refl refl
edit_kept (edits.SetAnnotation k v) o = key-with_meta o _ refl refl
edit_kept (edits.SetVolumeName name) (Claim c) = refl
edit_kept (edits.SetPolicy policy) (Volume v) = refl
edit_kept (edits.SetClaimRef namespace name) (Volume v) = refl
edit_kept edits.ClearClaimRef (Volume v) = refl
edit_kept change o = tt

-- a new object stands under the key of its manifest
admitted_key : (default : Option (List ℕ)) (o : Object) → key_of (admitted_object default (without_status o)) ≡ key_of o
unfolding admitted_object without_status
admitted_key default (Class x) = refl
admitted_key default (Node x) = refl
admitted_key default (Volume x) = refl
admitted_key default (Claim x) = refl
admitted_key default (Pod x) = refl

pub key-created : (default : Option (List ℕ)) (o : Object) (n : ℕ) (moment : List ℕ) → key_of (created_object default o n moment) ≡ key_of o
unfolding created_object
key-created default o n moment = key-with_meta (admitted_object default (without_status o)) _ refl refl ∙ admitted_key default o
