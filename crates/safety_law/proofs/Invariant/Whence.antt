-- Whose place a written object takes, for every verb: none, as a new object, or that of an object whose key and identity it keeps.
use Rattle.std.proofs.Common.{sym, refl, subst, inl, inr, ap, ◌∙◌, true≢false}
use Rattle.std.specs.Prelude.{ℕ, ◌≡◌, ◌+◌, List, Option, Some, None, is_some}
use Rattle.kube_parts.specs.declared.uid.Uid.{Uid}
use Rattle.kube_objects.specs.declared.key.Key.{Key}
use Rattle.kube_objects.specs.declared.objects.Object.{Object}
use Rattle.kube_objects.specs.declared.objects.Object.TheVariants.{Class, Node, Volume, Claim, Pod}
use Rattle.kube_objects.specs.Keys.{meta_of, key_of, row_at}
use Rattle.kube_objects.specs.Bindings.{is_deleting}
use Rattle.kube_objects.proofs.KeyOrder.{row_at_key}
use Rattle.call_types.specs.declared.request.NewStatus.{NewStatus}
use Rattle.call_types.specs.declared.request.SeatKind.{SeatKind}
use Rattle.call_types.specs.declared.request.Request.{Request}
use Rattle.call_types.specs.declared.request.Request.TheVariants as requests
use Rattle.binder_model.specs.Store.{State, with_meta, at_version, marked_object, created_object, updated_object, admitted_object, without_status, with_status_of}
use Rattle.model_laws.specs.Histories.{NamesOnce, KeepsIdentity}
use Rattle.model_laws.proofs.Versions.{meta-with_meta}
use Rattle.model_laws.proofs.Identity.{key-created, key-updated, key-at_version, key-marked, updated_keeps, at_version_keeps, IsVersionOf, status_kept}
use Rattle.safety_law.specs.Invariant.Writes.{IsCreate, IsUpdate, IsStatus, IsMark, IsBind, IsFinish, WriteOf}
use Rattle.safety_law.specs.Invariant.Whence.{IsFirst, Keeps, IsNext, Whence}
use Rattle.model_laws.proofs.Versions.{marked_next as version-marked_object}

kept : {old new : Object} → KeepsIdentity old new → Keeps old new
kept k = record {
  uid = k.uid;
  named = k.named;
  deleting = λ d. elim k.deleted [
    | inl none ↦ absurd (true≢false (sym d ∙ ap is_some none))
    | inr same ↦ ap is_some same ∙ d
  ];
}

next : (s : State) (key : Key) (old o : Object) → row_at key s.rows ≡ Some old → key_of o ≡ key → Keeps old o → (meta_of o).version ≡ s.version + 1 → IsNext s old o
next s key old o is same keeps v = record { there = ap (λ k. row_at k s.rows) same ∙ is; key = same ∙ sym (row_at_key key old s.rows is); keeps = keeps; version = v }

pub created_first : (s : State) (kind : SeatKind) (moment : List ℕ) (new o : Object) → IsCreate s kind moment new o → IsFirst s o
unfolding created_object
created_first s kind moment new o c = subst (IsFirst s) (sym c.is) (record {
  free = ap (λ k. row_at k s.rows) (key-created _ new _ moment) ∙ c.free;
  uid = ap (λ m. m.uid) (meta-with_meta (admitted_object _ (without_status new)) _);
  version = ap (λ m. m.version) (meta-with_meta (admitted_object _ (without_status new)) _);
})

pub updated_next : (s : State) (kind : SeatKind) (new : Object) (given : Option ℕ) (o : Object) → (u : IsUpdate s kind new given o) → IsNext s u.old o
unfolding updated_object
updated_next s kind new given o u = subst (IsNext s u.old) (sym u.is)
    (next s (key_of new) u.old _ u.there (key-updated u.old new _) (kept (updated_keeps u.old new _ u.fault)) (ap (λ m. m.version) (meta-with_meta (with_status_of u.old new) _)))

version-at : (o : Object) (n : ℕ) → (meta_of (at_version o n)).version ≡ n
unfolding at_version
version-at o n = ap (λ m. m.version) (meta-with_meta o _)

pub status_next : (s : State) (kind : SeatKind) (key : Key) (status : NewStatus) (given : Option ℕ) (o : Object)
    → (u : IsStatus s kind key status given o) → IsNext s u.old o
status_next s kind key status given o u =
    let v : IsVersionOf u.old (Some u.new) = subst (IsVersionOf u.old) u.fits (status_kept status u.old) in
    subst (IsNext s u.old) (sym u.is) (next s key u.old _ u.there (key-at_version u.new _ ∙ v.1 ∙ row_at_key key u.old s.rows u.there)
    (kept (at_version_keeps u.old u.new _ v.0 v.2)) (version-at u.new _))

-- a mark gives the name that was there
marked_named : (old : Object) (n : ℕ) (moment : List ℕ) → NamesOnce old (marked_object old n moment)
unfolding marked_object with_meta
marked_named (Class x) n moment = tt
marked_named (Node x) n moment = tt
marked_named (Volume x) n moment = tt
marked_named (Claim x) n moment = inr refl
marked_named (Pod x) n moment = tt

mark_keeps : (old : Object) (n : ℕ) (moment : List ℕ) → Keeps old (marked_object old n moment)
unfolding marked_object
mark_keeps old n moment = record {
  uid = ap (λ m. m.uid) (meta-with_meta old _);
  named = marked_named old n moment;
  deleting = λ d. ap (λ m. is_deleting m) (meta-with_meta old _);
}

pub marked_next : (s : State) (moment : List ℕ) (key : Key) (given : Option Uid) (o : Object) → (u : IsMark s moment key given o) → IsNext s u.old o
marked_next s moment key given o u =
    subst (IsNext s u.old) (sym u.is) (next s key u.old _ u.there (key-marked u.old _ moment ∙ row_at_key key u.old s.rows u.there) (mark_keeps u.old _ moment) (version-marked_object u.old _ moment))

pub bound_next : (s : State) (kind : SeatKind) (key : Key) (uid : Uid) (node : List ℕ) (o : Object) → (u : IsBind s kind key uid node o) → IsNext s (Pod u.pod) o
bound_next s kind key uid node o u =
    let new = Pod (record u.pod { node = node }) in
    subst (IsNext s (Pod u.pod)) (sym u.is)
    (next s key (Pod u.pod) _ u.there (key-at_version new _ ∙ row_at_key key (Pod u.pod) s.rows u.there) (kept (at_version_keeps (Pod u.pod) new _ refl tt)) (version-at new _))

pub finished_next : (s : State) (kind : SeatKind) (key : Key) (uid : Uid) (node : List ℕ) (stale : Option ℕ) (o : Object)
    → (u : IsFinish s kind key uid node stale o) → IsNext s (Pod u.pod) o
finished_next s kind key uid node stale o u =
    subst (IsNext s (Pod u.pod)) (sym u.is)
    (next s key (Pod u.pod) _ u.there (key-at_version (Pod u.pod) _ ∙ row_at_key key (Pod u.pod) s.rows u.there)
    (kept (at_version_keeps (Pod u.pod) (Pod u.pod) _ refl tt)) (version-at (Pod u.pod) _))

later : (s : State) (old o : Object) → IsNext s old o → Whence s o
later s old o n = inr (record { old = old; next = n })

-- each write of each verb
pub whence : (s : State) (kind : SeatKind) (moment : List ℕ) (stale : Option ℕ) (request : Request) (o : Object) → WriteOf s kind moment stale request o → Whence s o
whence s kind moment stale (requests.Create new) o f = inl (created_first s kind moment new o f)
whence s kind moment stale (requests.Update new given) o f = later s f.old o (updated_next s kind new given o f)
whence s kind moment stale (requests.UpdateStatus key status given) o f = later s f.old o (status_next s kind key status given o f)
whence s kind moment stale (requests.Edit key change) o f = later s f.update.old o (updated_next s kind f.new None o f.update)
whence s kind moment stale (requests.Delete key given) o f = later s f.old o (marked_next s moment key given o f)
whence s kind moment stale (requests.BindPod key uid node) o f = later s (Pod f.pod) o (bound_next s kind key uid node o f)
whence s kind moment stale (requests.FinishPod key uid node epoch) o f = later s (Pod f.pod) o (finished_next s kind key uid node stale o f)
whence s kind moment stale _ o f = absurd f
