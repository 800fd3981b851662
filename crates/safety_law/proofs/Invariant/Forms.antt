-- Each outcome of the store is what was asked, past the tests of its verb: the one walk over the verbs.
use Rattle.std.proofs.Common.{sym, refl, subst, ap, inl, inr, ◌∙◌, true≢false}
use Rattle.std.specs.Prelude.{ℕ, ◌≡◌, Bool, true, false, List, [], ◌∷◌, Option, Some, None, is_some, unwrap_or}
use Rattle.kube_parts.specs.declared.uid.Uid.{Uid}
use Rattle.kube_parts.specs.declared.names.Field.{Field}
use Rattle.kube_parts.specs.declared.names.Rule.{Rule}
use Rattle.kube_objects.specs.declared.key.Key.{Key}
use Rattle.kube_objects.specs.declared.objects.Pod.{Pod as PodData}
use Rattle.kube_objects.specs.declared.objects.Object.{Object}
use Rattle.kube_objects.specs.declared.objects.Object.TheVariants.{Class, Node, Volume, Claim, Pod}
use Rattle.kube_objects.specs.Keys.{AreRows, meta_of, key_of, row_at}
use Rattle.kube_objects.specs.Bindings.{is_deleting, is_scheduled, is_uid}
use Rattle.kube_objects.proofs.KeyOrder.{row_at_key}
use Rattle.call_types.specs.declared.edit.Edit.{Edit}
use Rattle.call_types.specs.declared.request.NewStatus.{NewStatus}
use Rattle.call_types.specs.declared.request.SeatKind.{SeatKind}
use Rattle.call_types.specs.declared.request.Request.{Request}
use Rattle.call_types.specs.declared.request.Request.TheVariants as requests
use Rattle.call_types.specs.declared.reply.Refusal.{Refusal}
use Rattle.call_types.specs.declared.reply.Reply.{Reply}
use Rattle.call_types.specs.declared.reply.Reply.TheVariants.{Refused}
use Rattle.binder_model.specs.Told.{objects_in}
use Rattle.binder_model.specs.Store.{State, with_meta, at_version, marked_object, leaves, leaves_at_once}
use Rattle.binder_model.specs.Edits.{edited_object}
use Rattle.binder_model.specs.Answers.{
  Outcome,
  Says,
  is_user,
  is_other_version,
  is_other_uid,
  refuse,
  refuse_field,
  refuse_rule,
  refuse_stale,
  write_outcome,
  create,
  update,
  with_status,
  written_if_fits,
  update_status,
  edit_to,
  edit,
  delete_of,
  delete,
  get,
  list,
  pod_with,
  bind,
  finish,
  outcome,
}
use Rattle.model_laws.proofs.Identity.{edit_kept, IsKeyKept}
use Rattle.safety_law.specs.Invariant.Writes.{IsCreate, IsUpdate, IsEdit, IsStatus, IsMark, IsBind, IsFinish, WriteOf, IsLeaving, IsIn, FormOf}
use Rattle.model_laws.proofs.Readings.{listed_stand}
use Rattle.std.proofs.lemmas.Bool.{not-true, not-false}

-- a fact of outcomes, as a record, so that what it speaks of is found
record HasForm (s : State) (W : Object → Type 0) (request : Request) (x : Outcome) : Type 0 where
  form : FormOf s W request x

module _ {s : State} {W : Object → Type 0} {request : Request} where
  refused : (r : Refusal) → HasForm s W request (Says (Refused r))
  refused r = record { form = λ other o h. absurd h }

  refused_or : (b : Bool) (r : Refusal) (x : Outcome) → (b ≡ false → HasForm s W request x) → HasForm s W request (refuse b r x)
  unfolding refuse
  refused_or true r x k = refused _
  refused_or false r x k = k refl

  field_or : (f : Option Field) (x : Outcome) → (f ≡ None → HasForm s W request x) → HasForm s W request (refuse_field f x)
  unfolding refuse_field
  field_or (Some f) x k = refused _
  field_or None x k = k refl

  rule_or : (f : Option Rule) (x : Outcome) → (f ≡ None → HasForm s W request x) → HasForm s W request (refuse_rule f x)
  unfolding refuse_rule
  rule_or (Some f) x k = refused _
  rule_or None x k = k refl

  stale_or : (f : Option ℕ) (x : Outcome) → (f ≡ None → HasForm s W request x) → HasForm s W request (refuse_stale f x)
  unfolding refuse_stale
  stale_or (Some f) x k = refused _
  stale_or None x k = k refl

  -- the object that a look-up gives is told
  tells_row : (key : Key) (old : Object) (reply : Reply) → objects_in reply ≡ old ∷ [] → row_at key s.rows ≡ Some old → HasForm s W request (Says reply)
  tells_row key old reply tells is = record {
    form = λ other o h. elim (let g : IsIn o (old ∷ []) = subst (IsIn o) tells h in g) [
      | inl e ↦ subst (λ (x : Object). row_at (key_of x) s.rows ≡ Some x) e (ap (λ k. row_at k s.rows) (row_at_key key old s.rows is) ∙ is)
      | inr none ↦ absurd none
    ];
  }

leaving : (request : Request) (o : Object) → leaves o ≡ true → IsLeaving request o
unfolding leaves
leaving request (Pod p) e = absurd (true≢false (sym e))
leaving request (Class x) e = e
leaving request (Node x) e = e
leaving request (Volume x) e = e
leaving request (Claim x) e = e

wrote : {s : State} {W : Object → Type 0} {request : Request} (o : Object) → W o → HasForm s W request (write_outcome o)
wrote {s = s} {W = W} {request = request} o w = by (leaves o) refl
  where
    by : (b : Bool) → leaves o ≡ b → HasForm s W request (write_outcome o)
    by true e = rw e (record { form = (w, leaving request o e) })
    by false e = rw e (record { form = w })

-- each verb

create_form : (s : State) (kind : SeatKind) (new : Object) (moment : List ℕ) (x : Option Object) → row_at (key_of new) s.rows ≡ x
    → HasForm s (IsCreate s kind moment new) (requests.Create new) (create s kind new moment x)
unfolding create
create_form s kind new moment (Some old) is = refused _
create_form s kind new moment None is = rule_or _ _ (λ g. field_or _ _ (λ f. record { form = record { free = is; guard = g; fault = f; is = refl } }))

update_form : (s : State) (kind : SeatKind) (new : Object) (given : Option ℕ) (x : Option Object) → row_at (key_of new) s.rows ≡ x
    → HasForm s (IsUpdate s kind new given) (requests.Update new given) (update s kind new given x)
unfolding update
update_form s kind new given None is = refused _
update_form s kind new given (Some old) is =
    refused_or _ _ _ (λ v. rule_or _ _ (λ g. field_or _ _ (λ f. wrote _ (record { old = old; there = is; version = v; guard = g; fault = f; is = refl }))))

status_form : (s : State) (kind : SeatKind) (key : Key) (status : NewStatus) (given : Option ℕ) (x : Option Object) → row_at key s.rows ≡ x
    → HasForm s (IsStatus s kind key status given) (requests.UpdateStatus key status given) (update_status s kind status given x)
unfolding update_status written_if_fits
status_form s kind key status given None is = refused_or _ _ _ (λ c. refused _)
status_form s kind key status given (Some old) is = refused_or _ _ _ (λ c. refused_or _ _ _ (λ v. if_fits c v (with_status status old) refl))
  where
    if_fits : is_user kind ≡ false → is_other_version given (meta_of old).version ≡ false → (y : Option Object) → with_status status old ≡ y
        → HasForm s (IsStatus s kind key status given) (requests.UpdateStatus key status given) (written_if_fits s y)
    if_fits c v None fits = refused _
    if_fits c v (Some new) fits = wrote _ (record { old = old; there = is; controller = c; version = v; new = new; fits = fits; is = refl })

edit_form : (s : State) (kind : SeatKind) (key : Key) (change : Edit) (x : Option Object) → row_at key s.rows ≡ x
    → HasForm s (IsEdit s kind) (requests.Edit key change) (edit s kind change x)
unfolding edit edit_to
edit_form s kind key change None is = refused _
edit_form s kind key change (Some old) is = to (edited_object change old) (edit_kept change old)
  where
    to : (y : Option Object) → IsKeyKept old y → HasForm s (IsEdit s kind) (requests.Edit key change) (edit_to s kind old y)
    to None kept = refused _
    to (Some new) kept = rule_or _ _ (λ g. field_or _ _ (λ f. wrote _ (record {
      new = new;
      update = record { old = old; there = ap (λ k. row_at k s.rows) (kept ∙ row_at_key key old s.rows is) ∙ is; version = refl; guard = g; fault = f; is = refl };
    })))

delete_form : (s : State) (moment : List ℕ) (key : Key) (given : Option Uid) (x : Option Object) → row_at key s.rows ≡ x
    → HasForm s (IsMark s moment key given) (requests.Delete key given) (delete s moment given x)
unfolding delete delete_of leaves_at_once marked_object with_meta
delete_form s moment key given None is = refused _
delete_form s moment key given (Some old) is = refused_or _ _ _ (λ u. by u (leaves_at_once old) (is_deleting (meta_of old)) refl refl)
  where
    at_once : (o : Object) (n : ℕ) → leaves_at_once o ≡ true → IsLeaving (requests.Delete key given) (marked_object o n moment)
    at_once (Pod p) n e = not-true (is_scheduled p) e
    at_once (Class p) n e = absurd (true≢false (sym e))
    at_once (Node p) n e = absurd (true≢false (sym e))
    at_once (Volume p) n e = absurd (true≢false (sym e))
    at_once (Claim p) n e = absurd (true≢false (sym e))

    by : is_other_uid given (meta_of old).uid ≡ false → (a d : Bool) → leaves_at_once old ≡ a → is_deleting (meta_of old) ≡ d
        → HasForm s (IsMark s moment key given) (requests.Delete key given) (delete_of s moment old a d)
    by u true d ea ed = record { form = (record { old = old; there = is; uid = u; first = inl ea; is = refl }, at_once old _ ea) }
    by u false true ea ed = tells_row key old _ refl is
    by u false false ea ed = wrote _ (record { old = old; there = is; uid = u; first = inr ed; is = refl })

get_form : (s : State) (key : Key) (x : Option Object) → row_at key s.rows ≡ x → HasForm s (λ o. ⊥) (requests.Get key) (get x)
unfolding get
get_form s key None is = refused _
get_form s key (Some o) is = tells_row key o _ refl is

-- the pod that a verb of pods finds
pub record IsPodAt (uid : Uid) (x : Option Object) (p : PodData) : Type 0 where
  pub there : x ≡ Some (Pod p)
  pub same : is_uid p.meta.uid uid ≡ true

pod_found : (uid : Uid) (x : Option Object) (p : PodData) → pod_with uid x ≡ Some p → IsPodAt uid x p
unfolding pod_with
pod_found uid (Some (Pod q)) p e = by (is_uid q.meta.uid uid) refl
  where
    by : (b : Bool) → is_uid q.meta.uid uid ≡ b → IsPodAt uid (Some (Pod q)) p
    by true is =
        let f : Some q ≡ Some p = rw is at e in
        let g : q ≡ p = ap (λ (z : Option PodData). unwrap_or z q) f in
        subst (IsPodAt uid (Some (Pod q))) g (record { there = refl; same = is })
    by false is = let f : None ≡ Some p = rw is at e in absurd (true≢false (sym (ap is_some f)))
pod_found uid x p e = absurd (true≢false (sym (ap is_some e)))

bind_form : (s : State) (kind : SeatKind) (key : Key) (uid : Uid) (node : List ℕ) → is_user kind ≡ false → (x : Option PodData)
    → ((p : PodData) → x ≡ Some p → IsPodAt uid (row_at key s.rows) p)
    → HasForm s (IsBind s kind key uid node) (requests.BindPod key uid node) (bind s node x)
unfolding bind
bind_form s kind key uid node c None f = refused _
bind_form s kind key uid node c (Some p) f =
    refused_or _ _ _ (λ u. refused_or _ _ _ (λ n. record { form = record { pod = p; there = (f p refl).there; controller = c; same = (f p refl).same; unscheduled = u; is = refl } }))

finish_form : (s : State) (kind : SeatKind) (key : Key) (uid : Uid) (node : List ℕ) (epoch : ℕ) (stale : Option ℕ) → is_user kind ≡ false
    → (x : Option PodData) → ((p : PodData) → x ≡ Some p → IsPodAt uid (row_at key s.rows) p)
    → HasForm s (IsFinish s kind key uid node stale) (requests.FinishPod key uid node epoch) (finish s stale node x)
unfolding finish at_version with_meta
finish_form s kind key uid node epoch stale c None f = refused _
finish_form s kind key uid node epoch stale c (Some p) f =
    stale_or _ _ (λ e. refused_or _ _ _ (λ d. refused_or _ _ _ (λ n. record {
      form = (
        record {
          pod = p;
          there = (f p refl).there;
          controller = c;
          same = (f p refl).same;
          current = e;
          deleting = not-false _ d;
          placed = not-false _ n;
          is = refl;
        },
        tt,
      );
    })))

-- each outcome is what was asked, past the tests of its verb
outcome_has_form : (s : State) (kind : SeatKind) (request : Request) (moment : List ℕ) (stale : Option ℕ) → AreRows s.rows
    → HasForm s (WriteOf s kind moment stale request) request (outcome s kind request moment stale)
unfolding outcome list
outcome_has_form s kind (requests.Create o) moment stale rows = create_form s kind o moment _ refl
outcome_has_form s kind (requests.Update o given) moment stale rows = update_form s kind o given _ refl
outcome_has_form s kind (requests.UpdateStatus key status given) moment stale rows = status_form s kind key status given _ refl
outcome_has_form s kind (requests.Edit key change) moment stale rows = edit_form s kind key change _ refl
outcome_has_form s kind (requests.Delete key given) moment stale rows = delete_form s moment key given _ refl
outcome_has_form s kind (requests.Get key) moment stale rows = get_form s key _ refl
outcome_has_form s kind (requests.List k namespace) moment stale rows = record { form = λ other. listed_stand k namespace s.rows rows }
outcome_has_form s kind (requests.BindPod key uid node) moment stale rows = refused_or _ _ _ (λ c. bind_form s kind key uid node c _ (λ p e. pod_found uid _ p e))
outcome_has_form s kind (requests.FinishPod key uid node epoch) moment stale rows = refused_or _ _ _ (λ c. finish_form s kind key uid node epoch stale c _ (λ p e. pod_found uid _ p e))
outcome_has_form s kind _ moment stale rows = refused _

pub outcome_form : (s : State) (kind : SeatKind) (request : Request) (moment : List ℕ) (stale : Option ℕ) → AreRows s.rows
    → FormOf s (WriteOf s kind moment stale request) request (outcome s kind request moment stale)
outcome_form s kind request moment stale rows = (outcome_has_form s kind request moment stale rows).form
