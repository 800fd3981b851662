-- Each node that stands, and the node of each pod that one runs, was given: by an import, or by an entry that asked to create it.
use Rattle.std.proofs.Common.{◌≡◌, ◌∙◌, ℕ, List, [], ◌∷◌, Bool, true, false, true≢false, Option, Some, None, inl, inr, refl, sym, ap, subst}
use Rattle.std.specs.Prelude.{◌&&◌, is_none, not, ⊤}
use Rattle.std.proofs.lemmas.Slice.Eq.{bytes_eq-Decides}
use Rattle.kube_parts.specs.declared.uid.Uid.{Uid}
use Rattle.kube_objects.specs.declared.key.Key.{Key}
use Rattle.kube_parts.specs.declared.parts.Kind.{Kind}
use Rattle.kube_parts.specs.declared.parts.Kind.TheVariants as kinds
use Rattle.kube_objects.specs.declared.objects.Meta.{Meta}
use Rattle.kube_objects.specs.declared.objects.Pod.{Pod as PodData}
use Rattle.kube_objects.specs.declared.objects.Object.{Object}
use Rattle.kube_objects.specs.declared.objects.Object.TheVariants.{Class, Node, Volume, Claim, Pod}
use Rattle.kube_objects.specs.Bindings.{is_empty, is_scheduled}
use Rattle.kube_objects.specs.Keys.{AreRows, key_of, meta_of, put_row, row_at, without_row}
use Rattle.kube_objects.proofs.KeyOrder.{row_at-put_row, row_at-put_row_other, row_at-without_row, row_at-without_row_other, row_at_key}
use Rattle.kube_objects.proofs.SameKeys.{key_tells}
use Rattle.call_types.specs.declared.edit.Edit.{Edit}
use Rattle.call_types.specs.declared.edit.Edit.TheVariants as edits
use Rattle.call_types.specs.declared.entry.Entry.{Entry}
use Rattle.call_types.specs.declared.request.NewStatus.{NewStatus}
use Rattle.call_types.specs.declared.request.NewStatus.TheVariants as statuses
use Rattle.call_types.specs.declared.reply.Refusal.{Refusal}
use Rattle.call_types.specs.declared.reply.Reply.{Reply}
use Rattle.call_types.specs.declared.request.Request.{Request}
use Rattle.call_types.specs.declared.request.Request.TheVariants as requests
use Rattle.call_types.specs.declared.request.SeatKind.{SeatKind}
use Rattle.call_types.specs.declared.setup.Setup.{Setup}
use Rattle.binder_model.specs.Answers.{
  Outcome,
  Removes,
  Says,
  Stores,
  after,
  bind,
  create,
  delete,
  delete_of,
  edit,
  edit_to,
  finish,
  get,
  list,
  outcome,
  refuse,
  update,
  update_status,
  with_status,
  write_outcome,
  written_if_fits,
}
use Rattle.binder_model.specs.Edits.{edited_object, with_volume_name}
use Rattle.binder_model.specs.Fields.{changed_field, create_fault, kind_fault, pod_fault, same_pod_spec, update_fault}
use Rattle.binder_model.specs.Imports.{imported_object}
use Rattle.binder_model.specs.ObjectKeys.{node_key}
use Rattle.binder_model.specs.Store.{State, admitted_object, at_version, created_object, lacks_named_node, lacks_node, leaves, marked_object, updated_object, with_meta, with_status_of, without_status}
use Rattle.binder_model.specs.Told.{SomeOf}
use Rattle.binder_model.specs.World.{Effect, OnDevices, OnStore, SetsMoment, World, effect, world, world_after}
use Rattle.model_laws.proofs.Effects.{OfStore, on_effects}
use Rattle.model_laws.proofs.Histories.{rows_stand_in_order}
use Rattle.model_laws.proofs.Imported.{import_row}
use Rattle.model_laws.proofs.Lists.{IsIn, none_some, one}
use Rattle.model_laws.proofs.OnOutcome.{OnOutcome, field_or, refused_or, rule_or, says, stale_or}
use Rattle.settle_budget.specs.Nodes.Nodes.{CreatesNode, GivesNode, NodesWereGiven, PodsAreOnGivenNodes, WasGiven}
use Rattle.model_laws.proofs.Identity.{faulty_none as no_fault}

-- the node that the object is, or that runs it, is one of these
abbrev IsOn : (List ℕ → Type 0) → Object → Type 0
IsOn G (Node n) = G n.meta.name
IsOn G (Pod p) = is_scheduled p ≡ true → G p.node
IsOn G o = ⊤

abbrev AreOn : (List ℕ → Type 0) → List Object → Type 0
AreOn G rows = (key : Key) (o : Object) → row_at key rows ≡ Some o → IsOn G o

-- what is created is
abbrev MadeOn : (List ℕ → Type 0) → Request → Type 0
MadeOn G (requests.Create (Node n)) = G n.meta.name
MadeOn G request = ⊤

-- what an outcome stores is
abbrev StoresOn : (List ℕ → Type 0) → Outcome → Type 0
StoresOn G (Stores change o) = IsOn G o
StoresOn G x = ⊤

-- a refusal, or the test does not hold
refused_else : {P : Outcome → Type 0} (b : Bool) (r : Refusal) (x : Outcome) → ((reply : Reply) → P (Says reply)) → (b ≡ false → OnOutcome P x) → OnOutcome P (refuse b r x)
unfolding refuse
refused_else true r x s k = says s _
refused_else false r x s k = k refl

abbrev is_node : Kind → Bool
is_node kinds.Node = true
is_node kind = false

abbrev is_pod : Kind → Bool
is_pod kinds.Pod = true
is_pod kind = false

module _ (G : List ℕ → Type 0) where
  -- an object under the key of a node is that node
  node_of : (o : Object) (key : Key) → key_of o ≡ key → is_node key.kind ≡ true → IsOn G o → G key.name
  node_of (Node n) key is node on = subst G (ap (λ (k : Key). k.name) is) on
  node_of (Class x) key is node on = absurd (true≢false (sym node ∙ ap (λ (k : Key). is_node k.kind) (sym is)))
  node_of (Volume x) key is node on = absurd (true≢false (sym node ∙ ap (λ (k : Key). is_node k.kind) (sym is)))
  node_of (Claim x) key is node on = absurd (true≢false (sym node ∙ ap (λ (k : Key). is_node k.kind) (sym is)))
  node_of (Pod x) key is node on = absurd (true≢false (sym node ∙ ap (λ (k : Key). is_node k.kind) (sym is)))

  -- a node that a write names stands
  named : (rows : List Object) → AreOn G rows → (node : List ℕ) → lacks_named_node node rows ≡ false → not (is_empty node) ≡ true → G node
  named rows on node lacks some = by (row_at (node_key node) rows) refl
    where
      missing : (x : Option Object) → row_at (node_key node) rows ≡ x → is_none x ≡ true → lacks_named_node node rows ≡ true
      missing x e none = rw (some, e, none) refl

      by : (x : Option Object) → row_at (node_key node) rows ≡ x → G node
      by None e = absurd (true≢false (sym (missing None e refl) ∙ lacks))
      by (Some o) e = node_of o (node_key node) (row_at_key (node_key node) o rows e) refl (on (node_key node) o e)

  with_meta_on : (o : Object) (m : Meta) → m.name ≡ (meta_of o).name → IsOn G o → IsOn G (with_meta o m)
  unfolding with_meta
  with_meta_on (Node n) m name on = subst G (sym name) on
  with_meta_on (Pod p) m name on = on
  with_meta_on (Class x) m name on = tt
  with_meta_on (Volume x) m name on = tt
  with_meta_on (Claim x) m name on = tt

  at_version_on : (o : Object) (version : ℕ) → IsOn G o → IsOn G (at_version o version)
  unfolding at_version
  at_version_on o version on = with_meta_on o _ refl on

  marked_on : (o : Object) (version : ℕ) (moment : List ℕ) → IsOn G o → IsOn G (marked_object o version moment)
  unfolding marked_object
  marked_on o version moment on = with_meta_on o _ refl on

  status_on : (old new : Object) → IsOn G new → IsOn G (with_status_of old new)
  unfolding with_status_of
  status_on (Volume old) (Volume new) on = tt
  status_on (Claim old) (Claim new) on = tt
  status_on old new on = on

  updated_on : (old new : Object) (version : ℕ) → IsOn G new → IsOn G (updated_object old new version)
  unfolding updated_object
  updated_on old new version on = with_meta_on (with_status_of old new) _ refl (status_on old new on)

  admitted_on : (default : Option (List ℕ)) (o : Object) → IsOn G o → IsOn G (admitted_object default (without_status o))
  unfolding admitted_object without_status
  admitted_on default (Node n) on = on
  admitted_on default (Pod p) on = on
  admitted_on default (Class x) on = tt
  admitted_on default (Volume x) on = tt
  admitted_on default (Claim x) on = tt

  created_on : (default : Option (List ℕ)) (o : Object) (version : ℕ) (moment : List ℕ) → IsOn G o → IsOn G (created_object default o version moment)
  unfolding created_object
  created_on default o version moment on = with_meta_on (admitted_object default (without_status o)) _ refl (admitted_on default o on)

  wrote : (o : Object) → IsOn G o → OnOutcome (StoresOn G) (write_outcome o)
  wrote o on = by (leaves o) refl
    where
      by : (b : Bool) → leaves o ≡ b → OnOutcome (StoresOn G) (write_outcome o)
      by true is = rw is (record { holds = tt })
      by false is = rw is (record { holds = on })

  module _ (s : State) (rows : AreOn G s.rows) where
    -- what passes the tests of a create
    new_on : (o : Object) → MadeOn G (requests.Create o) → create_fault (lacks_node o s.rows) o ≡ None → IsOn G o
    unfolding create_fault kind_fault pod_fault lacks_node
    new_on (Node n) made e = made
    new_on (Pod p) made e = named s.rows rows p.node (no_fault _ _ _ (no_fault _ _ _ (no_fault _ _ _ e).1).1).0
    new_on (Class x) made e = tt
    new_on (Volume x) made e = tt
    new_on (Claim x) made e = tt

    create_on : (kind : SeatKind) (o : Object) (moment : List ℕ) (x : Option Object) → MadeOn G (requests.Create o) → OnOutcome (StoresOn G) (create s kind o moment x)
    unfolding create
    create_on kind o moment (Some old) made = says (λ r. tt) _
    create_on kind o moment None made = rule_or (λ r. tt) _ _ (field_or (λ r. tt) _ _ (λ e. record { holds = created_on _ o _ moment (new_on o made e) }))

    -- and of an update
    same_node : (old new : PodData) → same_pod_spec old new ≡ true → old.node ≡ new.node
    same_node old new e = (bytes_eq-Decides old.node new.node).0 (both _ _ (both _ _ e).0).1
      where
        both : (a b : Bool) → (a && b) ≡ true → (a ≡ true) × (b ≡ true)
        both true b e = (refl, e)
        both false b e = absurd (true≢false (sym e))

    changed_on : (old new : Object) → key_of old ≡ key_of new → update_fault old new ≡ None → IsOn G old → IsOn G new
    unfolding update_fault changed_field
    changed_on old (Node n) key e on = node_of old (key_of (Node n)) key refl on
    changed_on (Pod old) (Pod new) key e on = by (same_pod_spec old new) refl (no_fault _ _ _ e).0
      where
        by : (b : Bool) → same_pod_spec old new ≡ b → not (same_pod_spec old new) ≡ false → is_scheduled new ≡ true → G new.node
        by true is apart scheduled = let same = same_node old new is in subst G same (on (ap (λ n. not (is_empty n)) same ∙ scheduled))
        by false is apart scheduled = absurd (true≢false (sym (ap not is) ∙ apart))
    changed_on (Class old) (Pod new) key e on = absurd (true≢false (sym (ap (λ (k : Key). is_pod k.kind) key)))
    changed_on (Node old) (Pod new) key e on = absurd (true≢false (sym (ap (λ (k : Key). is_pod k.kind) key)))
    changed_on (Volume old) (Pod new) key e on = absurd (true≢false (sym (ap (λ (k : Key). is_pod k.kind) key)))
    changed_on (Claim old) (Pod new) key e on = absurd (true≢false (sym (ap (λ (k : Key). is_pod k.kind) key)))
    changed_on old (Class new) key e on = tt
    changed_on old (Volume new) key e on = tt
    changed_on old (Claim new) key e on = tt

    update_on : (kind : SeatKind) (new : Object) (given : Option ℕ) (x : Option Object)
        → ((o : Object) → x ≡ Some o → (key_of o ≡ key_of new) × IsOn G o) → OnOutcome (StoresOn G) (update s kind new given x)
    unfolding update
    update_on kind new given None there = says (λ r. tt) _
    update_on kind new given (Some old) there =
        let at = there old refl in
        refused_or (λ r. tt) _ _ _ (rule_or (λ r. tt) _ _ (field_or (λ r. tt) _ _ (λ e. wrote _ (updated_on old new _ (changed_on old new at.0 e at.1)))))

    -- an edit leaves names and nodes
    edited_on : (change : Edit) (old new : Object) → edited_object change old ≡ Some new → IsOn G old → IsOn G new
    unfolding edited_object with_volume_name
    edited_on (edits.AddFinalizer f) old new is on = subst (IsOn G) (one _ new is) (with_meta_on old _ refl on)
    edited_on (edits.DropFinalizer f) old new is on = subst (IsOn G) (one _ new is) (with_meta_on old _ refl on)
    edited_on (edits.DropLabel key) old new is on = subst (IsOn G) (one _ new is) (with_meta_on old _ refl on)
    edited_on (edits.DropAnnotation key) old new is on = subst (IsOn G) (one _ new is) (with_meta_on old _ refl on)
    edited_on (edits.SetLabel key value) old new is on = subst (IsOn G) (one _ new is) (with_meta_on old _ refl on)
    edited_on (edits.SetAnnotation key value) old new is on = subst (IsOn G) (one _ new is) (with_meta_on old _ refl on)
    edited_on (edits.SetVolumeName name) (Claim c) new is on = subst (IsOn G) (one _ new is) tt
    edited_on (edits.SetPolicy policy) (Volume v) new is on = subst (IsOn G) (one _ new is) tt
    edited_on (edits.SetClaimRef namespace name) (Volume v) new is on = subst (IsOn G) (one _ new is) tt
    edited_on edits.ClearClaimRef (Volume v) new is on = subst (IsOn G) (one _ new is) tt
    edited_on change old new is on = none_some is

    edit_on : (kind : SeatKind) (change : Edit) (x : Option Object) → ((o : Object) → x ≡ Some o → IsOn G o) → OnOutcome (StoresOn G) (edit s kind change x)
    unfolding edit edit_to
    edit_on kind change None there = says (λ r. tt) _
    edit_on kind change (Some old) there = by (edited_object change old) refl
      where
        by : (new : Option Object) → edited_object change old ≡ new → OnOutcome (StoresOn G) (edit_to s kind old new)
        by None e = says (λ r. tt) _
        by (Some new) e = rule_or (λ r. tt) _ _ (field_or (λ r. tt) _ _ (λ f. wrote _ (updated_on old new _ (edited_on change old new e (there old refl)))))

    fits_on : (status : NewStatus) (old new : Object) → with_status status old ≡ Some new → IsOn G new
    unfolding with_status
    fits_on (statuses.Volume phase) (Volume v) new is = subst (IsOn G) (one _ new is) tt
    fits_on (statuses.Claim phase modes amount) (Claim c) new is = subst (IsOn G) (one _ new is) tt
    fits_on status old new is = none_some is

    if_fits : (x : Option Object) → ((o : Object) → x ≡ Some o → IsOn G o) → OnOutcome (StoresOn G) (written_if_fits s x)
    unfolding written_if_fits
    if_fits None on = says (λ r. tt) _
    if_fits (Some o) on = wrote _ (at_version_on o _ (on o refl))

    update_status_on : (kind : SeatKind) (status : NewStatus) (given : Option ℕ) (x : Option Object) → OnOutcome (StoresOn G) (update_status s kind status given x)
    unfolding update_status
    update_status_on kind status given None = refused_or (λ r. tt) _ _ _ (says (λ r. tt) _)
    update_status_on kind status given (Some old) = refused_or (λ r. tt) _ _ _ (refused_or (λ r. tt) _ _ _ (if_fits _ (λ o is. fits_on status old o is)))

    delete_of_on : (moment : List ℕ) (old : Object) (at_once deleting : Bool) → IsOn G old → OnOutcome (StoresOn G) (delete_of s moment old at_once deleting)
    unfolding delete_of
    delete_of_on moment old true deleting on = record { holds = tt }
    delete_of_on moment old false true on = says (λ r. tt) _
    delete_of_on moment old false false on = wrote _ (marked_on old _ moment on)

    delete_on : (moment : List ℕ) (given : Option Uid) (x : Option Object) → ((o : Object) → x ≡ Some o → IsOn G o) → OnOutcome (StoresOn G) (delete s moment given x)
    unfolding delete
    delete_on moment given None there = says (λ r. tt) _
    delete_on moment given (Some old) there = refused_or (λ r. tt) _ _ _ (delete_of_on moment old _ _ (there old refl))

    get_on : (x : Option Object) → OnOutcome (StoresOn G) (get x)
    unfolding get
    get_on None = says (λ r. tt) _
    get_on (Some o) = says (λ r. tt) _

    bind_on : (node : List ℕ) (p : Option PodData) → OnOutcome (StoresOn G) (bind s node p)
    unfolding bind
    bind_on node None = says (λ r. tt) _
    bind_on node (Some p) = refused_or (λ r. tt) _ _ _ (refused_else _ _ _ (λ r. tt)
        (λ stands. record { holds = at_version_on (Pod (record p { node = node })) _ (λ some. named s.rows rows node stands some) }))

    finish_on : (stale : Option ℕ) (node : List ℕ) (p : Option PodData) → OnOutcome (StoresOn G) (finish s stale node p)
    unfolding finish
    finish_on stale node None = says (λ r. tt) _
    finish_on stale node (Some p) = stale_or (λ r. tt) _ _ (refused_or (λ r. tt) _ _ _ (refused_or (λ r. tt) _ _ _ (record { holds = tt })))

    outcome_on : (kind : SeatKind) (request : Request) (moment : List ℕ) (stale : Option ℕ) → MadeOn G request → OnOutcome (StoresOn G) (outcome s kind request moment stale)
    unfolding outcome list
    outcome_on kind (requests.Create o) moment stale made = create_on kind o moment _ made
    outcome_on kind (requests.Update o given) moment stale made = update_on kind o given _ (λ old is. (row_at_key (key_of o) old s.rows is, rows (key_of o) old is))
    outcome_on kind (requests.UpdateStatus key status given) moment stale made = update_status_on kind status given _
    outcome_on kind (requests.Edit key change) moment stale made = edit_on kind change _ (rows key)
    outcome_on kind (requests.Delete key given) moment stale made = delete_on moment given _ (rows key)
    outcome_on kind (requests.Get key) moment stale made = get_on _
    outcome_on kind (requests.List k namespace) moment stale made = says (λ r. tt) _
    outcome_on kind (requests.BindPod key uid node) moment stale made = refused_or (λ r. tt) _ _ _ (bind_on node _)
    outcome_on kind (requests.FinishPod key uid node epoch) moment stale made = refused_or (λ r. tt) _ _ _ (finish_on stale node _)
    outcome_on kind _ moment stale made = says (λ r. tt) _

  -- the rows
  after_on : (w : World) (x : Effect) → AreRows w.store.rows → OfStore (StoresOn G) x → AreOn G w.store.rows → AreOn G (world_after w x).store.rows
  unfolding world_after after
  after_on w (OnStore (Says reply)) order s on key o is = on key o is
  after_on w (OnStore (Stores change new)) order s on key o is = elim (key_tells (key_of new) key) [
    | inl same ↦ subst (IsOn G) (one new o (sym (row_at-put_row new w.store.rows) ∙ ap (λ j. row_at j (put_row new w.store.rows)) same ∙ is)) s
    | inr other ↦ on key o (sym (row_at-put_row_other key new w.store.rows other) ∙ is)
  ]
  after_on w (OnStore (Removes last)) order s on key o is = elim (key_tells (key_of last) key) [
    | inl same ↦ none_some (sym (row_at-without_row (key_of last) w.store.rows order) ∙ ap (λ j. row_at j (without_row (key_of last) w.store.rows)) same ∙ is)
    | inr other ↦ on key o (sym (row_at-without_row_other (key_of last) key w.store.rows other) ∙ is)
  ]
  after_on w (OnDevices a) order s on key o is = on key o is
  after_on w (SetsMoment at) order s on key o is = on key o is

-- what was given stays given

more_on : (G H : List ℕ → Type 0) → ((node : List ℕ) → G node → H node) → (o : Object) → IsOn G o → IsOn H o
more_on G H more (Node n) on = more n.meta.name on
more_on G H more (Pod p) on = λ scheduled. more p.node (on scheduled)
more_on G H more (Class x) on = tt
more_on G H more (Volume x) on = tt
more_on G H more (Claim x) on = tt

made_on : (G : List ℕ → Type 0) (request : Request) → ((node : List ℕ) → CreatesNode node request → G node) → MadeOn G request
made_on G (requests.Create (Node n)) given = given n.meta.name refl
made_on G request given = tt

imported : (imports os : List Object) (x : Object) → IsIn x os → IsOn (λ node. SomeOf (GivesNode node) os) (imported_object imports x)
unfolding imported_object
imported imports os (Node n) among = give os among
  where
    give : (xs : List Object) → IsIn (Node n) xs → SomeOf (GivesNode n.meta.name) xs
    give [] i = absurd i
    give (x ∷ xs) (inl is) = inl (subst (GivesNode n.meta.name) (sym is) refl)
    give (x ∷ xs) (inr more) = inr (give xs more)
imported imports os (Pod p) among = λ scheduled. give scheduled os among
  where
    give : is_scheduled p ≡ true → (xs : List Object) → IsIn (Pod p) xs → SomeOf (GivesNode p.node) xs
    give scheduled [] i = absurd i
    give scheduled (x ∷ xs) (inl is) = inl (subst (GivesNode p.node) (sym is) (refl, scheduled))
    give scheduled (x ∷ xs) (inr more) = inr (give scheduled xs more)
imported imports os (Class x) among = tt
imported imports os (Volume x) among = tt
imported imports os (Claim x) among = tt

rows_on : (setup : Setup) (past : List Entry) → AreOn (WasGiven setup past) (world setup past).store.rows
rows_on setup [] = λ key o is.
    let c = import_row setup.imports setup.imports key o is in
    subst (IsOn (WasGiven setup [])) (sym c.is)
    (more_on (λ node. SomeOf (GivesNode node) setup.imports) (WasGiven setup []) (λ node given. inl given) _ (imported setup.imports setup.imports c.import c.given))
rows_on setup (e ∷ past) =
    let w = world setup past in
    let before : AreOn (WasGiven setup (e ∷ past)) w.store.rows =
    λ key o is. more_on (WasGiven setup past) (WasGiven setup (e ∷ past)) (λ node given. later node given) o (rows_on setup past key o is) in
    after_on (WasGiven setup (e ∷ past)) w (effect setup w e.kind e.request) (rows_stand_in_order setup past)
    (on_effects (λ r. tt) setup w e.kind e.request
    (λ stale. outcome_on (WasGiven setup (e ∷ past)) w.store before e.kind e.request w.moment stale (made_on (WasGiven setup (e ∷ past)) e.request (λ node made. inr (inl made))))).on before
  where
    later : (node : List ℕ) → WasGiven setup past node → WasGiven setup (e ∷ past) node
    later node (inl import) = inl import
    later node (inr created) = inr (inr created)

pub nodes_were_given : NodesWereGiven
nodes_were_given setup past key n there = rows_on setup past key _ there

pub pods_are_on_given_nodes : PodsAreOnGivenNodes
pods_are_on_given_nodes setup past key p there scheduled = rows_on setup past key _ there scheduled
