-- A claim that a call has made is a user's create, and has the namespace and the request that it was created with.
use Rattle.std.proofs.Common.{◌≡◌, ℕ, List, Bool, true, false, Option, Some, None, refl, sym, subst, ap, ◌∙◌, arith, true≢false}
use Rattle.std.specs.Prelude.{⊤}
use Rattle.plain_data.specs.Rows.{find}
use Rattle.kube_objects.specs.declared.key.Key.{Key}
use Rattle.kube_parts.specs.declared.uid.Uid.{Uid}
use Rattle.kube_objects.specs.declared.objects.Claim.{Claim as ClaimData}
use Rattle.kube_objects.specs.declared.objects.Pod.{Pod as PodData}
use Rattle.kube_objects.specs.declared.objects.Object.{Object}
use Rattle.kube_objects.specs.declared.objects.Object.TheVariants.{Class, Node, Volume, Claim, Pod}
use Rattle.kube_objects.specs.Keys.{key_cmp, key_of, kind_index, kind_of, meta_of, row_at}
use Rattle.kube_objects.proofs.KeyOrder.{row_at_key}
use Rattle.call_types.specs.declared.edit.Edit.{Edit}
use Rattle.call_types.specs.declared.entry.Entry.{Entry}
use Rattle.call_types.specs.declared.request.NewStatus.{NewStatus}
use Rattle.call_types.specs.declared.request.SeatKind.{SeatKind}
use Rattle.call_types.specs.declared.request.SeatKind.TheVariants as seats
use Rattle.call_types.specs.declared.request.Request.{Request}
use Rattle.call_types.specs.declared.request.Request.TheVariants as requests
use Rattle.call_types.specs.declared.reply.Change.{Change}
use Rattle.call_types.specs.declared.reply.Change.TheVariants.{Added, Modified, Deleted}
use Rattle.call_types.specs.declared.setup.Setup.{Setup}
use Rattle.binder_model.specs.Licence.{Licensed}
use Rattle.binder_model.specs.Store.{State, admitted_object, created_object, leaves, with_meta, without_status}
use Rattle.binder_model.specs.Answers.{Outcome, Says, Stores, Removes, outcome}
use Rattle.binder_model.specs.Answers.{write_outcome, create, update, written_if_fits, update_status, edit_to, edit, delete_of, delete, get, list, bind, finish}
use Rattle.binder_model.specs.World.{Effect, OnStore, OnDevices, SetsMoment, effect, world}
use Rattle.model_laws.specs.Histories.{KeepsIdentity}
use Rattle.model_laws.proofs.Changes.{ChangeOf, IsInPlace, outcome_changes}
use Rattle.model_laws.proofs.Effects.{OnEffect, on_effects}
use Rattle.model_laws.proofs.OnOutcome.{OnOutcome, says, refused_or, field_or, rule_or, stale_or}
use Rattle.model_laws.proofs.Replies.{DoneBy, Wrote, Again, writing}
use Rattle.quota_rules.specs.Counting.{counted_key, is_same_claim}
use Rattle.quota_rules.specs.Using.{Tally, over_in}
use Rattle.side_model.specs.Answers.{held_by, side}
use Rattle.side_model.specs.Sides.{SideSetup, counted_in, tally_of}
use Rattle.side_model.specs.Merged.{Step, entries}
use Rattle.side_model.specs.Within.{PassesQuota}
use Rattle.side_laws.specs.Fair.{CreatesPass}
use Rattle.side_laws.specs.Fair.{IsMirrored}
use Rattle.side_laws.proofs.Mirrors.{claim_there, found, same_claim, shares_itself}

-- the object is what this create makes
pub record IsCreated (request : Request) (o : Object) : Type 0 where
  pub given : Object
  pub asked : request ≡ requests.Create given
  pub default : Option (List ℕ)
  pub version : ℕ
  pub moment : List ℕ
  pub is : o ≡ created_object default given version moment

abbrev pub IsAdded : Request → Change → Object → Type 0
IsAdded request Added o = IsCreated request o
IsAdded request change o = ⊤

abbrev pub AddedOf : Request → Outcome → Type 0
AddedOf request (Says reply) = ⊤
AddedOf request (Stores change o) = IsAdded request change o
AddedOf request (Removes o) = ⊤

module _ (r : Request) where
  wrote : (new : Object) → OnOutcome (AddedOf r) (write_outcome new)
  wrote new = by_leaving (leaves new) refl
    where
      by_leaving : (b : Bool) → leaves new ≡ b → OnOutcome (AddedOf r) (write_outcome new)
      by_leaving true e = rw e (record { holds = tt })
      by_leaving false e = rw e (record { holds = tt })

  update_added : (s : State) (kind : SeatKind) (o : Object) (given : Option ℕ) (x : Option Object) → OnOutcome (AddedOf r) (update s kind o given x)
  unfolding update
  update_added s kind o given None = says (λ r. tt) _
  update_added s kind o given (Some old) = refused_or (λ r. tt) _ _ _ (rule_or (λ r. tt) _ _ (field_or (λ r. tt) _ _ (λ e. wrote _)))

  if_fits_added : (s : State) (x : Option Object) → OnOutcome (AddedOf r) (written_if_fits s x)
  unfolding written_if_fits
  if_fits_added s None = says (λ r. tt) _
  if_fits_added s (Some new) = wrote _

  status_added : (s : State) (kind : SeatKind) (status : NewStatus) (given : Option ℕ) (x : Option Object) → OnOutcome (AddedOf r) (update_status s kind status given x)
  unfolding update_status
  status_added s kind status given None = refused_or (λ r. tt) _ _ _ (says (λ r. tt) _)
  status_added s kind status given (Some old) = refused_or (λ r. tt) _ _ _ (refused_or (λ r. tt) _ _ _ (if_fits_added s _))

  edit_to_added : (s : State) (kind : SeatKind) (old : Object) (x : Option Object) → OnOutcome (AddedOf r) (edit_to s kind old x)
  unfolding edit_to
  edit_to_added s kind old None = says (λ r. tt) _
  edit_to_added s kind old (Some new) = rule_or (λ r. tt) _ _ (field_or (λ r. tt) _ _ (λ e. wrote _))

  edit_added : (s : State) (kind : SeatKind) (change : Edit) (x : Option Object) → OnOutcome (AddedOf r) (edit s kind change x)
  unfolding edit
  edit_added s kind change None = says (λ r. tt) _
  edit_added s kind change (Some old) = edit_to_added s kind old _

  delete_of_added : (s : State) (moment : List ℕ) (old : Object) (at_once deleting : Bool) → OnOutcome (AddedOf r) (delete_of s moment old at_once deleting)
  unfolding delete_of
  delete_of_added s moment old true deleting = record { holds = tt }
  delete_of_added s moment old false true = says (λ r. tt) _
  delete_of_added s moment old false false = wrote _

  delete_added : (s : State) (moment : List ℕ) (given : Option Uid) (x : Option Object) → OnOutcome (AddedOf r) (delete s moment given x)
  unfolding delete
  delete_added s moment given None = says (λ r. tt) _
  delete_added s moment given (Some old) = refused_or (λ r. tt) _ _ _ (delete_of_added s moment old _ _)

  get_added : (x : Option Object) → OnOutcome (AddedOf r) (get x)
  unfolding get
  get_added None = says (λ r. tt) _
  get_added (Some o) = says (λ r. tt) _

  bind_added : (s : State) (node : List ℕ) (x : Option PodData) → OnOutcome (AddedOf r) (bind s node x)
  unfolding bind
  bind_added s node None = says (λ r. tt) _
  bind_added s node (Some p) = refused_or (λ r. tt) _ _ _ (refused_or (λ r. tt) _ _ _ (record { holds = tt }))

  finish_added : (s : State) (stale : Option ℕ) (node : List ℕ) (x : Option PodData) → OnOutcome (AddedOf r) (finish s stale node x)
  unfolding finish
  finish_added s stale node None = says (λ r. tt) _
  finish_added s stale node (Some p) = stale_or (λ r. tt) _ _ (refused_or (λ r. tt) _ _ _ (refused_or (λ r. tt) _ _ _ (record { holds = tt })))

create_added : (s : State) (kind : SeatKind) (o : Object) (moment : List ℕ) (x : Option Object) → OnOutcome (AddedOf (requests.Create o)) (create s kind o moment x)
unfolding create
create_added s kind o moment (Some old) = says (λ r. tt) _
create_added s kind o moment None =
    rule_or (λ r. tt) _ _ (field_or (λ r. tt) _ _ (λ e. record { holds = record { given = o; asked = refl; default = _; version = _; moment = _; is = refl } }))

pub outcome_added : (s : State) (kind : SeatKind) (request : Request) (moment : List ℕ) (stale : Option ℕ) → OnOutcome (AddedOf request) (outcome s kind request moment stale)
unfolding outcome list
outcome_added s kind (requests.Create o) moment stale = create_added s kind o moment _
outcome_added s kind (requests.Update o given) moment stale = update_added _ s kind o given _
outcome_added s kind (requests.UpdateStatus key status given) moment stale = status_added _ s kind status given _
outcome_added s kind (requests.Edit key change) moment stale = edit_added _ s kind change _
outcome_added s kind (requests.Delete key given) moment stale = delete_added _ s moment given _
outcome_added s kind (requests.Get key) moment stale = get_added _ _
outcome_added s kind (requests.List k namespace) moment stale = says (λ r. tt) _
outcome_added s kind (requests.BindPod key uid node) moment stale = refused_or (λ r. tt) _ _ _ (bind_added _ s node _)
outcome_added s kind (requests.FinishPod key uid node epoch) moment stale = refused_or (λ r. tt) _ _ _ (finish_added _ s stale node _)
outcome_added s kind _ moment stale = says (λ r. tt) _

-- ---- what a create keeps

record IsFrom (c : ClaimData) (given : Object) : Type 0 where
  claim : ClaimData
  is : given ≡ Claim claim
  namespace : c.meta.namespace ≡ claim.meta.namespace
  bytes : c.amount.bytes ≡ claim.amount.bytes

other_kind : {A : Type 0} (a b : Object) → a ≡ b → (kind_index (kind_of a) ≡ kind_index (kind_of b) → ⊥) → A
other_kind a b e differ = absurd (differ (ap kind_index (ap kind_of e)))

created_from : (default : Option (List ℕ)) (given : Object) (version : ℕ) (moment : List ℕ) (c : ClaimData) → Claim c ≡ created_object default given version moment → IsFrom c given
unfolding created_object admitted_object without_status with_meta
created_from default (Claim d) version moment c e =
    let same = same_claim c _ e in record { claim = d; is = refl; namespace = ap (λ (x : ClaimData). x.meta.namespace) same; bytes = ap (λ (x : ClaimData). x.amount.bytes) same }
created_from default (Class x) version moment c e = other_kind (Claim c) _ e (λ k. omega (arith, k))
created_from default (Node x) version moment c e = other_kind (Claim c) _ e (λ k. omega (arith, k))
created_from default (Volume x) version moment c e = other_kind (Claim c) _ e (λ k. omega (arith, k))
created_from default (Pod x) version moment c e = other_kind (Claim c) _ e (λ k. omega (arith, k))

-- no licence lets a controller create a claim
by_user : (kind : SeatKind) (mine : List Entry) (d : ClaimData) → Licensed kind mine (requests.Create (Claim d)) → kind ≡ seats.User
by_user seats.User mine d h = refl
by_user seats.Binder mine d h = absurd h.1
by_user seats.Ops mine d h = absurd h.1
by_user seats.Scheduler mine d h = absurd h.1
by_user seats.ClaimProtect mine d h = absurd h.1
by_user seats.VolumeProtect mine d h = absurd h.1
by_user seats.Agent mine d h = absurd h.1

-- ---- one call

module _ (setup : Setup) (given : SideSetup) (m : List Step) (e : Entry) (mirrored : IsMirrored setup given m) where
  abbrev Counted : ClaimData → Bool
  Counted c = is_same_claim (find key_cmp counted_key (key_of (Claim c)) (counted_in (side setup given m).sizes (world setup (entries m)).store.rows)) c.meta.uid

  counted_there : (c a : ClaimData) → row_at (key_of (Claim c)) (world setup (entries m)).store.rows ≡ Some (Claim a) → c.meta.uid ≡ a.meta.uid → Counted c ≡ true
  counted_there c a is same =
      let has = mirrored.uids (key_of (Claim c)) (Claim a) is in
      let here = found (side setup given m).sizes (key_of (Claim c)) a (world setup (entries m)).store.rows is in
      rw here (shares_itself a.meta.uid c.meta.uid has.0 has.1 same)

  created_passes : (mine : List Entry) → Licensed e.kind mine e.request → PassesQuota setup given m e.kind e.request → (c : ClaimData) → IsCreated e.request (Claim c)
      → held_by (tally_of (side setup given m) (world setup (entries m)).store.rows) (Claim c) ≡ None
  created_passes mine licensed passes c created =
      let t : Tally = tally_of (side setup given m) (world setup (entries m)).store.rows in
      let from = created_from created.default created.given created.version created.moment c created.is in
      let asked : e.request ≡ requests.Create (Claim from.claim) = created.asked ∙ ap requests.Create from.is in
      let user : e.kind ≡ seats.User = by_user e.kind mine from.claim (subst (Licensed e.kind mine) asked licensed) in
      let pass : PassesQuota setup given m seats.User (requests.Create (Claim from.claim)) =
      subst (λ (k : SeatKind). PassesQuota setup given m k (requests.Create (Claim from.claim))) user (subst (PassesQuota setup given m e.kind) asked passes) in
      ap (λ (n : List ℕ). over_in t n (record { bytes = c.amount.bytes; claims = 1 })) from.namespace
      ∙ ap (λ (b : ℕ). over_in t from.claim.meta.namespace (record { bytes = b; claims = 1 })) from.bytes ∙ pass

  old_is : (c : ClaimData) (old : Object) → row_at (key_of (Claim c)) (world setup (entries m)).store.rows ≡ Some old → KeepsIdentity old (Claim c) → Counted c ≡ true
  old_is c old is keeps = by (claim_there c old (row_at_key (key_of (Claim c)) old (world setup (entries m)).store.rows is))
    where
      by : (a : ClaimData) × (old ≡ Claim a) → Counted c ≡ true
      by t = counted_there c t.0 (is ∙ ap (λ (z : Object). Some z) t.1) (keeps.uid ∙ ap (λ (z : Object). (meta_of z).uid) t.1)

  by_change : (mine : List Entry) → Licensed e.kind mine e.request → PassesQuota setup given m e.kind e.request → (c : ClaimData) (change : Change)
      → IsInPlace (world setup (entries m)).store.rows change (Claim c) → IsAdded e.request change (Claim c) → Counted c ≡ false
      → held_by (tally_of (side setup given m) (world setup (entries m)).store.rows) (Claim c) ≡ None
  by_change mine licensed passes c Added place added new = created_passes mine licensed passes c added
  by_change mine licensed passes c Modified place added new = absurd (true≢false (sym (old_is c place.0 place.1.0 place.1.1) ∙ new))
  by_change mine licensed passes c Deleted place added new = absurd (true≢false (sym (old_is c place.0 place.1.0 place.1.1) ∙ new))

  by_done : (mine : List Entry) → Licensed e.kind mine e.request → PassesQuota setup given m e.kind e.request → (c : ClaimData) (x : Effect)
      → DoneBy (world setup (entries m)) e.request (Claim c) x → OnEffect (ChangeOf (world setup (entries m)).store.rows) x → OnEffect (AddedOf e.request) x → Counted c ≡ false
      → held_by (tally_of (side setup given m) (world setup (entries m)).store.rows) (Claim c) ≡ None
  by_done mine licensed passes c (OnStore _) (Wrote change) place added new = by_change mine licensed passes c change place.on added.on new
  by_done mine licensed passes c (OnStore _) (Again second) place added new =
      let is : row_at (key_of (Claim c)) (world setup (entries m)).store.rows ≡ Some (Claim c) =
      ap (λ (k : Key). row_at k (world setup (entries m)).store.rows) (row_at_key second.key (Claim c) (world setup (entries m)).store.rows second.there) ∙ second.there in
      absurd (true≢false (sym (counted_there c c is refl) ∙ new))
  by_done mine licensed passes c (OnDevices _) by place added new = elim by [ ]
  by_done mine licensed passes c (SetsMoment _) by place added new = elim by [ ]

pub creates_pass : CreatesPass
creates_pass setup given m e mine mirrored told licensed passes c done new =
    let w = world setup (entries m) in
    by_done setup given m e mirrored mine licensed passes c (effect setup w e.kind e.request)
    ((writing setup w e.kind e.request).done (Claim c) (sym told ∙ done))
    (on_effects (λ r. tt) setup w e.kind e.request (λ stale. outcome_changes w.store e.kind e.request w.moment stale))
    (on_effects (λ r. tt) setup w e.kind e.request (λ stale. outcome_added w.store e.kind e.request w.moment stale))
    new
