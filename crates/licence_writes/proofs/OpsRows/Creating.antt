-- The row on creating a volume, as the code tests it: the volume itself shows its claim, its data and their place.
use Rattle.std.proofs.Common.{◌≡◌, ◌↔◌, IsTrue, ℕ, Bool, true≢false, List, [], ◌∷◌, Option, Some, None, refl, sym, ◌∙◌, ap, subst, inl, inr}
use Rattle.std.specs.Prelude.{is_some}
use Rattle.kube_parts.specs.declared.uid.Uid.{Uid}
use Rattle.kube_objects.specs.declared.objects.DataId.{DataId}
use Rattle.kube_objects.specs.declared.objects.Ref.{Ref}
use Rattle.kube_objects.specs.declared.objects.Claim.{Claim as ClaimData}
use Rattle.kube_objects.specs.declared.objects.Class.{Class as ClassData}
use Rattle.kube_objects.specs.declared.objects.Volume.{Volume as VolumeData}
use Rattle.kube_objects.specs.declared.objects.Object.TheVariants.{Class, Claim}
use Rattle.kube_objects.specs.Bindings.{class_of_claim}
use Rattle.call_types.specs.declared.entry.Entry.{Entry}
use Rattle.call_types.specs.declared.request.Request.{Request}
use Rattle.call_types.specs.declared.request.Request.TheVariants as requests
use Rattle.call_types.specs.declared.reply.Reply.{Reply}
use Rattle.call_types.specs.declared.reply.Reply.TheVariants.{Provisioned}
use Rattle.binder_model.specs.At.{HasUid}
use Rattle.binder_model.specs.BindWrites.{ref_to}
use Rattle.binder_model.specs.ObjectKeys.{claim_key, class_key}
use Rattle.binder_model.specs.OpsLicence.{GaveData, MayCreate, TellsData}
use Rattle.binder_model.specs.Provisioning.{data_name, provisioned_volume, terms_for}
use Rattle.binder_model.specs.Told.{After, IsNewest, ToldClaim}
use Rattle.licence_rows.proofs.Picks.{class_is}
use Rattle.model_laws.proofs.NewestRows.{newest_claim as claim_is}
use Rattle.model_laws.proofs.Lists.{one}
use Rattle.licence_writes.specs.OpsRows.Providing.{Creates, GaveShown, TellsShown, made_volume, source_of}

-- the data and the place that an answer gave

abbrev Gives : List ℕ → VolumeData → Request → Reply → Type 0
Gives name new request reply = (id : DataId) × ((topology : Option (List ℕ × List ℕ)) × (GaveData name id topology request reply × ((new.source ≡ source_of id) × (new.terms ≡ terms_for topology))))

gives : (name : List ℕ) (new : VolumeData) (request : Request) (reply : Reply) → GaveShown name new request reply → Gives name new request reply
gives name new (requests.Provision asked provisioner bytes labels) (Provisioned given where_) h = (given, (where_, ((h.0, refl, refl), (h.1, h.2))))
gives name new request reply h = absurd h

shows : (name : List ℕ) (id : DataId) (topology : Option (List ℕ × List ℕ)) (new : VolumeData) (request : Request) (reply : Reply)
    → GaveData name id topology request reply → new.source ≡ source_of id → new.terms ≡ terms_for topology → GaveShown name new request reply
shows name id topology new (requests.Provision asked provisioner bytes labels) (Provisioned given where_) h s t = (h.0, s ∙ ap source_of (sym h.1), t ∙ ap terms_for (sym h.2))
shows name id topology new request reply h s t = absurd h

abbrev Given : List ℕ → VolumeData → (List Entry → Type 0) → List Entry → Type 0
Given name new P mine = (id : DataId) × ((topology : Option (List ℕ × List ℕ)) × (After P (TellsData name id topology) mine × ((new.source ≡ source_of id) × (new.terms ≡ terms_for topology))))

after_gives : (name : List ℕ) (new : VolumeData) (P : List Entry → Type 0) (mine : List Entry) → After P (TellsShown name new) mine → Given name new P mine
after_gives name new P [] h = elim h [ ]
after_gives name new P (e ∷ mine) (inl p) = let g = gives name new e.request e.reply p.0.1 in (g.0, (g.1.0, (inl ((p.0.0, g.1.1.0), p.1), g.1.1.1)))
after_gives name new P (e ∷ mine) (inr h) = let g = after_gives name new P mine h in (g.0, (g.1.0, (inr g.1.1.0, g.1.1.1)))

after_shows : (name : List ℕ) (id : DataId) (topology : Option (List ℕ × List ℕ)) (new : VolumeData) (P : List Entry → Type 0) (mine : List Entry)
    → new.source ≡ source_of id → new.terms ≡ terms_for topology → After P (TellsData name id topology) mine → After P (TellsShown name new) mine
after_shows name id topology new P [] s t h = elim h [ ]
after_shows name id topology new P (e ∷ mine) s t (inl p) = inl ((p.0.0, shows name id topology new e.request e.reply p.0.1 s t), p.1)
after_shows name id topology new P (e ∷ mine) s t (inr h) = inr (after_shows name id topology new P mine s t h)

-- the volume with its data and their place taken from itself

source_is : (c : ClaimData) (uid : Uid) (class : ClassData) (id : DataId) (topology : Option (List ℕ × List ℕ)) (new : VolumeData)
    → new ≡ provisioned_volume c uid class id topology → new.source ≡ source_of id
unfolding provisioned_volume
source_is c uid class id topology new e = ap (λ (v : VolumeData). v.source) e

terms_are : (c : ClaimData) (uid : Uid) (class : ClassData) (id : DataId) (topology : Option (List ℕ × List ℕ)) (new : VolumeData)
    → new ≡ provisioned_volume c uid class id topology → new.terms ≡ terms_for topology
unfolding provisioned_volume
terms_are c uid class id topology new e = ap (λ (v : VolumeData). v.terms) e

refers_to : (c : ClaimData) (uid : Uid) (class : ClassData) (id : DataId) (topology : Option (List ℕ × List ℕ)) (new : VolumeData)
    → new ≡ provisioned_volume c uid class id topology → new.claim_ref ≡ Some (ref_to c)
unfolding provisioned_volume
refers_to c uid class id topology new e = ap (λ (v : VolumeData). v.claim_ref) e

made_refers : (c : ClaimData) (uid : Uid) (class : ClassData) (new : VolumeData) → new ≡ made_volume c uid class new → new.claim_ref ≡ Some (ref_to c)
unfolding provisioned_volume
made_refers c uid class new e = ap (λ (v : VolumeData). v.claim_ref) e

made_same : (c : ClaimData) (uid : Uid) (class : ClassData) (id : DataId) (topology : Option (List ℕ × List ℕ)) (new : VolumeData)
    → new.source ≡ source_of id → new.terms ≡ terms_for topology → made_volume c uid class new ≡ provisioned_volume c uid class id topology
unfolding provisioned_volume
made_same c uid class id topology new s t = λ i. record (made_volume c uid class new) { source = s i; terms = t i }

-- the row

creates_there : (mine : List Entry) (new : VolumeData) (c : ClaimData) (uid : Uid) (class : ClassData)
    → IsNewest mine (claim_key c.meta.namespace c.meta.name) (Claim c) → IsNewest mine (class_key (class_of_claim c)) (Class class) → Creates mine c uid class new → MayCreate mine new
creates_there mine new c uid class newest class_newest k =
    let g = after_gives (data_name uid) new (ToldClaim (HasUid uid)) mine k.given in record {
      claim = c;
      uid = uid;
      known = k.known;
      newest = newest;
      class = class;
      class_newest = class_newest;
      id = g.0;
      topology = g.1.0;
      given = g.1.1.0;
      object = k.made ∙ made_same c uid class g.0 g.1.0 new g.1.1.1.0 g.1.1.1.1;
    }

creates_back : (mine : List Entry) (new : VolumeData) (row : MayCreate mine new) → Creates mine row.claim row.uid row.class new
creates_back mine new row =
    let s = source_is row.claim row.uid row.class row.id row.topology new row.object in
    let t = terms_are row.claim row.uid row.class row.id row.topology new row.object in record {
      known = row.known;
      made = row.object ∙ sym (made_same row.claim row.uid row.class row.id row.topology new s t);
      given = after_shows (data_name row.uid) row.id row.topology new (ToldClaim (HasUid row.uid)) mine s t row.given;
    }

create_refers : (mine : List Entry) (new : VolumeData) (row : MayCreate mine new) → new.claim_ref ≡ Some (ref_to row.claim)
create_refers mine new row = refers_to row.claim row.uid row.class row.id row.topology new row.object

pub create_none : (mine : List Entry) (new : VolumeData) → new.claim_ref ≡ None → MayCreate mine new → ⊥
create_none mine new none row = true≢false (ap is_some (sym (create_refers mine new row) ∙ none))

create_ref : (mine : List Entry) (new : VolumeData) (r : Ref) (row : MayCreate mine new) → new.claim_ref ≡ Some r → r ≡ ref_to row.claim
create_ref mine new r row refers = one r (ref_to row.claim) (sym refers ∙ create_refers mine new row)

pub create_unknown : (mine : List Entry) (new : VolumeData) (r : Ref) → new.claim_ref ≡ Some r → r.uid ≡ None → MayCreate mine new → ⊥
create_unknown mine new r refers none row = true≢false (ap is_some (sym row.known ∙ sym (ap (λ (x : Ref). x.uid) (create_ref mine new r row refers)) ∙ none))

create_newest : (mine : List Entry) (new : VolumeData) (r : Ref) (row : MayCreate mine new) → new.claim_ref ≡ Some r → IsNewest mine (claim_key r.namespace r.name) (Claim row.claim)
create_newest mine new r row refers = subst (λ (x : Ref). IsNewest mine (claim_key x.namespace x.name) (Claim row.claim)) (sym (create_ref mine new r row refers)) row.newest

pub create_absent : (mine : List Entry) (new : VolumeData) (r : Ref) → new.claim_ref ≡ Some r → ((c : ClaimData) → IsNewest mine (claim_key r.namespace r.name) (Claim c) → ⊥) → MayCreate mine new → ⊥
create_absent mine new r refers none row = none row.claim (create_newest mine new r row refers)

create_claim : (mine : List Entry) (new : VolumeData) (r : Ref) (c : ClaimData) (row : MayCreate mine new) → new.claim_ref ≡ Some r
    → IsNewest mine (claim_key r.namespace r.name) (Claim c) → row.claim ≡ c
create_claim mine new r c row refers newest = claim_is mine (claim_key r.namespace r.name) row.claim c (create_newest mine new r row refers) newest

pub create_classless : (mine : List Entry) (new : VolumeData) (r : Ref) (c : ClaimData) → new.claim_ref ≡ Some r
    → IsNewest mine (claim_key r.namespace r.name) (Claim c) → ((x : ClassData) → IsNewest mine (class_key (class_of_claim c)) (Class x) → ⊥) → MayCreate mine new → ⊥
create_classless mine new r c refers newest none row =
    none row.class (subst (λ (x : ClaimData). IsNewest mine (class_key (class_of_claim x)) (Class row.class)) (create_claim mine new r c row refers newest) row.class_newest)

pub create_row : (mine : List Entry) (new : VolumeData) (r : Ref) (uid : Uid) (c : ClaimData) (class : ClassData) (b : Bool) → new.claim_ref ≡ Some r
    → r.uid ≡ Some uid → IsNewest mine (claim_key r.namespace r.name) (Claim c) → IsNewest mine (class_key (class_of_claim c)) (Class class)
    → (IsTrue b ↔ Creates mine c uid class new) → (IsTrue b ↔ MayCreate mine new)
create_row mine new r uid c class b refers known newest class_newest is = ((λ t. there (is.0 t)), (λ row. is.1 (back row)))
  where
    there : Creates mine c uid class new → MayCreate mine new
    there k =
        let same : r ≡ ref_to c = one r (ref_to c) (sym refers ∙ made_refers c uid class new k.made) in
        creates_there mine new c uid class (subst (λ (x : Ref). IsNewest mine (claim_key x.namespace x.name) (Claim c)) same newest) class_newest k

    back : MayCreate mine new → Creates mine c uid class new
    back row =
        let claims : row.claim ≡ c = create_claim mine new r c row refers newest in
        let classes : row.class ≡ class = class_is mine (class_key (class_of_claim c)) row.class class (subst
        (λ (x : ClaimData). IsNewest mine (class_key (class_of_claim x)) (Class row.class)) claims row.class_newest) class_newest in
        let uids : row.uid ≡ uid = one row.uid uid (sym row.known ∙ ap (λ (x : Ref). x.uid) (sym (create_ref mine new r row refers)) ∙ known) in
        subst (λ x. Creates mine x uid class new) claims (subst (λ x. Creates mine row.claim uid x new) classes (subst (λ u. Creates mine row.claim u row.class new) uids (creates_back mine new row)))
