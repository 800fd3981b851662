-- The newest told object of some key is found among what was told; the reads of single objects go by it.
use Rattle.std.proofs.Common.{◌≡◌, ℕ, ◌↔◌, IsTrue, Bool, List, [], ◌∷◌, Option, true, sym, ◌∙◌, ap, subst, inl, inr}
use Rattle.kube_parts.specs.declared.parts.Kind.{Kind}
use Rattle.kube_objects.specs.declared.key.Key.{Key}
use Rattle.kube_objects.specs.declared.objects.Claim.{Claim as ClaimData}
use Rattle.kube_objects.specs.declared.objects.Volume.{Volume as VolumeData}
use Rattle.kube_objects.specs.declared.objects.Object.{Object}
use Rattle.kube_objects.specs.declared.objects.Object.TheVariants.{Class, Node, Volume, Claim, Pod}
use Rattle.kube_objects.specs.Bindings.{is_completed}
use Rattle.kube_objects.specs.Keys.{key_of}
use Rattle.call_types.specs.declared.entry.Entry.{Entry}
use Rattle.binder_model.specs.ObjectKeys.{claim_key, volume_key}
use Rattle.binder_model.specs.Reading.{AsksForClaim, AsksForVolume, LacksUid}
use Rattle.binder_model.specs.Told.{SomeOf, IsClaimWith, IsNewest, IsVolumeWith, TellsObject, ToldClaim, ToldObject, ToldVolume, newest, object_of}
use Rattle.model_laws.proofs.Evidence.{told_map}
use Rattle.model_laws.proofs.Lists.{one}
use Rattle.model_laws.proofs.Newest.{newest_told}
use Rattle.licence_scans.specs.Keyed.{key_at}
use Rattle.licence_rows.specs.Asking.{IsLacking, IsNamingClaim, IsNewestWith, SomeNewest}
use Rattle.licence_rows.proofs.NewestKeys.{newest_keyed}

-- what was told newest of a key whose parts are these
pub newest_at : (mine : List Entry) (kind : Kind) (a b x y : List ℕ) → a ≡ b → x ≡ y → object_of (newest mine (key_at kind a x)) ≡ object_of (newest mine (key_at kind b y))
newest_at mine kind a b x y p q = λ i. object_of (newest mine (key_at kind (p i) (q i)))

some_gives : {X : Type 0} (P : X → Type 0) (xs : List X) → SomeOf P xs → (x : X) × P x
some_gives P [] h = elim h [ ]
some_gives P (x ∷ xs) (inl p) = (x, p)
some_gives P (x ∷ xs) (inr h) = some_gives P xs h

pub told_gives : (P : Object → Type 0) (mine : List Entry) → ToldObject P mine → (o : Object) × P o
told_gives P mine h = let e = some_gives (TellsObject P) mine h in some_gives P _ e.1.1

volume_of : (P : VolumeData → Type 0) (o : Object) → IsVolumeWith P o → (v : VolumeData) × P v
volume_of P (Volume v) p = (v, p)
volume_of P (Class x) p = elim p [ ]
volume_of P (Node x) p = elim p [ ]
volume_of P (Claim x) p = elim p [ ]
volume_of P (Pod x) p = elim p [ ]

claim_of : (P : ClaimData → Type 0) (o : Object) → IsClaimWith P o → (c : ClaimData) × P c
claim_of P (Claim c) p = (c, p)
claim_of P (Class x) p = elim p [ ]
claim_of P (Node x) p = elim p [ ]
claim_of P (Volume x) p = elim p [ ]
claim_of P (Pod x) p = elim p [ ]

pub volume_told : (P : VolumeData → Type 0) (mine : List Entry) → ToldVolume P mine → (v : VolumeData) × P v
volume_told P mine h = let o = told_gives (IsVolumeWith P) mine h in volume_of P o.0 o.1

pub claim_told : (P : ClaimData → Type 0) (mine : List Entry) → ToldClaim P mine → (c : ClaimData) × P c
claim_told P mine h = let o = told_gives (IsClaimWith P) mine h in claim_of P o.0 o.1

-- the newest told of a key is itself told, and stands under it
pub newest_some : (P Q : Object → Type 0) (mine : List Entry) (told : Bool)
    → (IsTrue told ↔ ToldObject (λ o. P o × IsNewestWith (λ x. P x × Q x) mine (key_of o)) mine) → (IsTrue told ↔ SomeNewest (λ o. P o × Q o) mine)
newest_some P Q mine told is = (
  (λ t. let o = told_gives (λ o. P o × IsNewestWith (λ x. P x × Q x) mine (key_of o)) mine (is.0 t) in there o.0 o.1),
  (λ s. is.1 (told_map {P = λ o. o ≡ s.0} {Q = λ o. P o × IsNewestWith (λ x. P x × Q x) mine (key_of o)}
      (λ o e. subst (λ x. P x × IsNewestWith (λ y. P y × Q y) mine (key_of x)) (sym e) (s.1.1.0, (s.0, s.1))) mine (newest_told mine (key_of s.0) s.0 s.1.0))),
)
  where
    there : (o : Object) → P o × IsNewestWith (λ x. P x × Q x) mine (key_of o) → SomeNewest (λ x. P x × Q x) mine
    there o p =
        let x = p.1.0 in
        let keyed : key_of x ≡ key_of o = newest_keyed mine (key_of o) x p.1.1.0 in
        (x, (subst (λ k. IsNewest mine k x) (sym keyed) p.1.1.0, p.1.1.1))

-- a claim that is newest, of which both hold
pub newest_claim : (P Q : ClaimData → Type 0) (mine : List Entry) → SomeNewest (λ o. IsClaimWith P o × IsClaimWith Q o) mine → (c : ClaimData)
    × (IsNewest mine (claim_key c.meta.namespace c.meta.name) (Claim c) × (P c × Q c))
newest_claim P Q mine s = by s.0 s.1.0 s.1.1
  where
    by : (o : Object) → IsNewest mine (key_of o) o → IsClaimWith P o × IsClaimWith Q o → (c : ClaimData) × (IsNewest mine (claim_key c.meta.namespace c.meta.name) (Claim c) × (P c × Q c))
    by (Claim c) new p = (c, (new, p))
    by (Class x) new p = absurd p.0
    by (Node x) new p = absurd p.0
    by (Volume x) new p = absurd p.0
    by (Pod x) new p = absurd p.0

pub claim_newest : (P Q : ClaimData → Type 0) (mine : List Entry) (c : ClaimData) → IsNewest mine (claim_key c.meta.namespace c.meta.name) (Claim c)
    → P c → Q c → SomeNewest (λ o. IsClaimWith P o × IsClaimWith Q o) mine
claim_newest P Q mine c new p q = (Claim c, (new, (p, q)))

-- the binder's reads

module _ (mine : List Entry) (key : Key) (found : Option Object) (is : found ≡ object_of (newest mine key)) where
  asking : (o : Object) → IsNewest mine (key_of o) o → IsVolumeWith (IsNamingClaim key) o → IsVolumeWith (IsLacking found) o → AsksForClaim mine key
  asking (Volume v) new n lacks = record {
    volume = v;
    newest_volume = subst (λ namespace. IsNewest mine (record (volume_key v.meta.name) { namespace = namespace }) (Volume v)) n.unplaced new;
    reference = lacks.reference;
    refers = lacks.refers;
    named = subst (λ r. key ≡ claim_key r.namespace r.name) (one n.reference lacks.reference (sym n.refers ∙ lacks.refers)) n.named;
    uid = lacks.uid;
    known = lacks.known;
    lacking = subst (λ f. LacksUid f lacks.uid) is lacks.lacking;
  }
  asking (Class x) new n lacks = absurd n
  asking (Node x) new n lacks = absurd n
  asking (Claim x) new n lacks = absurd n
  asking (Pod x) new n lacks = absurd n

  asked : AsksForClaim mine key → SomeNewest (λ o. IsVolumeWith (IsNamingClaim key) o × IsVolumeWith (IsLacking found) o) mine
  asked a =
      let keyed : key_of (Volume a.volume) ≡ volume_key a.volume.meta.name = newest_keyed mine (volume_key a.volume.meta.name) (Volume a.volume) a.newest_volume in
      let naming : IsNamingClaim key a.volume = record { unplaced = ap (λ (k : Key). k.namespace) keyed; reference = a.reference; refers = a.refers; named = a.named } in
      let lacking : IsLacking found a.volume = record { reference = a.reference; refers = a.refers; uid = a.uid; known = a.known; lacking = subst (λ f. LacksUid f a.uid) (sym is) a.lacking } in
      (Volume a.volume, (subst (λ k. IsNewest mine k (Volume a.volume)) (sym keyed) a.newest_volume, (naming, lacking)))

  pub asks_claim : (told : Bool) → (IsTrue told ↔ SomeNewest (λ o. IsVolumeWith (IsNamingClaim key) o × IsVolumeWith (IsLacking found) o) mine) → (IsTrue told ↔ AsksForClaim mine key)
  asks_claim told asks = ((λ t. let s = asks.0 t in asking s.0 s.1.0 s.1.1.0 s.1.1.1), (λ a. asks.1 (asked a)))

pub asks_volume : (mine : List Entry) (key : Key) (told : Bool)
    → (IsTrue told ↔ SomeNewest (λ o. IsClaimWith (λ c. key ≡ volume_key c.volume_name) o × IsClaimWith (λ c. is_completed c ≡ true) o) mine) → (IsTrue told ↔ AsksForVolume mine key)
asks_volume mine key told is = (
  (λ t. let s = newest_claim (λ c. key ≡ volume_key c.volume_name) (λ c. is_completed c ≡ true) mine (is.0 t) in record { claim = s.0; newest_claim = s.1.0; completed = s.1.1.1; named = s.1.1.0 }),
  (λ a. is.1 (claim_newest (λ c. key ≡ volume_key c.volume_name) (λ c. is_completed c ≡ true) mine a.claim a.newest_claim a.named a.completed)),
)
