-- Objects by their UID: where no two stand under one UID, what is found by UID is what stands under its key.
use Rattle.std.proofs.Common.{sym, refl, inl, inr, ap, ◌∙◌, true≢false, arith}
use Rattle.std.proofs.lemmas.Bool.Decides.{nat_tests}
use Rattle.std.specs.Prelude.{if◌then◌else◌, ℕ, ◌≡◌, Bool, true, false, List, [], ◌∷◌, ◌<◌, Option, Some, None, length}
use Rattle.kube_parts.specs.declared.uid.Uid.{Uid}
use Rattle.kube_objects.specs.declared.key.Key.{Key}
use Rattle.kube_objects.specs.declared.objects.Claim.{Claim as ClaimData}
use Rattle.kube_objects.specs.declared.objects.Volume.{Volume as VolumeData}
use Rattle.kube_objects.specs.declared.objects.Object.{Object}
use Rattle.kube_objects.specs.declared.objects.Object.TheVariants.{Class, Node, Volume, Claim, Pod}
use Rattle.kube_objects.specs.Keys.{AreRows, key_of, meta_of, row_at}
use Rattle.kube_objects.specs.Bindings.{carries, is_uid}
use Rattle.kube_objects.proofs.KeyOrder.{row_at_key}
use Rattle.binder_model.specs.Choice.{claim_in, claim_named}
use Rattle.call_types.specs.declared.entry.Entry.{Entry}
use Rattle.call_types.specs.declared.setup.Setup.{Setup}
use Rattle.binder_model.specs.Imports.{ImportsPass}
use Rattle.binder_model.specs.ObjectKeys.{claim_key, volume_key}
use Rattle.binder_model.specs.Promises.{most_entries}
use Rattle.binder_model.specs.Same.{same_uid}
use Rattle.binder_model.specs.World.{world}
use Rattle.model_laws.proofs.Stood.{one_uid_one_key, stood}
use Rattle.model_laws.proofs.Lists.{IsIn, none_some, one}
use Rattle.model_laws.proofs.Readings.{found_stands, member_stands}
use Rattle.safety_law.proofs.Invariant.Objects.{same_claim, same_volume, some_claim}
use Rattle.safety_law.proofs.Invariant.Tests.{uid_is, uid_same}
use Rattle.volume_index.proofs.PlacesBehind.{some_volume}
use Rattle.attach_law.specs.Attached.{claim_with, own_in, own_volume, volume_with}

-- ---- UIDs

pub uid_test : (u : Uid) → same_uid u u ≡ true
uid_test u = uid_same u u refl

pub uid_of : (a b : Uid) → same_uid a b ≡ true → a ≡ b
uid_of a b e = let n : a.0 ≡ b.0 = grind (arith, nat_tests) in ap (λ (k : ℕ). record { 0 = k }) n

-- ---- claims

abbrev is_claim : Object → Bool
is_claim (Claim c) = true
is_claim o = false

abbrev IsFoundClaim : Uid → List Object → ClaimData → Type 0
IsFoundClaim u rows c = IsIn (Claim c) rows × (c.meta.uid ≡ Some u)

pub found_claim : (u : Uid) (rows : List Object) (c : ClaimData) → claim_with u rows ≡ Some c → IsFoundClaim u rows c
found_claim u [] c e = none_some e
found_claim u (Claim d ∷ os) c e = by (is_uid d.meta.uid u) refl e (found_claim u os c)
  where
    by : (b : Bool) → is_uid d.meta.uid u ≡ b → (if b then Some d else claim_with u os) ≡ Some c
        → (claim_with u os ≡ Some c → IsFoundClaim u os c) → IsFoundClaim u (Claim d ∷ os) c
    by true t e f = (inl (ap (λ x. Claim x) (one d c e)), ap (λ (x : ClaimData). x.meta.uid) (sym (one d c e)) ∙ uid_is d.meta.uid u t)
    by false t e f = let r = f e in (inr r.0, r.1)
found_claim u (Class x ∷ os) c e = let r = found_claim u os c e in (inr r.0, r.1)
found_claim u (Node x ∷ os) c e = let r = found_claim u os c e in (inr r.0, r.1)
found_claim u (Volume x ∷ os) c e = let r = found_claim u os c e in (inr r.0, r.1)
found_claim u (Pod x ∷ os) c e = let r = found_claim u os c e in (inr r.0, r.1)

has_claim : (u : Uid) (rows : List Object) (c : ClaimData) → IsIn (Claim c) rows → is_uid c.meta.uid u ≡ true → (d : ClaimData) × (claim_with u rows ≡ Some d)
has_claim u [] c h e = absurd h
has_claim u (Claim d ∷ os) c h e = by (is_uid d.meta.uid u) refl h (λ m. has_claim u os c m e)
  where
    by : (b : Bool) → is_uid d.meta.uid u ≡ b → IsIn (Claim c) (Claim d ∷ os) → (IsIn (Claim c) os → (x : ClaimData) × (claim_with u os ≡ Some x))
        → (x : ClaimData) × ((if b then Some d else claim_with u os) ≡ Some x)
    by true t h f = (d, refl)
    by false t h f = elim h [
      | inl is ↦ absurd (true≢false (sym (ap (λ (x : ClaimData). is_uid x.meta.uid u) (same_claim d c is) ∙ e) ∙ t))
      | inr more ↦ f more
    ]
has_claim u (Class x ∷ os) c h e = elim h [ inl is ↦ absurd (true≢false (sym (ap is_claim is))) | inr more ↦ has_claim u os c more e ]
has_claim u (Node x ∷ os) c h e = elim h [ inl is ↦ absurd (true≢false (sym (ap is_claim is))) | inr more ↦ has_claim u os c more e ]
has_claim u (Volume x ∷ os) c h e = elim h [ inl is ↦ absurd (true≢false (sym (ap is_claim is))) | inr more ↦ has_claim u os c more e ]
has_claim u (Pod x ∷ os) c h e = elim h [ inl is ↦ absurd (true≢false (sym (ap is_claim is))) | inr more ↦ has_claim u os c more e ]

-- ---- volumes

abbrev is_volume : Object → Bool
is_volume (Volume v) = true
is_volume o = false

abbrev IsFoundVolume : Uid → List Object → VolumeData → Type 0
IsFoundVolume u rows v = IsIn (Volume v) rows × (v.meta.uid ≡ Some u)

pub found_volume : (u : Uid) (rows : List Object) (v : VolumeData) → volume_with u rows ≡ Some v → IsFoundVolume u rows v
found_volume u [] v e = none_some e
found_volume u (Volume d ∷ os) v e = by (is_uid d.meta.uid u) refl e (found_volume u os v)
  where
    by : (b : Bool) → is_uid d.meta.uid u ≡ b → (if b then Some d else volume_with u os) ≡ Some v
        → (volume_with u os ≡ Some v → IsFoundVolume u os v) → IsFoundVolume u (Volume d ∷ os) v
    by true t e f = (inl (ap (λ x. Volume x) (one d v e)), ap (λ (x : VolumeData). x.meta.uid) (sym (one d v e)) ∙ uid_is d.meta.uid u t)
    by false t e f = let r = f e in (inr r.0, r.1)
found_volume u (Class x ∷ os) v e = let r = found_volume u os v e in (inr r.0, r.1)
found_volume u (Node x ∷ os) v e = let r = found_volume u os v e in (inr r.0, r.1)
found_volume u (Claim x ∷ os) v e = let r = found_volume u os v e in (inr r.0, r.1)
found_volume u (Pod x ∷ os) v e = let r = found_volume u os v e in (inr r.0, r.1)

has_volume : (u : Uid) (rows : List Object) (v : VolumeData) → IsIn (Volume v) rows → is_uid v.meta.uid u ≡ true
    → (d : VolumeData) × (volume_with u rows ≡ Some d)
has_volume u [] v h e = absurd h
has_volume u (Volume d ∷ os) v h e = by (is_uid d.meta.uid u) refl h (λ m. has_volume u os v m e)
  where
    by : (b : Bool) → is_uid d.meta.uid u ≡ b → IsIn (Volume v) (Volume d ∷ os) → (IsIn (Volume v) os → (x : VolumeData) × (volume_with u os ≡ Some x))
        → (x : VolumeData) × ((if b then Some d else volume_with u os) ≡ Some x)
    by true t h f = (d, refl)
    by false t h f = elim h [
      | inl is ↦ absurd (true≢false (sym (ap (λ (x : VolumeData). is_uid x.meta.uid u) (same_volume d v is) ∙ e) ∙ t))
      | inr more ↦ f more
    ]
has_volume u (Class x ∷ os) v h e = elim h [ inl is ↦ absurd (true≢false (sym (ap is_volume is))) | inr more ↦ has_volume u os v more e ]
has_volume u (Node x ∷ os) v h e = elim h [ inl is ↦ absurd (true≢false (sym (ap is_volume is))) | inr more ↦ has_volume u os v more e ]
has_volume u (Claim x ∷ os) v h e = elim h [ inl is ↦ absurd (true≢false (sym (ap is_volume is))) | inr more ↦ has_volume u os v more e ]
has_volume u (Pod x ∷ os) v h e = elim h [ inl is ↦ absurd (true≢false (sym (ap is_volume is))) | inr more ↦ has_volume u os v more e ]

-- ---- where UIDs are given once

-- no two objects have one UID
abbrev pub UidsOnce : List Object → Type 0
UidsOnce rows =
    (a b : Object) (uid : Uid) → row_at (key_of a) rows ≡ Some a → row_at (key_of b) rows ≡ Some b
    → (meta_of a).uid ≡ Some uid → (meta_of b).uid ≡ Some uid → key_of a ≡ key_of b

-- so it is in a history
pub uids_once : (setup : Setup) (past : List Entry) → ImportsPass setup.imports → length past < most_entries → UidsOnce (world setup past).store.rows
uids_once setup past pass short a b uid a_there b_there a_its b_its = one_uid_one_key setup past pass short a b uid (stood setup past a a_there) (stood setup past b b_there) a_its b_its

module _ (rows : List Object) (order : AreRows rows) (once : UidsOnce rows) where
  -- the two objects are one
  one_row : (k : Key) (a b : Object) (uid : Uid) → row_at k rows ≡ Some a → row_at (key_of b) rows ≡ Some b → (meta_of a).uid ≡ Some uid → (meta_of b).uid ≡ Some uid
      → Some b ≡ Some a
  one_row k a b uid there b_there a_its b_its =
      let at : key_of a ≡ k = row_at_key k a rows there in
      sym b_there ∙ ap (λ j. row_at j rows) (once b a uid b_there (ap (λ j. row_at j rows) at ∙ there) b_its a_its ∙ at) ∙ there

  pub claim_is : (k : Key) (c : ClaimData) (u : Uid) → row_at k rows ≡ Some (Claim c) → c.meta.uid ≡ Some u → claim_with u rows ≡ Some c
  claim_is k c u there its =
      let d = has_claim u rows c (found_stands k (Claim c) rows there) (ap (λ y. is_uid y u) its ∙ uid_test u) in
      let f = found_claim u rows d.0 d.1 in
      d.1 ∙ ap (λ x. Some x) (some_claim d.0 c (one_row k (Claim c) (Claim d.0) u there (member_stands (Claim d.0) rows order f.0) its f.1))

  pub volume_is : (k : Key) (v : VolumeData) (u : Uid) → row_at k rows ≡ Some (Volume v) → v.meta.uid ≡ Some u → volume_with u rows ≡ Some v
  volume_is k v u there its =
      let d = has_volume u rows v (found_stands k (Volume v) rows there) (ap (λ y. is_uid y u) its ∙ uid_test u) in
      let f = found_volume u rows d.0 d.1 in
      d.1 ∙ ap (λ x. Some x) (some_volume d.0 v (one_row k (Volume v) (Volume d.0) u there (member_stands (Volume d.0) rows order f.0) its f.1))

-- a claim that is found by its name stands under the key of that name
pub row_named : (rows : List Object) (namespace name : List ℕ) (c : ClaimData) → claim_named rows namespace name ≡ Some c → row_at (claim_key namespace name) rows ≡ Some (Claim c)
row_named rows namespace name c e = by (row_at (claim_key namespace name) rows) e
  where
    by : (x : Option Object) → claim_in x ≡ Some c → x ≡ Some (Claim c)
    by (Some (Claim d)) e = ap (λ y. Some (Claim y)) (one d c e)
    by None e = none_some e
    by (Some (Class x)) e = none_some e
    by (Some (Node x)) e = none_some e
    by (Some (Volume x)) e = none_some e
    by (Some (Pod x)) e = none_some e

-- ---- a claim's own volume

pub own_is : (rows : List Object) (c : ClaimData) (v : VolumeData) → row_at (volume_key c.volume_name) rows ≡ Some (Volume v) → carries v c ≡ true → own_volume rows c ≡ Some v
own_is rows c v there carrying = ap (own_in c) there ∙ by (carries v c) carrying
  where
    by : (b : Bool) → b ≡ true → (if b then Some v else None) ≡ Some v
    by true e = refl
    by false e = absurd (true≢false (sym e))

-- where there is one, it stands under the name and carries the claim
abbrev IsOwn : List Object → ClaimData → VolumeData → Type 0
IsOwn rows c v = (row_at (volume_key c.volume_name) rows ≡ Some (Volume v)) × (carries v c ≡ true)

pub own_stands : (rows : List Object) (c : ClaimData) (v : VolumeData) → own_volume rows c ≡ Some v → IsOwn rows c v
own_stands rows c v e = by (row_at (volume_key c.volume_name) rows) refl e
  where
    by : (x : Option Object) → row_at (volume_key c.volume_name) rows ≡ x → own_in c x ≡ Some v → IsOwn rows c v
    by None there e = none_some e
    by (Some (Class x)) there e = none_some e
    by (Some (Node x)) there e = none_some e
    by (Some (Claim x)) there e = none_some e
    by (Some (Pod x)) there e = none_some e
    by (Some (Volume x)) there e = carried (carries x c) refl e
      where
        carried : (b : Bool) → carries x c ≡ b → (if b then Some x else None) ≡ Some v → IsOwn rows c v
        carried true t e = let same = one x v e in (there ∙ ap (λ y. Some (Volume y)) same, ap (λ y. carries y c) (sym same) ∙ t)
        carried false t e = none_some e
