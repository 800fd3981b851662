-- The first world: imports that pass make a world in which the invariant holds, nothing is mounted and each claim is guarded.
use Rattle.std.proofs.Common.{sym, refl, subst, inl, inr, ap, ◌∙◌, true≢false, arith}
use Rattle.std.proofs.lemmas.Bool.{and_parts, or_parts, not-false, le-leb, lt-ltb}
use Rattle.std.proofs.lemmas.Slice.Eq.{bytes_eq-Decides}
use Rattle.std.specs.Prelude.{if◌then◌else◌, ℕ, ◌≡◌, ◌<◌, ◌≤◌, nat_lt, nat_le, Bool, true, false, not, ◌&&◌, ◌||◌, List, [], ◌∷◌, Option, Some, bytes_eq, is_some}
use Rattle.std.specs.List.{list_any}
use Rattle.kube_parts.specs.declared.uid.Uid.{Uid}
use Rattle.kube_objects.specs.declared.key.Key.{Key}
use Rattle.kube_parts.specs.declared.parts.Kind.TheVariants as kinds
use Rattle.kube_objects.specs.declared.objects.Ref.{Ref}
use Rattle.kube_objects.specs.declared.objects.Volume.{Volume as VolumeData}
use Rattle.kube_objects.specs.declared.objects.Claim.{Claim as ClaimData}
use Rattle.kube_objects.specs.declared.objects.Object.{Object}
use Rattle.kube_objects.specs.declared.objects.Object.TheVariants.{Class, Node, Volume, Claim, Pod}
use Rattle.kube_objects.specs.Keys.{meta_of, key_of, kind_index, row_at, put_row}
use Rattle.kube_parts.specs.Uids.{uid_of_serial}
use Rattle.kube_objects.specs.Bindings.{pv_protection, pvc_protection, is_empty, is_bound, is_ended, is_completed, is_protected_volume, is_protected_claim, carries, names_claim, ref_uid}
use Rattle.kube_objects.proofs.KeyOrder.{row_at-put_row, row_at-put_row_other}
use Rattle.call_types.specs.declared.setup.Setup.{Setup}
use Rattle.binder_model.specs.Imports.{
  most_serials,
  serial_or_zero,
  binds_claim,
  is_imported_as_lost,
  imported_phase,
  imported_meta,
  imported_object,
  is_dropped,
  rows_of_imports,
  shares_uid,
  names_another,
  refers_to_another,
  is_ended_for,
  ImportsPass,
}
use Rattle.binder_model.specs.Store.{with_finalizer}
use Rattle.binder_model.specs.World.{world, base}
use Rattle.binder_model.specs.Safe.{is_lost_import, was_imported_as_lost}
use Rattle.kube_objects.proofs.SameKeys.{key_tells}
use Rattle.model_laws.proofs.Histories.{import_rows_rise}
use Rattle.safety_law.specs.Invariant.Writes.{IsIn}
use Rattle.safety_law.proofs.Invariant.Objects.{same_volume, same_claim}
use Rattle.safety_law.proofs.Invariant.Tests.{same_text}
use Rattle.safety_law.specs.Invariant.Was.{IsPlaced, Refers, WasBound, IsFinal, IsAway}
use Rattle.safety_law.specs.Invariant.Invariant.{Invariant, IsOld, IsLater, IsReferred}
use Rattle.safety_law.proofs.Invariant.Came.{itself, row_stands}
use Rattle.safety_law.proofs.Invariant.KeptBindings.{by_name, carries_on}
use Rattle.safety_law.proofs.Law.Allowed.{volume_placed, has_given}
use Rattle.safety_law.specs.Law.Law.{IsGoodStart}
use Rattle.safety_law.proofs.Law.Passing.{none_of, IsSound, each_sound, two_sound, shares_same}
use Rattle.model_laws.specs.Stood.{Stands}
use Rattle.model_laws.proofs.Imported.{ComesFrom, import_row, from_uid, below_base, pass_base}

-- what is made of an import

imported_key : (imports : List Object) (o : Object) → key_of (imported_object imports o) ≡ key_of o
unfolding imported_object
imported_key imports (Class x) = refl
imported_key imports (Node x) = refl
imported_key imports (Volume x) = refl
imported_key imports (Claim x) = refl
imported_key imports (Pod x) = refl

abbrev imported_volume : VolumeData → VolumeData
imported_volume v = record v { meta = record (imported_meta v.meta) { finalizers = with_finalizer pv_protection v.meta.finalizers } }

abbrev imported_claim : List Object → ClaimData → ClaimData
imported_claim imports c = record c { meta = record (imported_meta c.meta) { finalizers = with_finalizer pvc_protection c.meta.finalizers }; phase = imported_phase imports c }

-- what stands was imported

pub record IsVolumeImport (imports : List Object) (v : VolumeData) : Type 0 where
  origin : VolumeData
  among : IsIn (Volume origin) imports
  is : v ≡ imported_volume origin

pub record IsClaimImport (imports : List Object) (c : ClaimData) : Type 0 where
  origin : ClaimData
  among : IsIn (Claim origin) imports
  is : c ≡ imported_claim imports origin

pub other_kind : {G : Type 0} (a b : Object) → a ≡ b → (kind_index (key_of a).kind ≡ kind_index (key_of b).kind → ⊥) → G
other_kind a b e no_kind = absurd (no_kind (ap (λ o. kind_index (key_of o).kind) e))

pub volume_import : (imports : List Object) (v : VolumeData) → ComesFrom imports imports (Volume v) → IsVolumeImport imports v
unfolding imported_object
volume_import imports v i = by i.import i.given i.is
  where
    by : (o : Object) → IsIn o imports → Volume v ≡ imported_object imports o → IsVolumeImport imports v
    by (Volume a) h e = record { origin = a; among = h; is = same_volume v (imported_volume a) e }
    by (Class a) h e = other_kind (Volume v) (imported_object imports (Class a)) e (λ k. omega (arith, k))
    by (Node a) h e = other_kind (Volume v) (imported_object imports (Node a)) e (λ k. omega (arith, k))
    by (Claim a) h e = other_kind (Volume v) (imported_object imports (Claim a)) e (λ k. omega (arith, k))
    by (Pod a) h e = other_kind (Volume v) (imported_object imports (Pod a)) e (λ k. omega (arith, k))

pub claim_import : (imports : List Object) (c : ClaimData) → ComesFrom imports imports (Claim c) → IsClaimImport imports c
unfolding imported_object
claim_import imports c i = by i.import i.given i.is
  where
    by : (o : Object) → IsIn o imports → Claim c ≡ imported_object imports o → IsClaimImport imports c
    by (Claim a) h e = record { origin = a; among = h; is = same_claim c (imported_claim imports a) e }
    by (Class a) h e = other_kind (Claim c) (imported_object imports (Class a)) e (λ k. omega (arith, k))
    by (Node a) h e = other_kind (Claim c) (imported_object imports (Node a)) e (λ k. omega (arith, k))
    by (Volume a) h e = other_kind (Claim c) (imported_object imports (Volume a)) e (λ k. omega (arith, k))
    by (Pod a) h e = other_kind (Claim c) (imported_object imports (Pod a)) e (λ k. omega (arith, k))

-- and what was imported, and not dropped, stands
rows_stand : (imports os : List Object) → ((a b : Object) → IsIn a os → IsIn b os → key_of a ≡ key_of b → a ≡ b)
    → (o : Object) → IsIn o os → is_dropped o ≡ false → row_at (key_of o) (rows_of_imports imports os) ≡ Some (imported_object imports o)
rows_stand imports [] apart o h stays = absurd h
rows_stand imports (x ∷ os) apart o h stays = by (is_dropped x) refl (λ m. rows_stand imports os (λ a b p q. apart a b (inr p) (inr q)) o m stays) h
  where
    by : (b : Bool) → is_dropped x ≡ b → (IsIn o os → row_at (key_of o) (rows_of_imports imports os) ≡ Some (imported_object imports o)) → IsIn o (x ∷ os)
        → row_at (key_of o) (if b then rows_of_imports imports os else put_row (imported_object imports x) (rows_of_imports imports os)) ≡ Some (imported_object imports o)
    by true dropped f (inl is) = absurd (true≢false (sym dropped ∙ ap is_dropped is ∙ stays))
    by true dropped f (inr more) = f more
    by false dropped f m =
        let rows = put_row (imported_object imports x) (rows_of_imports imports os) in
        elim (key_tells (key_of x) (key_of o)) [
          | inl same ↦
              let e : x ≡ o = apart x o (inl refl) m same in
              ap (λ k. row_at k rows) (sym same ∙ sym (imported_key imports x)) ∙ row_at-put_row (imported_object imports x) (rows_of_imports imports os) ∙ ap (λ z. Some (imported_object imports z)) e
          | inr other ↦
              let rest : IsIn o os = elim m [ inl is ↦ absurd (other (ap key_of is)) | inr more ↦ more ] in
              row_at-put_row_other (key_of o) (imported_object imports x) (rows_of_imports imports os) (λ e. other (sym (imported_key imports x) ∙ e)) ∙ f rest
        ]

-- numbers: no version and no serial that was imported is above the base

serial_back : (n : ℕ) → n < most_serials → serial_or_zero (Some (uid_of_serial n)) ≡ n
serial_back n below =
    let from : nat_le (uid_of_serial 0).0 (uid_of_serial n).0 ≡ true = le-leb _ _ (omega arith) in
    let to : nat_lt (uid_of_serial n).0 (uid_of_serial most_serials).0 ≡ true = lt-ltb _ _ (omega (arith, below)) in
    rw (from, to) (omega arith)

-- a UID with a serial that is not above the version is not given later
serial_old : (version : ℕ) (uid : Option Uid) → serial_or_zero uid ≤ version → IsOld version uid
serial_old version uid low n above below is =
    let serial : serial_or_zero uid ≡ n = ap serial_or_zero is ∙ serial_back n below in
    omega (arith, low, above, serial)

-- the invariant, part by part

some_of : (f : Object → Bool) (xs : List Object) → list_any f xs ≡ true → (a : Object) × (IsIn a xs × (f a ≡ true))
some_of f [] e = absurd (true≢false (sym e))
some_of f (x ∷ xs) e = by (f x) refl e (some_of f xs)
  where
    by : (b : Bool) → f x ≡ b → (b || list_any f xs) ≡ true → (list_any f xs ≡ true → (a : Object) × (IsIn a xs × (f a ≡ true)))
        → (a : Object) × (IsIn a (x ∷ xs) × (f a ≡ true))
    by true t e more = (x, (inl refl, t))
    by false t e more = let r = more e in (r.0, (inr r.1.0, r.1.1))

and_false : (a b : Bool) → (a && b) ≡ false → a ≡ true → b ≡ false
and_false true b e t = e
and_false false b e t = absurd (true≢false (sym t))

module _ (setup : Setup) (pass : ImportsPass setup.imports) where
  stands_import : (o : Object) → Stands (world setup []) o → ComesFrom setup.imports setup.imports o
  stands_import o is = import_row setup.imports setup.imports (key_of o) o is

  row_import : (k : Key) (o : Object) → row_at k (world setup []).store.rows ≡ Some o → ComesFrom setup.imports setup.imports o
  row_import k o is = import_row setup.imports setup.imports k o is

  origin_sound : {o : Object} → (i : ComesFrom setup.imports setup.imports o) → IsSound i.import
  origin_sound i = each_sound setup.imports pass i.import i.given

  uid_from : {o : Object} → (i : ComesFrom setup.imports setup.imports o) → (meta_of o).uid ≡ (meta_of i.import).uid
  uid_from {o = o} i = from_uid setup.imports setup.imports o i

  -- two that stand and have one UID are one
  one_stands : (a b : Object) → ComesFrom setup.imports setup.imports a → ComesFrom setup.imports setup.imports b → (meta_of a).uid ≡ (meta_of b).uid → a ≡ b
  one_stands a b i j same =
      let one : i.import ≡ j.import = (two_sound setup.imports pass i.import j.import i.given j.given).uid (sym (uid_from i) ∙ same ∙ uid_from j) in
      i.is ∙ ap (imported_object setup.imports) one ∙ sym j.is

  first_placed : (v : VolumeData) → Stands (world setup []) (Volume v) → IsPlaced (key_of (Volume v))
  first_placed v was =
      let i = volume_import setup.imports v (stands_import (Volume v) was) in
      let p = volume_placed false i.origin (each_sound setup.imports pass (Volume i.origin) i.among).fields in
      subst (λ (x : VolumeData). IsPlaced (key_of (Volume x))) (sym i.is) (record { global = p.global; titled = p.titled })

  -- the reference of an imported volume, and an imported claim that has its UID
  first_named : (a : VolumeData) (c : ClaimData) (r : Ref) (uid : Uid) → IsIn (Volume a) setup.imports → IsIn (Claim c) setup.imports
      → a.claim_ref ≡ Some r → r.uid ≡ Some uid → c.meta.uid ≡ Some uid → names_claim r c ≡ true
  first_named a c r uid in_a in_c is known its =
      let none : refers_to_another (Volume a) (Claim c) ≡ false = (two_sound setup.imports pass (Volume a) (Claim c) in_a in_c).refers in
      let test : (shares_uid r.uid c.meta.uid && not (names_claim r c)) ≡ false = subst (λ (x : Option Ref). names_another x (Claim c) ≡ false) is none in
      not-false _ (and_false _ _ test (shares_same r.uid c.meta.uid (ap is_some known) (its ∙ sym known)))

  first_refers : (v : VolumeData) (r : Ref) (uid : Uid) → Stands (world setup []) (Volume v) → Refers v r uid → IsReferred setup [] r uid
  first_refers v r uid was h =
      let i = volume_import setup.imports v (stands_import (Volume v) was) in
      let is : i.origin.claim_ref ≡ Some r = ap (λ (x : VolumeData). x.claim_ref) (sym i.is) ∙ h.is in
      let same : serial_or_zero (ref_uid i.origin.claim_ref) ≡ serial_or_zero (Some uid) = ap serial_or_zero (ap ref_uid is ∙ h.known) in
      let low = below_base setup.imports (Volume i.origin) i.among in
      record {
        old = serial_old (base setup) (Some uid) (omega (arith, low, same));
        named = λ c there its.
            let j = claim_import setup.imports c (stands_import (Claim c) there) in
            let names = and_parts (bytes_eq r.namespace j.origin.meta.namespace) (bytes_eq r.name j.origin.meta.name)
            (first_named i.origin j.origin r uid i.among j.among is h.known (ap (λ (x : ClaimData). x.meta.uid) (sym j.is) ∙ its)) in
            let placed : c.meta.namespace ≡ r.namespace = ap (λ (x : ClaimData). x.meta.namespace) j.is ∙ sym (same_text r.namespace j.origin.meta.namespace names.0) in
            let called : c.meta.name ≡ r.name = ap (λ (x : ClaimData). x.meta.name) j.is ∙ sym (same_text r.name j.origin.meta.name names.1) in
            λ n. record { kind = kinds.PersistentVolumeClaim; namespace = placed n; name = called n };
      }

  first_guarded : (v : VolumeData) → Stands (world setup []) (Volume v) → is_protected_volume v ≡ true
  first_guarded v was =
      let i = volume_import setup.imports v (stands_import (Volume v) was) in
      ap (λ (x : VolumeData). is_protected_volume x) i.is ∙ has_given pv_protection i.origin.meta.finalizers

  claim_guarded : (c : ClaimData) → Stands (world setup []) (Claim c) → is_protected_claim c ≡ true
  claim_guarded c was =
      let i = claim_import setup.imports c (stands_import (Claim c) was) in
      ap (λ (x : ClaimData). is_protected_claim x) i.is ∙ has_given pvc_protection i.origin.meta.finalizers

  -- the claim of an ended volume names another one
  first_away : (v : VolumeData) (r : Ref) (uid : Uid) → Stands (world setup []) (Volume v) → is_ended v.phase ≡ true → Refers v r uid
      → IsAway (world setup []) uid v.meta.name
  first_away v r uid was ended h k c there its =
      let i = volume_import setup.imports v (stands_import (Volume v) was) in
      let j = claim_import setup.imports c (row_import k (Claim c) there) in
      let e1 : is_ended i.origin.phase ≡ true = ap (λ (x : VolumeData). is_ended x.phase) (sym i.is) ∙ ended in
      let known : ref_uid i.origin.claim_ref ≡ Some uid = ap (λ (x : VolumeData). ref_uid x.claim_ref) (sym i.is) ∙ ap ref_uid h.is ∙ h.known in
      let its_origin : j.origin.meta.uid ≡ Some uid = ap (λ (x : ClaimData). x.meta.uid) (sym j.is) ∙ its in
      let e2 : shares_uid (ref_uid i.origin.claim_ref) j.origin.meta.uid ≡ true = shares_same _ _ (ap is_some known) (its_origin ∙ sym known) in
      let none : is_ended_for (Volume i.origin) (Claim j.origin) ≡ false = (two_sound setup.imports pass (Volume i.origin) (Claim j.origin) i.among j.among).ended in
      let both_true : (is_ended i.origin.phase && shares_uid (ref_uid i.origin.claim_ref) j.origin.meta.uid) ≡ true = rw (e1, e2) refl in
      let last = or_parts (is_empty j.origin.volume_name) (bytes_eq j.origin.volume_name i.origin.meta.name) (and_false _ _ none both_true) in
      let name_c : c.volume_name ≡ j.origin.volume_name = ap (λ (x : ClaimData). x.volume_name) j.is in
      let name_v : v.meta.name ≡ i.origin.meta.name = ap (λ (x : VolumeData). x.meta.name) i.is in
      record {
        named = λ e. true≢false (sym (ap is_empty (sym name_c ∙ e)) ∙ last.0);
        other = λ e. true≢false (sym ((bytes_eq-Decides j.origin.volume_name i.origin.meta.name).1 (sym name_c ∙ e ∙ name_v)) ∙ last.1);
      }

  -- a completed claim that was not imported as Lost is bound
  bound_by : (c : ClaimData) (origin : ClaimData) → c ≡ imported_claim setup.imports origin → (o : Object) → IsIn o setup.imports
      → binds_claim origin o ≡ true → WasBound setup [] c
  unfolding imported_object
  bound_by c origin is (Volume a) h e =
      let t = and_parts (bytes_eq a.meta.name origin.volume_name && carries a origin) (is_bound a.phase) e in
      let s = and_parts (bytes_eq a.meta.name origin.volume_name) (carries a origin) t.0 in
      let there = rows_stand setup.imports setup.imports (λ x y in_x in_y. (two_sound setup.imports pass x y in_x in_y).key) (Volume a) h refl in
      volume_stands there s.0 s.1 t.1
    where
      volume_stands : row_at (key_of (Volume a)) (rows_of_imports setup.imports setup.imports) ≡ Some (imported_object setup.imports (Volume a))
          → bytes_eq a.meta.name origin.volume_name ≡ true → carries a origin ≡ true → is_bound a.phase ≡ true → WasBound setup [] c
      volume_stands there names carrying bound = record {
        volume = imported_volume a;
        was = there;
        bound = bound;
        carries = carries_on (imported_volume a) origin c (ap (λ (x : ClaimData). key_of (Claim x)) is) (ap (λ (x : ClaimData). x.meta.uid) is) ∙ carrying;
        names = ap (λ (x : ClaimData). x.volume_name) is ∙ sym (same_text a.meta.name origin.volume_name names);
      }
  bound_by c origin is (Class a) h e = absurd (true≢false (sym e))
  bound_by c origin is (Node a) h e = absurd (true≢false (sym e))
  bound_by c origin is (Claim a) h e = absurd (true≢false (sym e))
  bound_by c origin is (Pod a) h e = absurd (true≢false (sym e))

  first_completed : (c : ClaimData) → Stands (world setup []) (Claim c) → is_completed c ≡ true → was_imported_as_lost setup c.meta.uid ≡ false → WasBound setup [] c
  first_completed c was done found =
      let i = claim_import setup.imports c (stands_import (Claim c) was) in
      let uid : c.meta.uid ≡ i.origin.meta.uid = ap (λ (x : ClaimData). x.meta.uid) i.is in
      let none : (shares_uid i.origin.meta.uid c.meta.uid && is_imported_as_lost setup.imports i.origin) ≡ false =
      none_of (is_lost_import setup.imports c.meta.uid) setup.imports (Claim i.origin) i.among found in
      let not_lost = and_false _ _ none (shares_same i.origin.meta.uid c.meta.uid (each_sound setup.imports pass (Claim i.origin) i.among).uid uid) in
      let completed : is_completed i.origin ≡ true = ap (λ (x : ClaimData). is_completed x) (sym i.is) ∙ done in
      let some = some_of (binds_claim i.origin) setup.imports (not-false _ (and_false _ _ not_lost completed)) in
      bound_by c i.origin i.is some.0 some.1.0 some.1.1

  first_invariant : Invariant setup []
  first_invariant = record {
    order = import_rows_rise setup.imports setup.imports;
    has = λ o was. let i = stands_import o was in ap is_some (uid_from i) ∙ (origin_sound i).uid;
    keyed = λ a b was_a was_b same. ap key_of (one_stands a b (stands_import a was_a) (stands_import b was_b) same);
    later = λ a k b was there same. subst (IsLater a) (one_stands a b (stands_import a was) (row_import k b there) (sym same)) (itself a);
    placed = first_placed;
    refers = first_refers;
    guarded = λ k v there bound. first_guarded v (row_stands (world setup []) k (Volume v) there);
    binding = λ v r uid k c was bound h there its most. record {
      volume = v;
      there = ap (λ j. row_at j (world setup []).store.rows) (sym (by_name v (first_placed v was))) ∙ was;
      bound = bound;
      refers = h.is;
    };
    completed = λ k c there done found. first_completed c (row_stands (world setup []) k (Claim c) there) done found;
    released = λ k v r uid there ended h. first_away v r uid (row_stands (world setup []) k (Volume v) there) ended h;
    lasts = λ v r uid k x was h final there same.
        subst (IsFinal r) (same_volume v x (one_stands (Volume v) (Volume x) (stands_import (Volume v) was) (row_import k (Volume x) there) (sym same))) final;
  }

-- imports that pass make a good start
pub first_world_is_good : (setup : Setup) → ImportsPass setup.imports → IsGoodStart setup
first_world_is_good setup pass = record {
  low = pass_base [] setup.imports pass;
  invariant = first_invariant setup pass;
  mountless = λ m h. absurd h;
  loose = λ k c u there none known. absurd (true≢false (sym (claim_guarded setup pass c (row_stands (world setup []) k (Claim c) there)) ∙ none));
}
