-- What a user may make of an object, as a step, and of no object, as a start.
use Rattle.std.proofs.Common.{sym, refl, inl, ap, ◌∙◌, true≢false, arith}
use Rattle.std.proofs.lemmas.Bool.Decides.{nat_tests}
use Rattle.std.specs.Prelude.{ℕ, ◌≡◌, Bool, true, false, not, ◌&&◌, ◌||◌, List, Option, Some, None, is_some, is_none, bytes_eq}
use mathlib.Core.Bool.{xor}
use Rattle.plain_data.specs.Pairs.{value_at}
use Rattle.kube_parts.specs.declared.uid.Uid.{Uid}
use Rattle.kube_parts.specs.declared.names.Rule.{Rule}
use Rattle.kube_parts.specs.declared.parts.VolumePhase.{VolumePhase}
use Rattle.kube_parts.specs.declared.parts.VolumePhase.TheVariants as volumes
use Rattle.kube_objects.specs.declared.objects.Ref.{Ref}
use Rattle.kube_objects.specs.declared.objects.Volume.{Volume as VolumeData}
use Rattle.kube_objects.specs.declared.objects.Object.{Object}
use Rattle.kube_objects.specs.declared.objects.Object.TheVariants.{Volume}
use Rattle.kube_objects.specs.Bindings.{bind_completed, is_bound, is_delete, is_protected_volume, has_name, pv_protection, pvc_protection}
use Rattle.kube_objects.specs.Keys.{meta_of}
use Rattle.call_types.specs.declared.entry.Entry.{Entry}
use Rattle.call_types.specs.declared.setup.Setup.{Setup}
use Rattle.call_types.specs.declared.request.SeatKind.TheVariants.{User}
use Rattle.binder_model.specs.Same.{same_option, same_ref, same_uid}
use Rattle.binder_model.specs.Guard.{guard, breaks, breaks_annotation, breaks_finalizer, breaks_reference, breaks_policy, clears_released, is_in_phase_released, has_uid, annotations_before}
use Rattle.binder_model.specs.Answers.{guard_on}
use Rattle.safety_law.proofs.Invariant.Tests.{same_text}
use Rattle.safety_law.specs.Invariant.Was.{Refers, VolumeStep}
use Rattle.safety_law.proofs.Law.Rows.{stored_volume, IsSafe, not_both}
use Rattle.std.proofs.lemmas.Bool.{and_parts, or_parts, not-true, not-false}

breaks_none : (b : Bool) (r : Rule) (next : Option Rule) → breaks b r next ≡ None → (b ≡ false) × (next ≡ None)
unfolding breaks
breaks_none true r next e = absurd (true≢false (ap is_some e))
breaks_none false r next e = (refl, e)

-- the four tests of the guard
pub record Passes (old : Option Object) (new : Object) : Type 0 where
  pub annotation : breaks_annotation old new ≡ false
  pub finalizer : breaks_finalizer old new ≡ false
  pub reference : breaks_reference old new ≡ false
  pub policy : breaks_policy old new ≡ false

pub passes : (old : Option Object) (new : Object) → guard_on User old new ≡ None → Passes old new
unfolding guard_on guard
passes old new e =
    let a = breaks_none _ _ _ e in
    let f = breaks_none _ _ _ a.1 in
    let r = breaks_none _ _ _ f.1 in
    let p = breaks_none _ _ _ r.1 in
    record { annotation = a.0; finalizer = f.0; reference = r.0; policy = p.0 }

-- tests

xor_false : (a b : Bool) → (xor a b && true) ≡ false → a ≡ b
unfolding xor
xor_false true true e = refl
xor_false true false e = absurd (true≢false e)
xor_false false true e = absurd (true≢false e)
xor_false false false e = refl

-- what the tests of options tell

pub same_texts : (a b : Option (List ℕ)) → same_option bytes_eq a b ≡ true → a ≡ b
same_texts None None e = refl
same_texts None (Some b) e = absurd (true≢false (sym e))
same_texts (Some a) None e = absurd (true≢false (sym e))
same_texts (Some a) (Some b) e = ap (λ (x : List ℕ). Some x) (same_text a b e)

same_uids : (a b : Option Uid) → same_option same_uid a b ≡ true → a ≡ b
same_uids None None e = refl
same_uids None (Some b) e = absurd (true≢false (sym e))
same_uids (Some a) None e = absurd (true≢false (sym e))
same_uids (Some a) (Some b) e = let n : a.0 ≡ b.0 = grind (arith, nat_tests) in ap (λ (k : ℕ). Some (record { 0 = k })) n

pub same_refs : (a b : Option Ref) → same_option same_ref a b ≡ true → a ≡ b
same_refs None None e = refl
same_refs None (Some b) e = absurd (true≢false (sym e))
same_refs (Some a) None e = absurd (true≢false (sym e))
same_refs (Some a) (Some b) e =
    let t = and_parts (bytes_eq a.namespace b.namespace && bytes_eq a.name b.name) (same_option same_uid a.uid b.uid) e in
    let s = and_parts (bytes_eq a.namespace b.namespace) (bytes_eq a.name b.name) t.0 in
    let n = same_text a.namespace b.namespace s.0 in
    let m = same_text a.name b.name s.1 in
    let u = same_uids a.uid b.uid t.1 in
    λ i. Some (record { namespace = n i; name = m i; uid = u i })

-- the annotation that marks completion stays
pub completion_same : (old : Option Object) (new : Object) → Passes old new
    → value_at bind_completed (annotations_before old) ≡ value_at bind_completed (meta_of new).annotations
completion_same old new p = same_texts _ _ (not-false _ (or_parts _ _ (or_parts _ _ p.annotation).0).0)

-- and so does the finalizer of volumes
guards_same : (old : Object) (new : Object) → Passes (Some old) new → has_name pv_protection (meta_of old).finalizers ≡ has_name pv_protection (meta_of new).finalizers
guards_same old new p = xor_false _ _ (or_parts _ _ p.finalizer).0

pub claim_guards_same : (old : Object) (new : Object) → Passes (Some old) new
    → has_name pvc_protection (meta_of old).finalizers ≡ has_name pvc_protection (meta_of new).finalizers
claim_guards_same old new p = xor_false _ _ (or_parts _ _ p.finalizer).1

-- a reference that is not broken is the same, or has no UID before and after, or is that of a Released volume, cleared
pub data Reference (old : Option Ref) (new : Option Ref) (clears : Bool) : Type 0 where
  Same : old ≡ new → Reference old new clears
  Free : has_uid old ≡ false → has_uid new ≡ false → Reference old new clears
  Cleared : clears ≡ true → Reference old new clears

reference_of : (a b : Option Ref) (c : Bool) → (not (same_option same_ref a b) && (has_uid a || has_uid b) && not c) ≡ false → Reference a b c
reference_of a b c e = by (same_option same_ref a b) (has_uid a || has_uid b) c refl refl e
  where
    by : (s u d : Bool) → same_option same_ref a b ≡ s → (has_uid a || has_uid b) ≡ u → (not s && u && not d) ≡ false → Reference a b d
    by true u d is uids e = Same (same_refs a b is)
    by false false d is uids e = let f = or_parts (has_uid a) (has_uid b) uids in Free f.0 f.1
    by false true true is uids e = Cleared refl
    by false true false is uids e = absurd (true≢false e)

not_free : {G : Type 0} (x : Option Ref) (r : Ref) (uid : Uid) → has_uid x ≡ false → x ≡ Some r → r.uid ≡ Some uid → G
not_free x r uid free is known = absurd (true≢false (sym (ap has_uid is ∙ ap is_some known) ∙ free))

phase_released : (p : VolumePhase) → is_in_phase_released p ≡ true → is_bound p ≡ false
phase_released volumes.Released e = refl
phase_released volumes.Pending e = refl
phase_released volumes.Available e = refl
phase_released volumes.Bound e = absurd (true≢false (sym e))
phase_released volumes.Failed e = refl

-- what is cleared was Released, without policy Delete, and has no reference now
record IsCleared (old new : VolumeData) : Type 0 where
  phase : is_in_phase_released old.phase ≡ true
  policy : is_delete old.policy ≡ false
  none : new.claim_ref ≡ None

is_none_none : (x : Option Ref) → is_none x ≡ true → x ≡ None
is_none_none None e = refl
is_none_none (Some r) e = absurd (true≢false (sym e))

cleared : (old new : VolumeData) → clears_released (Some (Volume old)) (Volume new) ≡ true → IsCleared old new
cleared old new e =
    let t = and_parts (is_in_phase_released old.phase && not (is_delete old.policy) && is_some old.claim_ref) (is_none new.claim_ref) e in
    let r = and_parts (is_in_phase_released old.phase && not (is_delete old.policy)) (is_some old.claim_ref) t.0 in
    let s = and_parts (is_in_phase_released old.phase) (not (is_delete old.policy)) r.0 in
    record { phase = s.0; policy = not-true _ s.1; none = is_none_none new.claim_ref t.1 }

user_refers : (o new : VolumeData) (r : Ref) (uid : Uid) → Reference o.claim_ref new.claim_ref (clears_released (Some (Volume o)) (Volume new))
    → Refers new r uid → Refers o r uid
user_refers o new r uid (Same e) h = record { is = e ∙ h.is; known = h.known }
user_refers o new r uid (Free before after) h = not_free new.claim_ref r uid after h.is h.known
user_refers o new r uid (Cleared e) h = absurd (true≢false (sym (ap is_some (sym (cleared o new e).none ∙ h.is))))

user_keeps : (o new : VolumeData) (r : Ref) (uid : Uid) → Reference o.claim_ref new.claim_ref (clears_released (Some (Volume o)) (Volume new))
    → is_bound o.phase ≡ true → Refers o r uid → Refers new r uid
user_keeps o new r uid (Same e) bound h = record { is = sym e ∙ h.is; known = h.known }
user_keeps o new r uid (Free before after) bound h = not_free o.claim_ref r uid before h.is h.known
user_keeps o new r uid (Cleared e) bound h = not_both (is_bound o.phase) bound (phase_released o.phase (cleared o new e).phase)

user_lasts : (o new : VolumeData) (r : Ref) (uid : Uid) → Reference o.claim_ref new.claim_ref (clears_released (Some (Volume o)) (Volume new))
    → is_delete o.policy ≡ true → Refers o r uid → new.claim_ref ≡ Some r
user_lasts o new r uid (Same e) policy h = sym e ∙ h.is
user_lasts o new r uid (Free before after) policy h = not_free o.claim_ref r uid before h.is h.known
user_lasts o new r uid (Cleared e) policy h = not_both (is_delete o.policy) policy (cleared o new e).policy

policy_stays : (a b c : Bool) → (a && b && not c) ≡ false → a ≡ true → b ≡ true → c ≡ true
policy_stays true true true e x y = refl
policy_stays true true false e x y = absurd (true≢false e)
policy_stays true false c e x y = absurd (true≢false (sym y))
policy_stays false b c e x y = absurd (true≢false (sym x))

pub user_step : (setup : Setup) (past : List Entry) (o new : VolumeData) (n : ℕ) → IsSafe o → Passes (Some (Volume o)) (Volume new)
    → VolumeStep setup past o (stored_volume o new n)
user_step setup past o new n safe p =
    let ref = reference_of o.claim_ref new.claim_ref (clears_released (Some (Volume o)) (Volume new)) p.reference in
    let guards : is_protected_volume o ≡ is_protected_volume new = guards_same (Volume o) (Volume new) p in
    record {
      refers = λ r uid h. inl (user_refers o new r uid ref (record { is = h.is; known = h.known }));
      keeps = λ r uid bound h. let k = user_keeps o new r uid ref bound h in inl (bound, record { is = k.is; known = k.known });
      guarded = λ bound. sym guards ∙ safe bound;
      stays = λ bound. sym guards ∙ safe bound;
      released = λ r uid ended h. inl (ended, user_refers o new r uid ref (record { is = h.is; known = h.known }));
      lasts = λ r uid h ended policy. record { released = ended; policy = policy_stays _ _ (is_delete new.policy) p.policy ended policy; refers = user_lasts o new r uid ref policy h };
    }

-- a user creates no reference with a UID
pub no_uid_given : {G : Type 0} (new : VolumeData) (r : Ref) (uid : Uid) → Passes None (Volume new) → Refers new r uid → G
no_uid_given new r uid p h = by new.claim_ref h.is p.reference
  where
    by : {G : Type 0} (x : Option Ref) → x ≡ Some r → (not (same_option same_ref None x) && (has_uid None || has_uid x) && not false) ≡ false → G
    by None is e = absurd (true≢false (sym (ap is_some is)))
    by (Some a) is e =
        let known : has_uid (Some a) ≡ true = ap has_uid is ∙ ap is_some h.known in
        let no : (has_uid (Some a) && true) ≡ false = e in
        let no_more : true ≡ false = rw known at no in
        absurd (true≢false no_more)
