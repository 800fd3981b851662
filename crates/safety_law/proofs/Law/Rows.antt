-- What each row of the licence lets a controller make of a volume, as a step.
use Rattle.std.proofs.Common.{sym, refl, subst, inl, inr, ap, ◌∙◌, true≢false}
use Rattle.std.specs.Prelude.{if◌then◌else◌, ℕ, ◌≡◌, ◌⊎◌, Bool, true, false, List, Option, Some, None, is_some, is_none, unwrap_or}
use Rattle.plain_data.specs.Pairs.{without_key}
use Rattle.kube_parts.specs.declared.uid.Uid.{Uid}
use Rattle.kube_parts.specs.declared.parts.VolumePhase.{VolumePhase}
use Rattle.kube_parts.specs.declared.parts.VolumePhase.TheVariants as volumes
use Rattle.kube_objects.specs.declared.objects.Meta.{Meta}
use Rattle.kube_objects.specs.declared.objects.Ref.{Ref}
use Rattle.kube_objects.specs.declared.objects.Volume.{Volume as VolumeData}
use Rattle.kube_objects.specs.declared.objects.Claim.{Claim as ClaimData}
use Rattle.kube_objects.specs.Bindings.{is_ended, is_bound, is_delete, is_protected_volume, has_name, has_key, pv_protection, bound_by_controller, ref_uid}
use Rattle.call_types.specs.declared.entry.Entry.{Entry}
use Rattle.call_types.specs.declared.setup.Setup.{Setup}
use Rattle.binder_model.specs.BindWrites.{taken_for, unbound_volume, ref_to, annotated_meta_if, without_uid}
use Rattle.binder_model.specs.BinderLicence.{MayTake, MayUnbind, MayBind, MayFree, MayRelease, IsTaken, IsFreeFor, WasReadGone}
use Rattle.binder_model.specs.GuardLicence.{MayUnguardVolume, guarded_meta, unguarded_meta}
use Rattle.binder_model.specs.Licence.{GuardsVolume}
use Rattle.binder_model.specs.World.{world}
use Rattle.safety_law.specs.Invariant.Was.{Refers, IsAway, IsNotThere, VolumeStep}
use Rattle.safety_law.specs.Invariant.Invariant.{Invariant}
use Rattle.safety_law.specs.Invariant.Good.{IsTrue}
use Rattle.safety_law.proofs.Invariant.Known.{told_claim, elsewhere}
use Rattle.std.proofs.lemmas.Option.{same_Some}

-- what an update and a status leave in the store
abbrev pub stored_volume : VolumeData → VolumeData → ℕ → VolumeData
stored_volume o new n = record new { phase = o.phase; meta = record new.meta { uid = o.meta.uid; version = n; created = o.meta.created; deleted = o.meta.deleted } }

abbrev pub phased : VolumeData → VolumePhase → ℕ → VolumeData
phased o phase n = record o { phase = phase; meta = record o.meta { version = n } }

abbrev pub IsSafe : VolumeData → Type 0
IsSafe o = is_bound o.phase ≡ true → is_protected_volume o ≡ true

pub not_both : {G : Type 0} (b : Bool) → b ≡ true → b ≡ false → G
not_both b t f = absurd (true≢false (sym t ∙ f))

-- what keeps phase, policy and reference
pub same_step : (setup : Setup) (past : List Entry) (o new : VolumeData) → new.claim_ref ≡ o.claim_ref → new.phase ≡ o.phase → new.policy ≡ o.policy
    → (is_bound o.phase ≡ true → is_protected_volume new ≡ true) → VolumeStep setup past o new
same_step setup past o new refs phases policies safe = record {
  refers = λ r uid h. inl (record { is = sym refs ∙ h.is; known = h.known });
  keeps = λ r uid bound h. inl (ap is_bound phases ∙ bound, record { is = refs ∙ h.is; known = h.known });
  guarded = λ bound. safe (ap is_bound (sym phases) ∙ bound);
  stays = safe;
  released = λ r uid ended h. inl (ap is_ended (sym phases) ∙ ended, record { is = sym refs ∙ h.is; known = h.known });
  lasts = λ r uid h ended policy. record { released = ap is_ended phases ∙ ended; policy = ap is_delete policies ∙ policy; refers = refs ∙ h.is };
}

-- references

uid_one : (v : VolumeData) (a b : Ref) (u w : Uid) → v.claim_ref ≡ Some a → a.uid ≡ Some u → Refers v b w → u ≡ w
uid_one v a b u w is known h =
    let r : a ≡ b = same_Some a b (sym is ∙ h.is) in
    ap (λ x. unwrap_or x u) (sym known ∙ ap (λ x. x.uid) r ∙ h.known)

-- the UID in the reference
pub ref_uid_one : (v : VolumeData) (r : Ref) (u w : Uid) → ref_uid v.claim_ref ≡ Some u → Refers v r w → u ≡ w
ref_uid_one v r u w known h = ap (λ x. unwrap_or x u) (sym known ∙ ap ref_uid h.is ∙ h.known)

pub no_ref_uid : {G : Type 0} (v : VolumeData) (r : Ref) (w : Uid) → ref_uid v.claim_ref ≡ None → Refers v r w → G
no_ref_uid v r w free h = absurd (true≢false (sym (ap is_some (sym free ∙ ap ref_uid h.is ∙ h.known))))

free_of_it : {G : Type 0} (x : Option Ref) (c : ClaimData) (r : Ref) (uid : Uid) → IsFreeFor x c → x ≡ Some r → r.uid ≡ Some uid → G
free_of_it None c r uid free is known = absurd (true≢false (sym (ap is_some is)))
free_of_it (Some a) c r uid free is known = absurd (true≢false (sym (ap is_some (sym free.1 ∙ ap (λ (z : Ref). z.uid) (same_Some a r is) ∙ known))))

-- an annotation leaves the finalizers
pub annotated_guards : (guard : List ℕ) (b : Bool) (name : List ℕ) (m : Meta) → has_name guard (annotated_meta_if b name m).finalizers ≡ has_name guard m.finalizers
annotated_guards guard true name m = refl
annotated_guards guard false name m = refl

-- the row ClaimRef
pub take_step : (setup : Setup) (past mine : List Entry) → IsTrue setup past mine → (o new : VolumeData) (n : ℕ) → IsSafe o → MayTake mine o new
    → VolumeStep setup past o (stored_volume o new n)
unfolding taken_for
take_step setup past mine true_of o new n safe row =
    let t = told_claim setup past mine true_of (IsTaken o new) row.told in
    let c = t.0 in
    let taken : IsTaken o new c = t.2 in
    subst (λ (x : VolumeData). VolumeStep setup past o (stored_volume o x n)) (sym taken.change) record {
      refers = λ r uid h.
          let e : ref_to c ≡ r = same_Some (ref_to c) r h.is in
          inr (record { claim = c; was = t.1; placed = ap (λ (z : Ref). z.namespace) e; named = ap (λ (z : Ref). z.name) e; its = ap (λ (z : Ref). z.uid) e ∙ h.known });
      keeps = λ r uid bound h. free_of_it o.claim_ref c r uid taken.free h.is h.known;
      guarded = λ bound. annotated_guards pv_protection (is_none o.claim_ref) bound_by_controller o.meta ∙ safe bound;
      stays = λ bound. annotated_guards pv_protection (is_none o.claim_ref) bound_by_controller o.meta ∙ safe bound;
      released = λ r uid ended h. not_both (is_ended o.phase) ended row.live;
      lasts = λ r uid h ended policy. not_both (is_ended o.phase) ended row.live;
    }

-- what an unbound volume has
record IsUnbound (o new : VolumeData) : Type 0 where
  phase : new.phase ≡ o.phase
  free : ref_uid new.claim_ref ≡ None
  guards : is_protected_volume new ≡ is_protected_volume o

no_uid : (x : Option Ref) → ref_uid (without_uid x) ≡ None
no_uid None = refl
no_uid (Some r) = refl

is_unbound : (o : VolumeData) → IsUnbound o (unbound_volume o)
unfolding unbound_volume
is_unbound o = by (has_key bound_by_controller o.meta.annotations)
  where
    by : (b : Bool) → IsUnbound o (if b then record o
        { claim_ref = None; meta = record o.meta { annotations = without_key bound_by_controller o.meta.annotations } } else record o { claim_ref = without_uid o.claim_ref })
    by true = record { phase = refl; free = refl; guards = refl }
    by false = record { phase = refl; free = no_uid o.claim_ref; guards = refl }

-- the row Unbind
pub unbind_step : (setup : Setup) (past mine : List Entry) → Invariant setup past → IsTrue setup past mine → (o new : VolumeData) (n : ℕ) → IsSafe o
    → MayUnbind mine o new → VolumeStep setup past o (stored_volume o new n)
unbind_step setup past mine inv true_of o new n safe row =
    let u : IsUnbound o new = subst (IsUnbound o) (sym row.change) (is_unbound o) in record {
      refers = λ r uid h. no_ref_uid new r uid u.free (record { is = h.is; known = h.known });
      keeps = λ r uid bound h. inr (subst (λ (w : Uid). IsAway (world setup past) w o.meta.name) (ref_uid_one o r row.uid uid row.refers h)
          (elsewhere setup past mine inv true_of o.meta.name row.uid row.elsewhere));
      guarded = λ bound. u.guards ∙ safe bound;
      stays = λ bound. u.guards ∙ safe bound;
      released = λ r uid ended h. not_both (is_ended o.phase) ended row.live;
      lasts = λ r uid h ended policy. not_both (is_ended o.phase) ended row.live;
    }

-- the row PhaseBound
pub bind_step : (setup : Setup) (past mine : List Entry) (o : VolumeData) (n : ℕ) → MayBind mine o → VolumeStep setup past o (phased o volumes.Bound n)
bind_step setup past mine o n row = record {
  refers = λ r uid h. inl (record { is = h.is; known = h.known });
  keeps = λ r uid bound h. inl (refl, record { is = h.is; known = h.known });
  guarded = λ bound. row.guarded;
  stays = λ bound. row.guarded;
  released = λ r uid ended h. absurd (true≢false (sym ended));
  lasts = λ r uid h ended policy. not_both (is_ended o.phase) ended row.live;
}

-- the row Available
pub free_step : (setup : Setup) (past : List Entry) (o : VolumeData) (n : ℕ) → IsSafe o → MayFree o → VolumeStep setup past o (phased o volumes.Available n)
free_step setup past o n safe row = record {
  refers = λ r uid h. inl (record { is = h.is; known = h.known });
  keeps = λ r uid bound h. no_ref_uid o r uid row.free h;
  guarded = λ bound. absurd (true≢false (sym bound));
  stays = safe;
  released = λ r uid ended h. absurd (true≢false (sym ended));
  lasts = λ r uid h ended policy. no_ref_uid o r uid row.free h;
}

-- the claim of a volume that may be released is away
abbrev pub IsAwayAt : Setup → List Entry → VolumeData → Type 0
IsAwayAt setup past o = (r : Ref) (uid : Uid) → Refers o r uid → IsAway (world setup past) uid o.meta.name

pub release_away : (setup : Setup) (past mine : List Entry) → Invariant setup past → IsTrue setup past mine
    → ((o : VolumeData) (r : Ref) (uid : Uid) → r.uid ≡ Some uid → WasReadGone mine o r uid → IsNotThere (world setup past) uid) → (o : VolumeData)
    → MayRelease mine o → IsAwayAt setup past o
release_away setup past mine inv true_of gone o row r uid h =
    subst (λ (w : Uid). IsAway (world setup past) w o.meta.name) (uid_one o row.reference r row.uid uid row.refers row.known h) (elim row.why [
      | inl read ↦ (λ k c there its. absurd (gone o row.reference row.uid row.known read k c there its))
      | inr other ↦ elsewhere setup past mine inv true_of o.meta.name row.uid other.0
    ])

-- the rows Released and Failed
pub end_step : (setup : Setup) (past : List Entry) (o : VolumeData) (phase : VolumePhase) (n : ℕ) → is_bound phase ≡ false → is_ended phase ≡ true
    → IsSafe o → (is_ended o.phase ≡ true ⊎ IsAwayAt setup past o) → VolumeStep setup past o (phased o phase n)
end_step setup past o phase n loose ended safe why = record {
  refers = λ r uid h. inl (record { is = h.is; known = h.known });
  keeps = λ r uid bound h. elim why [ inl was ↦ bound_not_ended o.phase bound was | inr away ↦ inr (away r uid (record { is = h.is; known = h.known })) ];
  guarded = λ bound. not_both (is_bound phase) bound loose;
  stays = safe;
  released = λ r uid e h. elim why [ inl was ↦ inl (was, record { is = h.is; known = h.known }) | inr away ↦ inr (away r uid (record { is = h.is; known = h.known })) ];
  lasts = λ r uid h e policy. record { released = ended; policy = policy; refers = h.is };
}
  where
    bound_not_ended : {G : Type 0} (p : VolumePhase) → is_bound p ≡ true → is_ended p ≡ true → G
    bound_not_ended volumes.Bound b e = absurd (true≢false (sym e))
    bound_not_ended volumes.Pending b e = absurd (true≢false (sym b))
    bound_not_ended volumes.Available b e = absurd (true≢false (sym b))
    bound_not_ended volumes.Released b e = absurd (true≢false (sym b))
    bound_not_ended volumes.Failed b e = absurd (true≢false (sym b))

-- the row DropVolumeGuard
pub unguard_step : (setup : Setup) (past : List Entry) (o new : VolumeData) (n : ℕ) → MayUnguardVolume o new → VolumeStep setup past o (stored_volume o new n)
unguard_step setup past o new n row =
    subst (λ (x : VolumeData). VolumeStep setup past o (stored_volume o x n)) (sym row.change)
    (same_step setup past o (stored_volume o (record o { meta = unguarded_meta pv_protection o.meta }) n) refl refl refl (λ bound. not_both (is_bound o.phase) bound row.loose))

-- the row AddGuard
pub guard_step : (setup : Setup) (past : List Entry) (o new : VolumeData) (n : ℕ) → IsSafe o → GuardsVolume o new → VolumeStep setup past o (stored_volume o new n)
guard_step setup past o new n safe row =
    let change : new ≡ record o { meta = guarded_meta pv_protection o.meta } = row.rest ∙ ap (λ (m : Meta). record o { meta = m }) row.guard.change in
    subst (λ (x : VolumeData). VolumeStep setup past o (stored_volume o x n)) (sym change)
    (same_step setup past o (stored_volume o (record o { meta = guarded_meta pv_protection o.meta }) n) refl refl refl
    (λ bound. not_both (has_name pv_protection o.meta.finalizers) (safe bound) row.guard.lacks))
