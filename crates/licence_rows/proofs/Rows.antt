-- Rows of the licence with a UID as a field, as the code tests them.
use Rattle.std.proofs.Common.{◌≡◌, ◌↔◌, IsTrue, Bool, true, false, List, Some, sym, ◌∙◌, ap, subst}
use Rattle.std.specs.Prelude.{◌⊎◌}
use Rattle.kube_parts.specs.declared.uid.Uid.{Uid}
use Rattle.kube_objects.specs.declared.objects.Ref.{Ref}
use Rattle.kube_objects.specs.declared.objects.Volume.{Volume as VolumeData}
use Rattle.kube_objects.specs.Bindings.{is_ended, is_protected_volume, ref_uid}
use Rattle.call_types.specs.declared.entry.Entry.{Entry}
use Rattle.binder_model.specs.At.{IsElsewhere}
use Rattle.binder_model.specs.BinderDue.{is_reclaimed}
use Rattle.binder_model.specs.BinderLicence.{IsHere, MayBind, MayRelease, MayUnbind, WasReadGone}
use Rattle.binder_model.specs.BindWrites.{unbound_volume}
use Rattle.binder_model.specs.Told.{ToldClaim}
use Rattle.model_laws.proofs.Lists.{one}

pub bind_row : (mine : List Entry) (v : VolumeData) (uid : Uid) (told : Bool) → is_ended v.phase ≡ false → is_protected_volume v ≡ true → ref_uid v.claim_ref ≡ Some uid
    → (IsTrue told ↔ ToldClaim (IsHere v.meta.name uid) mine) → (IsTrue told ↔ MayBind mine v)
bind_row mine v uid told live guarded refers is = (
  (λ t. record { live = live; guarded = guarded; uid = uid; refers = refers; told = is.0 t }),
  (λ row. is.1 (subst (λ u. ToldClaim (IsHere v.meta.name u) mine) (one row.uid uid (sym row.refers ∙ refers)) row.told)),
)

pub unbind_row : (mine : List Entry) (v new : VolumeData) (uid : Uid) (told : Bool) → is_ended v.phase ≡ false → is_reclaimed v ≡ false → new ≡ unbound_volume v → ref_uid v.claim_ref ≡ Some uid
    → (IsTrue told ↔ ToldClaim (IsElsewhere v.meta.name uid) mine) → (IsTrue told ↔ MayUnbind mine v new)
unbind_row mine v new uid told live kept change refers is = (
  (λ t. record { live = live; uid = uid; refers = refers; elsewhere = is.0 t; kept = kept; change = change }),
  (λ row. is.1 (subst (λ u. ToldClaim (IsElsewhere v.meta.name u) mine) (one row.uid uid (sym row.refers ∙ refers)) row.elsewhere)),
)

-- why the volume is released, for this reference with this UID
abbrev pub Why : List Entry → VolumeData → Ref → Uid → Type 0
Why mine v r uid = WasReadGone mine v r uid ⊎ (ToldClaim (IsElsewhere v.meta.name uid) mine × (is_reclaimed v ≡ true))

pub release_row : (mine : List Entry) (v : VolumeData) (r : Ref) (uid : Uid) (why : Bool) → is_ended v.phase ≡ false → v.claim_ref ≡ Some r → r.uid ≡ Some uid
    → (IsTrue why ↔ Why mine v r uid) → (IsTrue why ↔ MayRelease mine v)
release_row mine v r uid why live refers known is = (
  (λ t. record { live = live; reference = r; uid = uid; refers = refers; known = known; why = is.0 t }),
  (λ row.
      let same : row.reference ≡ r = one row.reference r (sym row.refers ∙ refers) in
      let uids : row.uid ≡ uid = one row.uid uid (sym row.known ∙ ap (λ (x : Ref). x.uid) same ∙ known) in
      is.1 (subst (λ u. Why mine v r u) uids (subst (λ x. Why mine v x row.uid) same row.why))),
)
