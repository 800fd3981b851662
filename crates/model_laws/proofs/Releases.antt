-- The two orders.
use Rattle.std.proofs.Common.{sym, refl, subst, inl, inr}
use Rattle.std.specs.Prelude.{◌≡◌, [], ◌∷◌, Some, codes, ⊤}
use Rattle.kube_objects.specs.declared.key.Key.{Key}
use Rattle.kube_parts.specs.declared.uid.Uid.{Uid}
use Rattle.kube_objects.specs.declared.objects.Ref.{Ref}
use Rattle.kube_objects.specs.declared.objects.Claim.{Claim as ClaimData}
use Rattle.kube_objects.specs.declared.objects.Volume.{Volume as VolumeData}
use Rattle.kube_parts.specs.Uids.{uid_of_serial}
use Rattle.call_types.specs.declared.entry.Entry.{Entry}
use Rattle.call_types.specs.declared.request.SeatKind.TheVariants.{Binder}
use Rattle.call_types.specs.declared.request.Request.{Request}
use Rattle.call_types.specs.declared.request.Request.TheVariants as requests
use Rattle.binder_model.specs.At.{IsWrittenAt, IsElsewhere, IsSameObject}
use Rattle.binder_model.specs.BindWrites.{ref_to}
use Rattle.binder_model.specs.BinderLicence.{MayRelease, IsReferring, IsGone}
use Rattle.binder_model.specs.Licence.{AreOfKind, Licensed}
use Rattle.binder_model.specs.Told.{ToldVolume, ToldClaim, After, TellsLive}
use Rattle.model_laws.specs.Worked.{bound_a, c}
use Rattle.model_laws.specs.ReleaseOrder.{read_gone, told_volume, release, IsReleaseOrder}

itself : IsSameObject bound_a.meta bound_a.meta
itself = record { uid = uid_of_serial 1; first = refl; second = refl }

referring : IsReferring bound_a (ref_to (c 2)) bound_a
referring = record { same = itself; refers = refl }

may_release : MayRelease (read_gone ∷ told_volume ∷ []) bound_a
may_release = record {
  live = refl;
  reference = ref_to (c 2);
  uid = uid_of_serial 2;
  refers = refl;
  known = refl;
  why = inl (inl ((refl, refl, tt), inl (refl, inl referring)));
}

binders : (first second : Entry) → first.kind ≡ Binder → second.kind ≡ Binder → AreOfKind Binder (first ∷ second ∷ [])
binders first second e f = (e, (f, tt))

read_after : Licensed Binder (read_gone ∷ told_volume ∷ []) release
read_after = (binders read_gone told_volume refl refl, (refl, inr (inl (refl, inl (record { version = refl; placed = refl; named = refl }, may_release)))))

abbrev IsGet : Request → Type 0
IsGet (requests.Get key) = ⊤
IsGet request = ⊥

not_gone : (o : VolumeData) (r : Ref) (key : Key) (uid : Uid) → After (ToldVolume (IsReferring o r)) (TellsLive key (IsGone uid)) (told_volume ∷ read_gone ∷ []) → ⊥
not_gone o r key uid (inl q) = subst IsGet (sym q.0.1) tt
not_gone o r key uid (inr (inl q)) = elim q.1 [ ]
not_gone o r key uid (inr (inr e)) = elim e [ ]

no_claim : (P : ClaimData → Type 0) → ToldClaim P (told_volume ∷ read_gone ∷ []) → ⊥
no_claim P (inl t) = elim t.1 [ inl x ↦ elim x [ ] | inr x ↦ elim x [ ] ]
no_claim P (inr (inl t)) = elim t.1 [ ]
no_claim P (inr (inr e)) = elim e [ ]

not_released : (o : VolumeData) → MayRelease (told_volume ∷ read_gone ∷ []) o → ⊥
not_released o row = elim row.why [ inl gone ↦ not_gone o row.reference _ row.uid gone | inr other ↦ no_claim (IsElsewhere o.meta.name row.uid) other.0 ]

read_before : Licensed Binder (told_volume ∷ read_gone ∷ []) release → ⊥
read_before l = by l.1.1
  where
    by : ToldVolume (λ o. IsWrittenAt (Some 5) [] (codes "a") o.meta × MayRelease (told_volume ∷ read_gone ∷ []) o) (told_volume ∷ read_gone ∷ []) → ⊥
    by (inl t) = elim t.1 [ inl row ↦ not_released bound_a row.1 | inr x ↦ elim x [ ] ]
    by (inr (inl t)) = elim t.1 [ ]
    by (inr (inr e)) = elim e [ ]

pub release_order : IsReleaseOrder
release_order = record { read_after = read_after; read_before = read_before }
