-- A row at a told object, judged by what speaks of the object and what speaks of another. Where all is known both are all
-- entries.
use Rattle.std.proofs.Common.{◌≡◌, ◌↔◌, IsTrue, ℕ, Bool, List, Option, Some, None, sym, subst}
use Rattle.kube_parts.specs.declared.uid.Uid.{Uid}
use Rattle.kube_objects.specs.declared.key.Key.{Key}
use Rattle.kube_objects.specs.declared.objects.Claim.{Claim as ClaimData}
use Rattle.kube_objects.specs.declared.objects.Volume.{Volume as VolumeData}
use Rattle.call_types.specs.declared.entry.Entry.{Entry}
use Rattle.binder_model.specs.At.{IsWrittenAt}
use Rattle.binder_model.specs.Licence.{AtClaimKey, AtVolumeKey, MayDeleteVolume}
use Rattle.binder_model.specs.Told.{IsClaimWith, IsVolumeWith, ToldClaim, ToldVolume}
use Rattle.evidence_pages.specs.Parts.{IsPart}
use Rattle.evidence_pages.proofs.Growing.{told_grows}
use Rattle.evidence_pages.proofs.Rows.{at_claim, at_volume}
use Rattle.licence_record.specs.Judged.{Judges}
use Rattle.licence_writes.proofs.Growing.{delete_grows}

module _ (w : Type 0) (given : Option ℕ) (page small mine : List Entry) (part : IsPart page mine) (all : w → page ≡ mine) (same : w → small ≡ mine)
    (Row : List Entry → VolumeData → Type 0) (grows : (o : VolumeData) → Row small o → Row mine o) (b : Bool) where
  pub volume_paged : (namespace name : List ℕ) → (IsTrue b ↔ ToldVolume (λ v. IsWrittenAt given namespace name v.meta × Row small v) page)
      → Judges w b (ToldVolume (λ v. IsWrittenAt given namespace name v.meta × Row mine v) mine)
  volume_paged namespace name is = (
    (λ t. at_volume given namespace name (Row small) (Row mine) mine grows (told_grows (IsVolumeWith (λ v. IsWrittenAt given namespace name v.meta × Row small v)) page mine part (is.0 t))),
    (λ x h. is.1 (subst (λ m. ToldVolume (λ v. IsWrittenAt given namespace name v.meta × Row small v) m) (sym (all x))
        (subst (λ m. ToldVolume (λ v. IsWrittenAt given namespace name v.meta × Row m v) mine) (sym (same x)) h))),
  )

  pub volume_key_paged : (key : Key) → (IsTrue b ↔ AtVolumeKey page key given (λ o. Row small o)) → Judges w b (AtVolumeKey mine key given (λ o. Row mine o))
  volume_key_paged key is = (
    (λ t. let h = is.0 t in (
      h.0,
      at_volume given key.namespace key.name (Row small) (Row mine) mine grows
          (told_grows (IsVolumeWith (λ v. IsWrittenAt given key.namespace key.name v.meta × Row small v)) page mine part h.1),
    )),
    (λ x h. is.1 (
      h.0,
      subst (λ m. ToldVolume (λ v. IsWrittenAt given key.namespace key.name v.meta × Row small v) m) (sym (all x))
          (subst (λ m. ToldVolume (λ v. IsWrittenAt given key.namespace key.name v.meta × Row m v) mine) (sym (same x)) h.1),
    )),
  )

module _ (w : Type 0) (given : Option ℕ) (page small mine : List Entry) (part : IsPart page mine) (all : w → page ≡ mine) (same : w → small ≡ mine)
    (Row : List Entry → ClaimData → Type 0) (grows : (o : ClaimData) → Row small o → Row mine o) (b : Bool) where
  pub claim_paged : (namespace name : List ℕ) → (IsTrue b ↔ ToldClaim (λ v. IsWrittenAt given namespace name v.meta × Row small v) page)
      → Judges w b (ToldClaim (λ v. IsWrittenAt given namespace name v.meta × Row mine v) mine)
  claim_paged namespace name is = (
    (λ t. at_claim given namespace name (Row small) (Row mine) mine grows (told_grows (IsClaimWith (λ v. IsWrittenAt given namespace name v.meta × Row small v)) page mine part (is.0 t))),
    (λ x h. is.1 (subst (λ m. ToldClaim (λ v. IsWrittenAt given namespace name v.meta × Row small v) m) (sym (all x))
        (subst (λ m. ToldClaim (λ v. IsWrittenAt given namespace name v.meta × Row m v) mine) (sym (same x)) h))),
  )

  pub claim_key_paged : (key : Key) → (IsTrue b ↔ AtClaimKey page key given (λ o. Row small o)) → Judges w b (AtClaimKey mine key given (λ o. Row mine o))
  claim_key_paged key is = (
    (λ t. let h = is.0 t in (
      h.0,
      at_claim given key.namespace key.name (Row small) (Row mine) mine grows
          (told_grows (IsClaimWith (λ v. IsWrittenAt given key.namespace key.name v.meta × Row small v)) page mine part h.1),
    )),
    (λ x h. is.1 (
      h.0,
      subst (λ m. ToldClaim (λ v. IsWrittenAt given key.namespace key.name v.meta × Row small v) m) (sym (all x))
          (subst (λ m. ToldClaim (λ v. IsWrittenAt given key.namespace key.name v.meta × Row m v) mine) (sym (same x)) h.1),
    )),
  )

pub deletes_grow : (small mine : List Entry) → IsPart small mine → (key : Key) (given : Option Uid) → MayDeleteVolume small key given → MayDeleteVolume mine key given
deletes_grow small mine part key None h = h
deletes_grow small mine part key (Some uid) h = (h.0, delete_grows small mine part uid h.1)
