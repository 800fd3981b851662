-- Rows of volumes and of claims as rows of objects.
use Rattle.std.proofs.Common.{◌↔◌, IsTrue, Bool, List, Option, ℕ}
use Rattle.kube_objects.specs.declared.objects.Claim.{Claim as ClaimData}
use Rattle.kube_objects.specs.declared.objects.Volume.{Volume as VolumeData}
use Rattle.kube_objects.specs.declared.objects.Object.{Object}
use Rattle.kube_objects.specs.declared.objects.Object.TheVariants.{Class, Node, Volume, Claim, Pod}
use Rattle.kube_objects.specs.Keys.{meta_of}
use Rattle.call_types.specs.declared.entry.Entry.{Entry}
use Rattle.binder_model.specs.At.{IsWrittenAt}
use Rattle.binder_model.specs.Told.{IsClaimWith, IsVolumeWith, ToldClaim, ToldObject, ToldVolume}
use Rattle.model_laws.proofs.Evidence.{told_map}

volume_in : (given : Option ℕ) (namespace name : List ℕ) (R : VolumeData → Type 0) (o : Object) → IsWrittenAt given namespace name (meta_of o)
    × IsVolumeWith R o → IsVolumeWith (λ v. IsWrittenAt given namespace name v.meta × R v) o
volume_in given namespace name R (Volume v) p = p
volume_in given namespace name R (Class x) p = p.1
volume_in given namespace name R (Node x) p = p.1
volume_in given namespace name R (Claim x) p = p.1
volume_in given namespace name R (Pod x) p = p.1

volume_out : (given : Option ℕ) (namespace name : List ℕ) (R : VolumeData → Type 0) (o : Object)
    → IsVolumeWith (λ v. IsWrittenAt given namespace name v.meta × R v) o → IsWrittenAt given namespace name (meta_of o) × IsVolumeWith R o
volume_out given namespace name R (Volume v) p = p
volume_out given namespace name R (Class x) p = absurd p
volume_out given namespace name R (Node x) p = absurd p
volume_out given namespace name R (Claim x) p = absurd p
volume_out given namespace name R (Pod x) p = absurd p

pub volume_at : (given : Option ℕ) (namespace name : List ℕ) (R : VolumeData → Type 0) (mine : List Entry) (b : Bool)
    → (IsTrue b ↔ ToldObject (λ o. IsWrittenAt given namespace name (meta_of o) × IsVolumeWith R o) mine)
    → (IsTrue b ↔ ToldVolume (λ v. IsWrittenAt given namespace name v.meta × R v) mine)
volume_at given namespace name R mine b is = (
  (λ t. told_map {P = λ o. IsWrittenAt given namespace name (meta_of o) × IsVolumeWith R o}
      {Q = IsVolumeWith (λ v. IsWrittenAt given namespace name v.meta × R v)} (volume_in given namespace name R) mine (is.0 t)),
  (λ h. is.1 (told_map {P = IsVolumeWith (λ v. IsWrittenAt given namespace name v.meta × R v)}
      {Q = λ o. IsWrittenAt given namespace name (meta_of o) × IsVolumeWith R o} (volume_out given namespace name R) mine h)),
)

claim_in : (given : Option ℕ) (namespace name : List ℕ) (R : ClaimData → Type 0) (o : Object) → IsWrittenAt given namespace name (meta_of o)
    × IsClaimWith R o → IsClaimWith (λ c. IsWrittenAt given namespace name c.meta × R c) o
claim_in given namespace name R (Claim c) p = p
claim_in given namespace name R (Class x) p = p.1
claim_in given namespace name R (Node x) p = p.1
claim_in given namespace name R (Volume x) p = p.1
claim_in given namespace name R (Pod x) p = p.1

claim_out : (given : Option ℕ) (namespace name : List ℕ) (R : ClaimData → Type 0) (o : Object)
    → IsClaimWith (λ c. IsWrittenAt given namespace name c.meta × R c) o → IsWrittenAt given namespace name (meta_of o) × IsClaimWith R o
claim_out given namespace name R (Claim c) p = p
claim_out given namespace name R (Class x) p = absurd p
claim_out given namespace name R (Node x) p = absurd p
claim_out given namespace name R (Volume x) p = absurd p
claim_out given namespace name R (Pod x) p = absurd p

pub claim_at : (given : Option ℕ) (namespace name : List ℕ) (R : ClaimData → Type 0) (mine : List Entry) (b : Bool)
    → (IsTrue b ↔ ToldObject (λ o. IsWrittenAt given namespace name (meta_of o) × IsClaimWith R o) mine)
    → (IsTrue b ↔ ToldClaim (λ c. IsWrittenAt given namespace name c.meta × R c) mine)
claim_at given namespace name R mine b is = (
  (λ t. told_map {P = λ o. IsWrittenAt given namespace name (meta_of o) × IsClaimWith R o}
      {Q = IsClaimWith (λ c. IsWrittenAt given namespace name c.meta × R c)} (claim_in given namespace name R) mine (is.0 t)),
  (λ h. is.1 (told_map {P = IsClaimWith (λ c. IsWrittenAt given namespace name c.meta × R c)}
      {Q = λ o. IsWrittenAt given namespace name (meta_of o) × IsClaimWith R o} (claim_out given namespace name R) mine h)),
)
