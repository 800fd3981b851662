-- What the kind of an object and its key tell: objects of one key are of one kind.
use Rattle.std.proofs.Common.{sym, refl, ap, arith}
use Rattle.std.specs.Prelude.{◌≡◌, Some}
use Rattle.kube_objects.specs.declared.objects.Volume.{Volume as VolumeData}
use Rattle.kube_objects.specs.declared.objects.Claim.{Claim as ClaimData}
use Rattle.kube_objects.specs.declared.objects.Pod.{Pod as PodData}
use Rattle.kube_objects.specs.declared.objects.Object.{Object}
use Rattle.kube_objects.specs.declared.objects.Object.TheVariants.{Class, Node, Volume, Claim, Pod}
use Rattle.kube_objects.specs.Keys.{key_of, kind_index}
use Rattle.std.proofs.lemmas.Option.{same_Some}

-- keys of one kind

kind_of_volume : (o : Object) → kind_index (key_of o).kind ≡ 2 → (v : VolumeData) × (o ≡ Volume v)
kind_of_volume (Class x) e = absurd (omega (arith, e))
kind_of_volume (Node x) e = absurd (omega (arith, e))
kind_of_volume (Volume x) e = (x, refl)
kind_of_volume (Claim x) e = absurd (omega (arith, e))
kind_of_volume (Pod x) e = absurd (omega (arith, e))

kind_of_claim : (o : Object) → kind_index (key_of o).kind ≡ 3 → (c : ClaimData) × (o ≡ Claim c)
kind_of_claim (Class x) e = absurd (omega (arith, e))
kind_of_claim (Node x) e = absurd (omega (arith, e))
kind_of_claim (Volume x) e = absurd (omega (arith, e))
kind_of_claim (Claim x) e = (x, refl)
kind_of_claim (Pod x) e = absurd (omega (arith, e))

pub volume_keyed : (o : Object) (v : VolumeData) → key_of (Volume v) ≡ key_of o → (a : VolumeData) × (o ≡ Volume a)
volume_keyed o v e = kind_of_volume o (ap (λ k. kind_index k.kind) (sym e))

pub claim_keyed : (o : Object) (c : ClaimData) → key_of (Claim c) ≡ key_of o → (a : ClaimData) × (o ≡ Claim a)
claim_keyed o c e = kind_of_claim o (ap (λ k. kind_index k.kind) (sym e))

kind_of_pod : (o : Object) → kind_index (key_of o).kind ≡ 4 → (p : PodData) × (o ≡ Pod p)
kind_of_pod (Class x) e = absurd (omega (arith, e))
kind_of_pod (Node x) e = absurd (omega (arith, e))
kind_of_pod (Volume x) e = absurd (omega (arith, e))
kind_of_pod (Claim x) e = absurd (omega (arith, e))
kind_of_pod (Pod x) e = (x, refl)

pub pod_keyed : (o : Object) (p : PodData) → key_of (Pod p) ≡ key_of o → (q : PodData) × (o ≡ Pod q)
pod_keyed o p e = kind_of_pod o (ap (λ k. kind_index k.kind) (sym e))

-- one object, one volume, claim or pod

pub same_volume : (a b : VolumeData) → Volume a ≡ Volume b → a ≡ b
same_volume a b e = ap (λ x. of x) e
  where
    of : Object → VolumeData
    of (Volume v) = v
    of x = a

pub same_claim : (a b : ClaimData) → Claim a ≡ Claim b → a ≡ b
same_claim a b e = ap (λ x. of x) e
  where
    of : Object → ClaimData
    of (Claim c) = c
    of x = a

pub same_pod : (a b : PodData) → Pod a ≡ Pod b → a ≡ b
same_pod a b e = ap (λ x. of x) e
  where
    of : Object → PodData
    of (Pod p) = p
    of x = a

pub some_claim : (a b : ClaimData) → Some (Claim a) ≡ Some (Claim b) → a ≡ b
some_claim a b e = same_claim a b (same_Some (Claim a) (Claim b) e)

pub some_pod : (a b : PodData) → Some (Pod a) ≡ Some (Pod b) → a ≡ b
some_pod a b e = same_pod a b (same_Some (Pod a) (Pod b) e)
