-- What a volume that carries a claim refers to.
use Rattle.std.proofs.Common.{sym, refl, true≢false}
use Rattle.std.specs.Prelude.{◌≡◌, true, Option, Some, None, bytes_eq}
use Rattle.kube_parts.specs.declared.uid.Uid.{Uid}
use Rattle.kube_objects.specs.declared.objects.Ref.{Ref}
use Rattle.kube_objects.specs.declared.objects.Volume.{Volume as VolumeData}
use Rattle.kube_objects.specs.declared.objects.Claim.{Claim as ClaimData}
use Rattle.kube_objects.specs.Bindings.{carries, refers_carrying, uid_carries, names_claim}
use Rattle.safety_law.specs.Invariant.Was.{Refers}
use Rattle.safety_law.proofs.Invariant.Tests.{same_text, uid_is}
use Rattle.std.proofs.lemmas.Bool.{and_parts}

pub record Carried (v : VolumeData) (c : ClaimData) : Type 0 where
  pub reference : Ref
  pub uid : Uid
  pub refers : Refers v reference uid
  pub its : c.meta.uid ≡ Some uid
  pub placed : reference.namespace ≡ c.meta.namespace
  pub named : reference.name ≡ c.meta.name

carried_by : (v : VolumeData) (c : ClaimData) (r : Ref) (u : Option Uid) → v.claim_ref ≡ Some r → r.uid ≡ u → names_claim r c ≡ true
    → uid_carries u c ≡ true → Carried v c
carried_by v c r None is known names fits = absurd (true≢false (sym fits))
carried_by v c r (Some u) is known names fits =
    let n = and_parts (bytes_eq r.namespace c.meta.namespace) (bytes_eq r.name c.meta.name) names in
    record {
      reference = r;
      uid = u;
      refers = record { is = is; known = known };
      its = uid_is c.meta.uid u fits;
      placed = same_text r.namespace c.meta.namespace n.0;
      named = same_text r.name c.meta.name n.1;
    }

pub carried : (v : VolumeData) (c : ClaimData) → carries v c ≡ true → Carried v c
carried v c e = by v.claim_ref refl e
  where
    by : (x : Option Ref) → v.claim_ref ≡ x → refers_carrying x c ≡ true → Carried v c
    by None is e = absurd (true≢false (sym e))
    by (Some r) is e = let t = and_parts (names_claim r c) (uid_carries r.uid c) e in carried_by v c r r.uid is refl t.0 t.1
