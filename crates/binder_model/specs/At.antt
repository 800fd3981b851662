-- "At o": a write carries the version of a told object o of its key, and is o with the named change alone.
-- Source: Kubernetes API conventions, "Concurrency Control and Consistency".
use Rattle.std.specs.Prelude.{ℕ, ◌≡◌, ◌≢◌, List, [], Option, Some}
use Rattle.kube_parts.specs.declared.uid.Uid.{Uid}
use Rattle.kube_objects.specs.declared.objects.Meta.{Meta}
use Rattle.kube_objects.specs.declared.objects.Claim.{Claim as ClaimData}

-- the write has the version and the name that the told object has
pub record IsWrittenAt (given : Option ℕ) (namespace name : List ℕ) (o : Meta) : Type 0 where
  pub version : given ≡ Some o.version
  pub placed : o.namespace ≡ namespace
  pub named : o.name ≡ name

-- the same object, by its UID
pub record IsSameObject (a b : Meta) : Type 0 where
  pub uid : Uid
  pub first : a.uid ≡ Some uid
  pub second : b.uid ≡ Some uid

-- the claim has this UID
abbrev pub HasUid : Uid → ClaimData → Type 0
HasUid uid c = c.meta.uid ≡ Some uid

-- the claim has the UID and names another volume
pub record IsElsewhere (volume : List ℕ) (uid : Uid) (told_claim : ClaimData) : Type 0 where
  pub claim : HasUid uid told_claim
  pub named : told_claim.volume_name ≢ []
  pub other : told_claim.volume_name ≢ volume
