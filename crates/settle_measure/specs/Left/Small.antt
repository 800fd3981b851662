-- What is left to do in small worlds: a volume and a claim from write to write until the claim is bound, and writes that no
-- controller makes where it sees the world as it is.
-- A choice of this project.
use Rattle.std.specs.Prelude.{ℕ, ◌≡◌, ◌<◌, true, false, List, [], ◌∷◌, Option, Some, None, codes}
use Rattle.kube_parts.specs.declared.parts.ClaimPhase.TheVariants as claims
use Rattle.kube_parts.specs.declared.parts.VolumePhase.{VolumePhase}
use Rattle.kube_parts.specs.declared.parts.VolumePhase.TheVariants as volumes
use Rattle.kube_parts.specs.declared.parts.Modes.{Modes}
use Rattle.kube_parts.specs.declared.parts.Policy.TheVariants as policies
use Rattle.kube_parts.specs.declared.parts.SourceKind.TheVariants.{Csi}
use Rattle.kube_objects.specs.declared.objects.Meta.{Meta}
use Rattle.kube_objects.specs.declared.objects.Ref.{Ref}
use Rattle.kube_objects.specs.declared.objects.Claim.{Claim as ClaimData}
use Rattle.kube_objects.specs.declared.objects.Volume.{Volume as VolumeData}
use Rattle.kube_objects.specs.declared.objects.Object.TheVariants.{Volume, Claim}
use Rattle.kube_objects.specs.Bindings.{pv_protection, pvc_protection}
use Rattle.kube_parts.specs.Uids.{uid_of_serial}
use Rattle.binder_model.specs.BindWrites.{completed_with, taken_for, unbound_volume}
use Rattle.binder_model.specs.Devices.{no_devices}
use Rattle.binder_model.specs.Store.{no_modes}
use Rattle.settle_measure.specs.Left.Measure.{left_on}

-- the metadata of an example, its UID of the same serial number as its version
abbrev pub meta : List ℕ → List ℕ → ℕ → List (List ℕ) → Meta
meta namespace name serial finalizers =
    record { namespace = namespace; name = name; uid = Some (uid_of_serial serial); version = serial; created = []; deleted = None; labels = []; annotations = []; finalizers = finalizers }

-- the mode ReadWriteOnce alone
abbrev pub once : Modes
once = record { rwo = true; rox = false; rwx = false; rwop = false }

-- a volume of this name and so many bytes, with its finalizer
abbrev pub volume_of : List ℕ → ℕ → Option Ref → VolumePhase → VolumeData
volume_of name bytes ref phase = record {
  meta = meta [] name 1 (pv_protection ∷ []);
  amount = record { text = []; bytes = bytes };
  modes = once;
  block = false;
  class = codes "slow";
  policy = policies.Retain;
  claim_ref = ref;
  source = record { kind = Csi; first = codes "d"; second = codes "1" };
  terms = None;
  extra = [];
  phase = phase;
}

-- a claim for five bytes that names this volume, or none
abbrev pub claim_on : List ℕ → ClaimData
claim_on volume = record {
  meta = meta (codes "ns") (codes "c") 2 (pvc_protection ∷ []);
  modes = once;
  amount = record { text = []; bytes = 5 };
  block = false;
  class = Some (codes "slow");
  selector = None;
  volume_name = volume;
  extra = [];
  phase = claims.Pending;
  got_modes = no_modes;
  got = None;
}

-- the claim that names no volume
abbrev pub open_claim : ClaimData
open_claim = claim_on []

-- a volume of five bytes with no reference, in this phase
abbrev pub free : VolumePhase → VolumeData
free = volume_of (codes "a") 5 None

-- that volume, taken for the claim, in this phase
abbrev pub taken_volume : VolumePhase → VolumeData
taken_volume phase = record (taken_for (free volumes.Available) open_claim) { phase = phase }

-- the claim, completed with the volume
abbrev pub completed : ClaimData
completed = completed_with open_claim (taken_volume volumes.Bound)

-- and its status shows that it is bound
abbrev pub shown : ClaimData
shown = record completed { phase = claims.Bound; got_modes = once; got = Some (record { text = []; bytes = 5 }) }

-- what is left for a volume and a claim, or for two volumes and a claim
abbrev pub left_with : VolumeData → ClaimData → ℕ
left_with v c = left_on (Volume v ∷ Claim c ∷ []) no_devices

-- what is left for two volumes and a claim
abbrev pub left_with_two : VolumeData → VolumeData → ClaimData → ℕ
left_with_two u v c = left_on (Volume u ∷ Volume v ∷ Claim c ∷ []) no_devices

-- five writes bind the pair, and each lowers what is left; at the end stand their deletions alone
pub record FallsAsItBinds : Type 0 where
  pub is_fresh : left_with (free volumes.Pending) open_claim ≡ 21
  pub is_available : left_with (free volumes.Available) open_claim ≡ 20
  pub is_taken : left_with (taken_volume volumes.Available) open_claim ≡ 19
  pub is_bound : left_with (taken_volume volumes.Bound) open_claim ≡ 18
  pub is_completed : left_with (taken_volume volumes.Bound) completed ≡ 8
  pub is_shown : left_with (taken_volume volumes.Bound) shown ≡ 7

-- a volume that carries the claim and is too small for it
abbrev pub small : VolumeData
small = record (volume_of (codes "b") 1 None volumes.Available) { claim_ref = (taken_volume volumes.Available).claim_ref }

-- a volume with no reference that is larger than the claim asks
abbrev pub wide : VolumeData
wide = volume_of (codes "b") 9 None volumes.Available

-- a volume that carries the claim and is too small for it is no offer, so the write that takes a good one lowers what is left;
-- where a good one carries it already, a second one is not taken, since what is left would rise
pub record CountsOffers : Type 0 where
  pub beside_small : left_with_two (free volumes.Available) small open_claim ≡ 27
  pub taken_beside_small : left_with_two (taken_volume volumes.Available) small open_claim ≡ 26
  pub beside_wide : left_with_two (taken_volume volumes.Available) wide open_claim ≡ 23
  pub taken_twice : left_with_two (taken_volume volumes.Available) (taken_for wide open_claim) open_claim ≡ 26

-- the claim as it is imported without its volume, and a volume that is to go
abbrev pub lost : ClaimData
lost = record completed { phase = claims.Lost }

-- the volume is deleting
abbrev pub going : VolumeData → VolumeData
going v = record v { meta = record v.meta { deleted = Some [] } }

-- a volume that is to go is taken for such a claim: each write lowers what is left, be it that the volume then leaves
pub record FallsAsItLeaves : Type 0 where
  pub is_free : left_with (going (free volumes.Available)) lost ≡ 8
  pub is_taken : left_with (going (taken_volume volumes.Available)) lost ≡ 7
  pub has_left : left_on (Claim lost ∷ []) no_devices ≡ 6

-- unbinding a volume of a completed claim raises what is left, and so does a phase taken back
pub record RisesWhereItMust : Type 0 where
  pub unbound : left_with (taken_volume volumes.Bound) shown < left_with (unbound_volume (taken_volume volumes.Bound)) shown
  pub taken_back : left_with (free volumes.Available) open_claim < left_with (free volumes.Pending) open_claim
