-- What the provisioner and reclaimer may still write, for an object and for all, and claims of which nothing is due of provisioning: small cases.
-- A choice of this project.
use Rattle.std.specs.Prelude.{ℕ, ◌≡◌, false, List, [], ◌∷◌, Option, Some, None, codes}
use Rattle.kube_objects.specs.declared.key.Key.{Key}
use Rattle.kube_parts.specs.declared.parts.VolumePhase.{VolumePhase}
use Rattle.kube_parts.specs.declared.parts.VolumePhase.TheVariants as volumes
use Rattle.kube_objects.specs.declared.objects.Claim.{Claim as ClaimData}
use Rattle.kube_objects.specs.declared.objects.Volume.{Volume as VolumeData}
use Rattle.kube_objects.specs.declared.objects.Object.{Object}
use Rattle.kube_objects.specs.declared.objects.Object.TheVariants.{Claim, Class, Node, Pod, Volume}
use Rattle.kube_parts.specs.declared.uid.Uid.{Uid}
use Rattle.kube_objects.specs.Bindings.{no_provisioner}
use Rattle.kube_parts.specs.Uids.{uid_of_serial}
use Rattle.call_types.specs.declared.setup.Setup.{Setup}
use Rattle.binder_model.specs.ObjectKeys.{claim_key}
use Rattle.binder_model.specs.Provisioning.{data_name}
use Rattle.settle_measure.specs.Left.Small.{free, going, meta, open_claim, volume_of}
use Rattle.settle_due.specs.Begun.Begun.{IsOfNoneDue}
use Rattle.settle_write_counts.specs.Ops.Ops.{ops_left, ops_writes, to_make}
use Rattle.settling_examples.specs.Ending.{class_of, faults_upto, pod_on, setup_with, world_with}
use Rattle.settling_examples.specs.Near.{claim_with}

-- a volume under the name of the one that is made for the claim
abbrev pub made : VolumePhase → VolumeData
made phase = volume_of (data_name (uid_of_serial 2)) 5 None phase

-- how often ops may still write for these objects, with no fault ahead
abbrev pub writes_for : List Object → ℕ
writes_for rows = ops_writes (setup_with [] []) (world_with rows)

pub record OpsExamples : Type 0 where
  -- a claim may get a volume, one of another name beside it or not; once it has its own, nothing is left, until that has ended
  pub alone : writes_for (Claim open_claim ∷ []) ≡ 1
  pub beside : writes_for (Volume (free volumes.Available) ∷ Claim open_claim ∷ []) ≡ 1
  pub has_own : writes_for (Volume (made volumes.Pending) ∷ Claim open_claim ∷ []) ≡ 0
  pub own_ended : writes_for (Volume (made volumes.Released) ∷ Claim open_claim ∷ []) ≡ 2
  -- a volume that has ended is deleted once
  pub ended : writes_for (Volume (free volumes.Failed) ∷ []) ≡ 1
  pub deleted : writes_for (Volume (going (free volumes.Failed)) ∷ []) ≡ 0
  -- phase Failed may be written once for each planned fault
  pub faults : ops_writes (setup_with (faults_upto 3) []) (world_with []) ≡ 3
  -- and a node that is selected for a claim may be taken back once
  pub node : writes_for (Claim (claim_with (codes "n")) ∷ []) ≡ 2
  pub node_of_own : writes_for (Volume (made volumes.Bound) ∷ Claim (claim_with (codes "n")) ∷ []) ≡ 1
  -- all these, of a claim with a node, a volume that has ended and three planned faults
  pub all : ops_writes (setup_with (faults_upto 3) []) (world_with (Volume (free volumes.Failed) ∷ Claim (claim_with (codes "n")) ∷ [])) ≡ 6

-- the volume that is to be made for the claim of this UID, where these objects stand
abbrev pub to_make_for : Option Uid → List Object → ℕ
to_make_for uid rows = to_make rows uid

-- what ops has still to write for the object, where it stands alone
abbrev pub left_alone : Object → ℕ
left_alone o = ops_left (o ∷ []) o

-- the claim, before it has a UID
abbrev pub without_uid : ClaimData
without_uid = record open_claim { meta = record open_claim.meta { uid = None } }

pub record LeftExamples : Type 0 where
  -- for a claim a volume is to be made under its name, until one stands there, whether or not that is to go
  pub none_there : to_make_for (Some (uid_of_serial 2)) [] ≡ 1
  pub pending : to_make_for (Some (uid_of_serial 2)) (Volume (made volumes.Pending) ∷ []) ≡ 0
  pub available : to_make_for (Some (uid_of_serial 2)) (Volume (made volumes.Available) ∷ []) ≡ 0
  pub bound : to_make_for (Some (uid_of_serial 2)) (Volume (made volumes.Bound) ∷ []) ≡ 0
  pub to_go : to_make_for (Some (uid_of_serial 2)) (Volume (going (made volumes.Bound)) ∷ []) ≡ 0
  -- and again once that has ended, or where it is that of another claim; but for no claim that has no UID
  pub released : to_make_for (Some (uid_of_serial 2)) (Volume (made volumes.Released) ∷ []) ≡ 1
  pub failed : to_make_for (Some (uid_of_serial 2)) (Volume (made volumes.Failed) ∷ []) ≡ 1
  pub other : to_make_for (Some (uid_of_serial 3)) (Volume (made volumes.Bound) ∷ []) ≡ 1
  pub no_uid : to_make_for None [] ≡ 0
  -- so much is left for a claim; a volume is to be deleted once it has ended, unless it is to go already
  pub of_claim : left_alone (Claim open_claim) ≡ 1
  pub of_new_claim : left_alone (Claim without_uid) ≡ 0
  pub of_open : left_alone (Volume (free volumes.Bound)) ≡ 0
  pub of_open_to_go : left_alone (Volume (going (free volumes.Bound))) ≡ 0
  pub of_released : left_alone (Volume (free volumes.Released)) ≡ 1
  pub of_failed : left_alone (Volume (free volumes.Failed)) ≡ 1
  pub of_released_to_go : left_alone (Volume (going (free volumes.Released))) ≡ 0
  -- for other objects nothing
  pub of_class : left_alone (Class (class_of false (codes "d"))) ≡ 0
  pub of_pod : left_alone (Pod (pod_on (codes "p") [])) ≡ 0
  pub of_node : left_alone (Node (record { meta = meta [] (codes "n") 3 []; extra = [] })) ≡ 0

-- the key of the claim
abbrev pub open_key : Key
open_key = claim_key (codes "ns") (codes "c")

-- a class of this provisioner that binds at once, and the claim
abbrev pub with_claim : List ℕ → List Object
with_claim provisioner = Class (class_of false provisioner) ∷ Claim open_claim ∷ []

-- the same, and a pool of so many bytes for the class
abbrev pub with_pool : ℕ → Setup
with_pool bytes = record { pools = record { name = codes "pool"; provisioner = codes "csi"; bytes = bytes; topology = None } ∷ []; faults = []; imports = with_claim (codes "csi") }

pub record NoneDueExamples : Type 0 where
  -- nothing is due of provisioning for a claim whose class provisions nothing, nor where no pool has room for its five bytes
  pub by_hand : IsOfNoneDue (setup_with [] (with_claim no_provisioner)) [] open_key
  pub no_pool : IsOfNoneDue (setup_with [] (with_claim (codes "csi"))) [] open_key
  pub small_pool : IsOfNoneDue (with_pool 4) [] open_key
  -- where one has room, something is due; and of a claim that does not stand nobody can say so
  pub large_pool : IsOfNoneDue (with_pool 5) [] open_key → ⊥
  pub absent : IsOfNoneDue (setup_with [] []) [] open_key → ⊥
