-- How large what is left to do is.
use Rattle.std.proofs.Common.{ℕ, ◌+◌, ◌*◌, ◌≤◌, List, [], ◌∷◌, Bool, true, false, Option, Some, None, arith}
use Rattle.std.specs.Prelude.{cond, not}
use Rattle.kube_parts.specs.declared.uid.Uid.{Uid}
use Rattle.kube_parts.specs.declared.parts.VolumePhase.{VolumePhase}
use Rattle.kube_parts.specs.declared.parts.VolumePhase.TheVariants as volumes
use Rattle.kube_objects.specs.declared.objects.Claim.{Claim as ClaimData}
use Rattle.kube_objects.specs.declared.objects.Pod.{Pod as PodData}
use Rattle.kube_objects.specs.declared.objects.Volume.{Volume as VolumeData}
use Rattle.kube_objects.specs.declared.objects.Object.{Object}
use Rattle.kube_objects.specs.declared.objects.Object.TheVariants.{Class, Node, Volume, Claim, Pod}
use Rattle.kube_objects.specs.Bindings.{is_available, is_completed, is_deleting, is_empty, is_protected_claim, is_protected_volume, is_scheduled, ref_uid}
use Rattle.kube_objects.specs.Keys.{row_at}
use Rattle.kube_objects.specs.Sources.{data_id_of}
use Rattle.binder_model.specs.Devices.{Devices, has_data}
use Rattle.binder_model.specs.Due.{is_pod_mounted}
use Rattle.binder_model.specs.ObjectKeys.{volume_key}
use Rattle.binder_model.specs.Provisioning.{data_name}
use Rattle.settle_measure.specs.Left.Measure.{
  claim_left,
  claims_in,
  completed_left,
  guard_left,
  has_class,
  has_offer,
  is_awaited,
  is_held_by,
  is_lost,
  is_over,
  life_left,
  mount_left,
  object_left,
  open_left,
  phase_left,
  pod_left,
  pods_in,
  provision_left,
  seeking_left,
  stage_left,
  total,
  unless,
  volume_left,
  volumes_in,
  was_erased,
}
use Rattle.settle_measure.specs.Left.Bounds.{LeftIsBounded}
use Rattle.settle_measure.proofs.Left.Others.{away_most}

at_most : (b : Bool) (n : ℕ) → unless b n ≤ n
at_most true n = omega arith
at_most false n = omega arith

guard_most : (a b : Bool) → guard_left a b ≤ 2
guard_most a true = omega arith
guard_most true false = omega arith
guard_most false false = omega arith

phase_most : (p : VolumePhase) → phase_left p ≤ 3
phase_most volumes.Bound = omega arith
phase_most volumes.Released = omega arith
phase_most volumes.Failed = omega arith
phase_most volumes.Pending = omega arith
phase_most volumes.Available = omega arith

stage_most : (a : Bool) (u : Option Uid) (p : VolumePhase) → stage_left a u p ≤ 5
stage_most a None p = let x = at_most (is_available p) 1 in let y = at_most (not a) 4 in omega (arith, x, y)
stage_most a (Some uid) p = let x = phase_most p in omega (arith, x)

life_most : (a o b : Bool) → life_left a o b ≤ 3
life_most true o b = let x = at_most o 1 in omega (arith, x)
life_most false o b = let x = at_most b 2 in omega (arith, x)

pub volume_most : (rows : List Object) (d : Devices) (v : VolumeData) → volume_left rows d v ≤ 10
volume_most rows d v =
    let a = stage_most (is_awaited rows v.claim_ref) (ref_uid v.claim_ref) v.phase in
    let b = life_most (is_deleting v.meta) (is_over (ref_uid v.claim_ref) v.phase) (was_erased (data_id_of v.source) d.stored) in
    let c = guard_most (is_deleting v.meta) (is_protected_volume v) in
    omega (arith, a, b, c)

provision_most : (rows : List Object) (d : Devices) (c : ClaimData) (u : Option Uid) → provision_left rows d c u ≤ 9
provision_most rows d c None = omega arith
provision_most rows d c (Some uid) = let a = at_most (is_held_by c (row_at (volume_key (data_name uid)) rows)) 8 in let b = at_most (has_data d (data_name uid)) 1 in omega (arith, a, b)

seeking_most : (rows : List Object) (d : Devices) (c : ClaimData) → seeking_left rows d c ≤ 14
seeking_most rows d c = let a = at_most (has_class c) 1 in let b = at_most (has_offer rows c) 4 in let p = provision_most rows d c c.meta.uid in omega (arith, a, b, p)

open_most : (rows : List Object) (d : Devices) (c : ClaimData) → open_left rows d c ≤ 14
open_most rows d c = by (is_empty c.volume_name) (seeking_most rows d c) (at_most (is_held_by c (row_at (volume_key c.volume_name) rows)) 4)
  where
    by : (b : Bool) {m n : ℕ} → m ≤ 14 → n ≤ 4 → cond b m n ≤ 14
    by true x y = x
    by false x y = omega (arith, x, y)

completed_most : (c : ClaimData) (o : Option Object) → completed_left c o ≤ 6
completed_most c None = let x = at_most (is_lost c.phase) 1 in omega (arith, x)
completed_most c (Some (Class o)) = let x = at_most (is_lost c.phase) 1 in omega (arith, x)
completed_most c (Some (Node o)) = let x = at_most (is_lost c.phase) 1 in omega (arith, x)
completed_most c (Some (Claim o)) = let x = at_most (is_lost c.phase) 1 in omega (arith, x)
completed_most c (Some (Pod o)) = let x = at_most (is_lost c.phase) 1 in omega (arith, x)
completed_most c (Some (Volume v)) = let x = away_most c v in let y = at_most (is_lost c.phase) 1 in omega (arith, x, y)

pub claim_most : (rows : List Object) (d : Devices) (c : ClaimData) → claim_left rows d c ≤ 18
claim_most rows d c = by (is_completed c) (is_deleting c.meta) (completed_most c (row_at (volume_key c.volume_name) rows)) (open_most rows d c) (guard_most (is_deleting c.meta) (is_protected_claim c))
  where
    by : (a b : Bool) {m n g : ℕ} → m ≤ 6 → n ≤ 14 → g ≤ 2 → cond a m (unless b (2 + n)) + g ≤ 18
    by true b x y z = omega (arith, x, z)
    by false true x y z = omega (arith, z)
    by false false x y z = omega (arith, y, z)

mount_most : (a b : Bool) → mount_left a b ≤ 3
mount_most a true = omega arith
mount_most true false = omega arith
mount_most false false = omega arith

pub pod_most : (d : Devices) (p : PodData) → pod_left d p ≤ 4
pod_most d p = by (is_scheduled p) (mount_most (is_deleting p.meta) (is_pod_mounted d p))
  where
    by : (b : Bool) {m : ℕ} → m ≤ 3 → cond b m 4 ≤ 4
    by true x = omega (arith, x)
    by false x = omega arith

bounded : (all rows : List Object) (d : Devices) → total (object_left all d) rows ≤ 18 * claims_in rows + 10 * volumes_in rows + 4 * pods_in rows
bounded all [] d = omega arith
bounded all (Class x ∷ os) d = let h = bounded all os d in omega (arith, h)
bounded all (Node x ∷ os) d = let h = bounded all os d in omega (arith, h)
bounded all (Volume v ∷ os) d = let h = bounded all os d in let x = volume_most all d v in omega (arith, h, x)
bounded all (Claim c ∷ os) d = let h = bounded all os d in let x = claim_most all d c in omega (arith, h, x)
bounded all (Pod p ∷ os) d = let h = bounded all os d in let x = pod_most d p in omega (arith, h, x)

pub left_is_bounded : LeftIsBounded
left_is_bounded rows d = bounded rows rows d
