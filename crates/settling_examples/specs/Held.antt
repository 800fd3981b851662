-- A gate that holds back the Mounts of one pod and lets all else pass: what is asked of it, and for which pod it is not met.
-- A choice of this project.
use Rattle.std.specs.Prelude.{ℕ, ◌≡◌, not, List, [], ◌∷◌, Some, codes}
use Rattle.kube_parts.specs.declared.names.Due.TheVariants as dues
use Rattle.kube_parts.specs.declared.uid.Uid.{Uid}
use Rattle.kube_objects.specs.declared.objects.Pod.{Pod as PodData}
use Rattle.kube_objects.specs.declared.objects.Object.TheVariants.{Claim, Pod}
use Rattle.kube_objects.specs.Keys.{row_at}
use Rattle.kube_parts.specs.Uids.{uid_of_serial}
use Rattle.call_types.specs.declared.setup.Setup.{Setup}
use Rattle.binder_model.specs.AgentLicence.{is_mount_of}
use Rattle.binder_model.specs.Due.{IsDue}
use Rattle.binder_model.specs.ObjectKeys.{pod_key}
use Rattle.binder_model.specs.Store.{first_moment}
use Rattle.binder_model.specs.World.{world}
use Rattle.actor_rounds.specs.Rounds.{Lets}
use Rattle.settle_measure.specs.Left.Small.{meta, open_claim}
use Rattle.settle_progress.specs.Drains.Held.{AreUidsOf, HoldsMountsAlone, LetsMountPass}
use Rattle.settling_examples.specs.Ending.{setup_with}

-- the gate
abbrev pub holds_back : Uid → Lets
holds_back uid h request = not (is_mount_of uid request)

-- a pod on the node that names no claim, with a UID of this serial
abbrev pub pod_of : List ℕ → ℕ → PodData
pod_of name serial = record { meta = record (meta (codes "ns") name serial []) { created = first_moment }; claims = []; node = codes "n"; extra = [] }

-- two such pods are imported
abbrev pub one : PodData
one = pod_of (codes "p") 5

abbrev pub other : PodData
other = pod_of (codes "q") 6

abbrev pub two_pods : Setup
two_pods = setup_with [] (Pod one ∷ Pod other ∷ [])

-- the Mounts of the first are held back
abbrev pub lets_other : Lets
lets_other = holds_back (uid_of_serial 5)

pub record HeldExamples : Type 0 where
  -- both stand, and the Mount of each is due
  pub one_stands : row_at (pod_key (codes "ns") (codes "p")) (world two_pods []).store.rows ≡ Some (Pod one)
  pub other_stands : row_at (pod_key (codes "ns") (codes "q")) (world two_pods []).store.rows ≡ Some (Pod other)
  pub one_is_due : IsDue two_pods (world two_pods []) (Pod one) (Some dues.Mount)
  pub other_is_due : IsDue two_pods (world two_pods []) (Pod other) (Some dues.Mount)
  -- the gate holds Mounts alone. It lets that of the other pod pass, and of a claim nothing is asked
  pub alone : HoldsMountsAlone lets_other
  pub passes : LetsMountPass two_pods lets_other [] (Pod other)
  pub claim : LetsMountPass two_pods lets_other [] (Claim open_claim)
  -- but not that of the first
  pub held : LetsMountPass two_pods lets_other [] (Pod one) → ⊥
  -- the UIDs of a pod's claims: each in its place, and no fewer
  pub uids : AreUidsOf (Claim open_claim ∷ []) (codes "ns") (codes "c" ∷ []) (uid_of_serial 2 ∷ [])
  pub another : AreUidsOf (Claim open_claim ∷ []) (codes "ns") (codes "c" ∷ []) (uid_of_serial 3 ∷ []) → ⊥
  pub fewer : AreUidsOf (Claim open_claim ∷ []) (codes "ns") (codes "c" ∷ []) [] → ⊥
