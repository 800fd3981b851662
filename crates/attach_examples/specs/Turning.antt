-- Examples of what is next, of what is held, of turns, and of a merged list.
-- A choice of this project.
use Rattle.std.specs.Prelude.{◌≡◌, true, false, List, [], ◌∷◌, Some, None, codes}
use Rattle.kube_parts.specs.declared.names.Due.TheVariants.{Finish, Mount}
use Rattle.kube_objects.specs.declared.objects.Object.{Object}
use Rattle.kube_objects.specs.declared.objects.Object.TheVariants.{Volume, Claim, Pod}
use Rattle.call_types.specs.declared.setup.Setup.{Setup}
use Rattle.attach_law.specs.declared.attachment.AttachAsk.TheVariants.{Attach, Detach}
use Rattle.attach_law.specs.Asks.{IsAskDone, Makes, Turned}
use Rattle.attach_law.specs.Merged.{Attaches, Detaches, attached, entries}
use Rattle.attach_law.specs.Next.{holds, next}
use Rattle.attach_examples.specs.Small.{claim, first, mounted, n1, n2, on, once, open_claim, pod_on, rows_by, second, several, volume_by, volume_uid, world_of}

-- the volume and the claim with these pods
abbrev pub with_pods : List Object → List Object
with_pods pods = Volume (volume_by once) ∷ Claim claim ∷ pods

-- what is next
pub record NextExamples : Type 0 where
  pub first_pod : next (world_of (rows_by once) []) [] ≡ Some (Attach volume_uid n1)
  -- what attach would refuse is not asked for
  pub refused : next (world_of (rows_by once) []) (on n1 false ∷ []) ≡ None
  pub second_pod : next (world_of (rows_by several) []) (on n1 true ∷ []) ≡ Some (Attach volume_uid n2)
  -- what no pod of the node uses is detached, and that comes first
  pub unused : next (world_of (with_pods (Pod second ∷ [])) []) (on n1 false ∷ []) ≡ Some (Detach volume_uid n1)
  pub gone : next (world_of [] []) (on n1 false ∷ []) ≡ Some (Detach volume_uid n1)
  -- but not under a mount
  pub under_a_mount : next (world_of (with_pods []) mounted) (on n1 false ∷ []) ≡ None
  -- no pod is scheduled; it is deleting; the claim is not completed
  pub unscheduled : next (world_of (with_pods (Pod (pod_on (codes "p") 3 []) ∷ [])) []) [] ≡ None
  pub deleting : next (world_of (with_pods (Pod (record first { meta = record (first.meta) { deleted = Some [] } }) ∷ [])) []) [] ≡ None
  pub not_completed : next (world_of (Volume (volume_by once) ∷ Claim open_claim ∷ Pod first ∷ []) []) [] ≡ None

-- what is held
pub record HeldExamples : Type 0 where
  pub second_node : holds (rows_by once) (on n1 false ∷ []) (Pod second) Mount ≡ true
  -- it is attached, attach would bring it, or nothing is mounted
  pub attached : holds (rows_by once) (on n1 false ∷ []) (Pod first) Mount ≡ false
  pub free : holds (rows_by once) [] (Pod second) Mount ≡ false
  pub another_action : holds (rows_by once) (on n1 false ∷ []) (Pod second) Finish ≡ false
  pub no_pod : holds (rows_by once) (on n1 false ∷ []) (Claim claim) Mount ≡ false

-- a call that is next is done; one that is not may be refused, or change nothing
pub record DoneExamples : Type 0 where
  pub attach : IsAskDone (world_of (rows_by once) []) [] (Attach volume_uid n1)
  pub detach : IsAskDone (world_of [] []) (on n1 false ∷ []) (Detach volume_uid n1)
  pub refused : IsAskDone (world_of (rows_by once) []) (on n1 false ∷ []) (Attach volume_uid n2) → ⊥
  pub again : IsAskDone (world_of (rows_by once) []) (on n1 false ∷ []) (Attach volume_uid n1) → ⊥
  pub under_a_mount : IsAskDone (world_of (rows_by once) mounted) (on n1 false ∷ []) (Detach volume_uid n1) → ⊥

-- the pod on the first node has left: the volume moves to the second
pub record TurnExamples : Type 0 where
  pub moves : Turned (world_of (with_pods (Pod second ∷ [])) []) (on n1 false ∷ []) (Detach volume_uid n1 ∷ Attach volume_uid n2 ∷ []) (on n2 false ∷ [])
  pub part : Makes (world_of (with_pods (Pod second ∷ [])) []) (on n1 false ∷ []) (Detach volume_uid n1 ∷ []) []
  -- a turn does not stop there, and does not attach before it detaches
  pub stops : Turned (world_of (with_pods (Pod second ∷ [])) []) (on n1 false ∷ []) (Detach volume_uid n1 ∷ []) [] → ⊥
  pub order : Turned (world_of (with_pods (Pod second ∷ [])) []) (on n1 false ∷ []) (Attach volume_uid n2 ∷ Detach volume_uid n1 ∷ []) (on n2 false ∷ []) → ⊥
  pub nothing : Turned (world_of (rows_by once) []) (on n1 false ∷ []) [] (on n1 false ∷ [])

-- an empty setup
abbrev pub empty : Setup
empty = record { pools = []; faults = []; imports = [] }

-- calls beside a world in which no volume stands: all are refused
pub record MergedExamples : Type 0 where
  pub no_entries : entries (Detaches volume_uid n1 ∷ Attaches volume_uid n1 ∷ []) ≡ []
  pub nothing : attached empty (Detaches volume_uid n1 ∷ Attaches volume_uid n1 ∷ []) ≡ []
