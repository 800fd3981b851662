-- What is done about a key, on the look-up alone. Source: `syncVolume`, `syncUnboundClaim` and `syncBoundClaim` of `pv_controller.go`. That a
-- claim is not Lost by what the look-up shows of its volume, but by what a read shows, is a choice of this project.
use Rattle.std.specs.Prelude.{ℕ, ◌≡◌, Bool, true, false, List, Option, Some, None, slice_get}
use Rattle.kube_parts.specs.declared.parts.Kind.TheVariants as kinds
use Rattle.kube_types.specs.declared.lookup.Live.TheVariants.{NotAsked}
use Rattle.kube_objects.specs.declared.objects.Ref.{Ref}
use Rattle.kube_objects.specs.declared.objects.Volume.{Volume as VolumeData}
use Rattle.kube_objects.specs.declared.objects.Claim.{Claim as ClaimData}
use Rattle.kube_objects.specs.declared.objects.Class.{Class as ClassData}
use Rattle.kube_objects.specs.declared.objects.Object.{Object}
use Rattle.kube_objects.specs.declared.objects.Object.TheVariants.{Volume, Claim}
use Rattle.kube_objects.specs.Keys.{rows_of}
use Rattle.kube_types.specs.Defaults.{IsDefaultOf, StandsIn}
use Rattle.kube_objects.specs.Bindings.{is_empty}
use Rattle.binder_model.specs.ObjectKeys.{claim_key}
use Rattle.claim_sync.specs.ClaimDecision.{IsVolumeFor, claim_decision}
use Rattle.claim_sync.specs.declared.action.ClaimStep.{ClaimStep}
use Rattle.claim_sync.specs.declared.action.ClaimStep.TheVariants as steps
use Rattle.volume_sync.specs.VolumeDecision.{volume_decision}
use Rattle.volume_sync.specs.declared.action.VolumeAction.{VolumeAction}
use Rattle.volume_sync.specs.declared.action.VolumeAction.TheVariants as actions
use Rattle.binder_machines.specs.declared.decide.FirstMachine.{FirstMachine}
use Rattle.binder_machines.specs.declared.decide.FirstMachine.TheVariants.{Drops, Queues, Begins}
use Rattle.binder_machines.specs.declared.machine.Machine.{Machine}
use Rattle.binder_machines.specs.declared.machine.Machine.TheVariants.{Binds, ReadsVolume, AssignsClass, Loses}
use Rattle.binder_machines.specs.Machines.{machine_for}

-- what begins: a machine, or nothing
abbrev pub first_of : Option Machine → FirstMachine
first_of None = Drops
first_of (Some machine) = Begins machine

-- volumes

-- the claim that the reference names is to be decided
abbrev pub queue_of : Option Ref → FirstMachine
queue_of None = Drops
queue_of (Some r) = Queues (claim_key r.namespace r.name)

-- what begins for a volume
abbrev pub volume_first : VolumeData → VolumeAction → FirstMachine
volume_first v actions.QueueClaim = queue_of v.claim_ref
volume_first v action = first_of (machine_for v action)

-- claims

-- a claim that names a volume is Lost only once the volume was read by itself
abbrev pub lost_for : Bool → ClaimData → Machine
lost_for true c = Loses c
lost_for false c = ReadsVolume c

-- where nothing is to be bound or assigned
abbrev pub claim_first : ClaimData → ClaimStep → FirstMachine
claim_first c steps.ReadVolume = Begins (ReadsVolume c)
claim_first c steps.Lost = Begins (lost_for (is_empty c.volume_name) c)
claim_first c _ = Drops

-- the volume to which the claim is to be bound: the best match where the claim names none, else the one that it names
pub record IsBindingTo (rows : List Object) (c : ClaimData) (first : FirstMachine) : Type 0 where
  pub place : ℕ
  pub choice : IsVolumeFor (is_empty c.volume_name) rows c (Some place)
  pub volume : VolumeData
  pub there : slice_get (rows_of kinds.PersistentVolume rows) place ≡ Some (Volume volume)
  pub begins : first ≡ Begins (Binds volume c)

-- the class that the claim is to get: the default one of the look-up
pub record IsAssignmentOf (rows : List Object) (c : ClaimData) (first : FirstMachine) : Type 0 where
  pub class : ClassData
  pub default : IsDefaultOf (StandsIn rows) class
  pub begins : first ≡ Begins (AssignsClass c class)

-- what begins for a claim
abbrev pub IsClaimFirst : List Object → ClaimData → ClaimStep → FirstMachine → Type 0
IsClaimFirst rows c steps.Bind first = IsBindingTo rows c first
IsClaimFirst rows c steps.AssignClass first = IsAssignmentOf rows c first
IsClaimFirst rows c step first = first ≡ claim_first c step

-- what is done about the key of this row: a machine begins, another key is queued, or nothing is done
abbrev pub IsFirst : List Object → Option Object → FirstMachine → Type 0
IsFirst rows (Some (Volume v)) first = first ≡ volume_first v (volume_decision rows v NotAsked)
IsFirst rows (Some (Claim c)) first = IsClaimFirst rows c (claim_decision rows c NotAsked) first
IsFirst rows row first = first ≡ Drops
