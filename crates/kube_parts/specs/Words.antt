-- The printed words.
-- Source: Kubernetes API, for its kinds and values; the words of refusals and rules are a choice of this project.
use Rattle.std.specs.Prelude.{ℕ, List, [], ◌∷◌, ◌++◌, Bool, true, false, if◌then◌else◌, codes}
use Rattle.kube_parts.specs.declared.parts.Modes.{Modes}
use Rattle.kube_parts.specs.declared.parts.Kind.{Kind}
use Rattle.kube_parts.specs.declared.parts.Kind.TheVariants as kinds
use Rattle.kube_parts.specs.declared.parts.Policy.{Policy}
use Rattle.kube_parts.specs.declared.parts.Policy.TheVariants as policies
use Rattle.kube_parts.specs.declared.parts.VolumePhase.{VolumePhase}
use Rattle.kube_parts.specs.declared.parts.VolumePhase.TheVariants as volume_phases
use Rattle.kube_parts.specs.declared.parts.ClaimPhase.{ClaimPhase}
use Rattle.kube_parts.specs.declared.parts.ClaimPhase.TheVariants as claim_phases
use Rattle.kube_parts.specs.declared.parts.SourceKind.{SourceKind}
use Rattle.kube_parts.specs.declared.parts.SourceKind.TheVariants as sources
use Rattle.kube_parts.specs.declared.parts.Op.{Op}
use Rattle.kube_parts.specs.declared.parts.Op.TheVariants as ops
use Rattle.kube_parts.specs.declared.names.Field.{Field}
use Rattle.kube_parts.specs.declared.names.Field.TheVariants as fields
use Rattle.kube_parts.specs.declared.names.Rule.{Rule}
use Rattle.kube_parts.specs.declared.names.Rule.TheVariants as rules
use Rattle.kube_parts.specs.declared.names.LicenceRule.{LicenceRule}
use Rattle.kube_parts.specs.declared.names.LicenceRule.TheVariants as licences
use Rattle.kube_parts.specs.declared.names.Due.{Due}
use Rattle.kube_parts.specs.declared.names.Due.TheVariants as dues

-- Kubernetes API: the kinds
abbrev pub kind_word : Kind → List ℕ
kind_word kinds.StorageClass = codes "StorageClass"
kind_word kinds.Node = codes "Node"
kind_word kinds.PersistentVolume = codes "PersistentVolume"
kind_word kinds.PersistentVolumeClaim = codes "PersistentVolumeClaim"
kind_word kinds.Pod = codes "Pod"

-- Kubernetes API: persistentVolumeReclaimPolicy
abbrev pub policy_word : Policy → List ℕ
policy_word policies.Retain = codes "Retain"
policy_word policies.Delete = codes "Delete"
policy_word policies.Recycle = codes "Recycle"

-- Kubernetes API: volumeMode, a block device or a file system
abbrev pub volume_mode : Bool → List ℕ
volume_mode false = codes "Filesystem"
volume_mode true = codes "Block"

-- Kubernetes API: volumeBindingMode, whether binding waits for the first pod
abbrev pub binding_mode : Bool → List ℕ
binding_mode false = codes "Immediate"
binding_mode true = codes "WaitForFirstConsumer"

-- Kubernetes API: PersistentVolumePhase
abbrev pub volume_phase_word : VolumePhase → List ℕ
volume_phase_word volume_phases.Pending = codes "Pending"
volume_phase_word volume_phases.Available = codes "Available"
volume_phase_word volume_phases.Bound = codes "Bound"
volume_phase_word volume_phases.Released = codes "Released"
volume_phase_word volume_phases.Failed = codes "Failed"

-- Kubernetes API: PersistentVolumeClaimPhase
abbrev pub claim_phase_word : ClaimPhase → List ℕ
claim_phase_word claim_phases.Pending = codes "Pending"
claim_phase_word claim_phases.Bound = codes "Bound"
claim_phase_word claim_phases.Lost = codes "Lost"

-- Kubernetes API: the members of a persistent volume source
abbrev pub source_word : SourceKind → List ℕ
source_word sources.Csi = codes "csi"
source_word sources.Nfs = codes "nfs"
source_word sources.Local = codes "local"
source_word sources.HostPath = codes "hostPath"

-- Kubernetes API: the operators of selectors of labels and of nodes
abbrev pub op_word : Op → List ℕ
op_word ops.In = codes "In"
op_word ops.NotIn = codes "NotIn"
op_word ops.Exists = codes "Exists"
op_word ops.DoesNotExist = codes "DoesNotExist"

-- the fields that a request is refused for, a choice of this project
abbrev pub field_word : Field → List ℕ
field_word fields.Name = codes "Name"
field_word fields.Namespace = codes "Namespace"
field_word fields.Capacity = codes "Capacity"
field_word fields.Request = codes "Request"
field_word fields.AccessModes = codes "AccessModes"
field_word fields.ClaimRef = codes "ClaimRef"
field_word fields.Provisioner = codes "Provisioner"
field_word fields.NodeName = codes "NodeName"
field_word fields.Claims = codes "Claims"
field_word fields.Finalizers = codes "Finalizers"
field_word fields.Time = codes "Time"
field_word fields.Kind = codes "Kind"
field_word fields.From = codes "From"
field_word fields.Spec = codes "Spec"
field_word fields.VolumeName = codes "VolumeName"
field_word fields.Source = codes "Source"
field_word fields.VolumeMode = codes "VolumeMode"
field_word fields.NodeAffinity = codes "NodeAffinity"
field_word fields.Parameters = codes "Parameters"
field_word fields.Policy = codes "Policy"
field_word fields.BindingMode = codes "BindingMode"
field_word fields.Deletion = codes "Deletion"

-- the rules of the guard, a choice of this project
abbrev pub rule_word : Rule → List ℕ
rule_word rules.Verb = codes "Verb"
rule_word rules.Annotation = codes "Annotation"
rule_word rules.Finalizer = codes "Finalizer"
rule_word rules.ClaimRef = codes "ClaimRef"
rule_word rules.Policy = codes "Policy"

-- the rows of the licence, a choice of this project
abbrev pub licence_word : LicenceRule → List ℕ
licence_word licences.ClaimRef = codes "ClaimRef"
licence_word licences.PhaseBound = codes "PhaseBound"
licence_word licences.Completion = codes "Completion"
licence_word licences.DefaultClass = codes "DefaultClass"
licence_word licences.Available = codes "Available"
licence_word licences.Released = codes "Released"
licence_word licences.Failed = codes "Failed"
licence_word licences.Unbind = codes "Unbind"
licence_word licences.DropVolumeGuard = codes "DropVolumeGuard"
licence_word licences.DropClaimGuard = codes "DropClaimGuard"
licence_word licences.AddGuard = codes "AddGuard"
licence_word licences.Provision = codes "Provision"
licence_word licences.CreateVolume = codes "CreateVolume"
licence_word licences.Erase = codes "Erase"
licence_word licences.DeleteVolume = codes "DeleteVolume"
licence_word licences.Lost = codes "Lost"
licence_word licences.ClaimStatus = codes "ClaimStatus"
licence_word licences.SelectedNode = codes "SelectedNode"
licence_word licences.BindPod = codes "BindPod"
licence_word licences.Mount = codes "Mount"
licence_word licences.FinishPod = codes "FinishPod"
licence_word licences.Reading = codes "Reading"
licence_word licences.Kind = codes "Kind"

-- the due actions, a choice of this project
abbrev pub due_word : Due → List ℕ
due_word dues.Available = codes "Available"
due_word dues.Bound = codes "Bound"
due_word dues.Release = codes "Release"
due_word dues.Unbind = codes "Unbind"
due_word dues.Reclaim = codes "Reclaim"
due_word dues.Guard = codes "Guard"
due_word dues.Unguard = codes "Unguard"
due_word dues.Bind = codes "Bind"
due_word dues.AssignClass = codes "AssignClass"
due_word dues.Lost = codes "Lost"
due_word dues.Provision = codes "Provision"
due_word dues.ClearNode = codes "ClearNode"
due_word dues.Prepare = codes "Prepare"
due_word dues.Assign = codes "Assign"
due_word dues.Mount = codes "Mount"
due_word dues.Finish = codes "Finish"

-- a word that stands only where it is wanted
abbrev pub words_if : Bool → List ℕ → List (List ℕ)
words_if wanted word = if wanted then word ∷ [] else []

-- Kubernetes API: the access modes, in the order in which they are printed
abbrev pub mode_words : Modes → List (List ℕ)
mode_words m =
    ((words_if m.rwo (codes "ReadWriteOnce") ++ words_if m.rox (codes "ReadOnlyMany"))
    ++ words_if m.rwx (codes "ReadWriteMany"))
    ++ words_if m.rwop (codes "ReadWriteOncePod")
