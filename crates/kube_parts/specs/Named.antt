-- The value that a printed word names: the words of `Words`, read back. Each word stands there alone.
-- A choice of this project; the sources of the words stand in `Words`.
use Rattle.std.specs.Prelude.{◌≡◌, ℕ, List, [], ◌∷◌, Bool, true, false, Option, Some, None, bytes_eq, if◌then◌else◌}
use Rattle.kube_parts.specs.declared.parts.Kind.{Kind}
use Rattle.kube_parts.specs.declared.parts.Kind.TheVariants as kinds
use Rattle.kube_parts.specs.declared.parts.Policy.{Policy}
use Rattle.kube_parts.specs.declared.parts.Policy.TheVariants as policies
use Rattle.kube_parts.specs.declared.parts.VolumePhase.{VolumePhase}
use Rattle.kube_parts.specs.declared.parts.VolumePhase.TheVariants as volume_phases
use Rattle.kube_parts.specs.declared.parts.ClaimPhase.{ClaimPhase}
use Rattle.kube_parts.specs.declared.parts.ClaimPhase.TheVariants as claim_phases
use Rattle.kube_parts.specs.declared.parts.Op.{Op}
use Rattle.kube_parts.specs.declared.parts.Op.TheVariants as ops
use Rattle.kube_parts.specs.Words.{kind_word, policy_word, volume_mode, binding_mode, volume_phase_word, claim_phase_word, op_word}

-- the first of these values that has the word
abbrev pub value_named : {X : Type 0} → (X → List ℕ) → List X → List ℕ → Option X
value_named word [] text = None
value_named word (x ∷ xs) text = if bytes_eq text (word x) then Some x else value_named word xs text

-- each kind
abbrev pub all_kinds : List Kind
all_kinds = kinds.StorageClass ∷ kinds.Node ∷ kinds.PersistentVolume ∷ kinds.PersistentVolumeClaim ∷ kinds.Pod ∷ []

-- the kind that the word names
abbrev pub kind_named : List ℕ → Option Kind
kind_named text = value_named kind_word all_kinds text

-- each reclaim policy
abbrev pub all_policies : List Policy
all_policies = policies.Retain ∷ policies.Delete ∷ policies.Recycle ∷ []

-- the reclaim policy that the word names
abbrev pub policy_named : List ℕ → Option Policy
policy_named text = value_named policy_word all_policies text

-- no and yes
abbrev pub both : List Bool
both = false ∷ true ∷ []

-- whether the volume is a block device
abbrev pub block_named : List ℕ → Option Bool
block_named text = value_named volume_mode both text

-- whether binding waits for the first pod
abbrev pub delayed_named : List ℕ → Option Bool
delayed_named text = value_named binding_mode both text

-- each phase of a volume
abbrev pub all_volume_phases : List VolumePhase
all_volume_phases = volume_phases.Pending ∷ volume_phases.Available ∷ volume_phases.Bound ∷ volume_phases.Released ∷ volume_phases.Failed ∷ []

-- the phase of a volume that the word names
abbrev pub volume_phase_named : List ℕ → Option VolumePhase
volume_phase_named text = value_named volume_phase_word all_volume_phases text

-- each phase of a claim
abbrev pub all_claim_phases : List ClaimPhase
all_claim_phases = claim_phases.Pending ∷ claim_phases.Bound ∷ claim_phases.Lost ∷ []

-- the phase of a claim that the word names
abbrev pub claim_phase_named : List ℕ → Option ClaimPhase
claim_phase_named text = value_named claim_phase_word all_claim_phases text

-- each operator of selectors
abbrev pub all_operators : List Op
all_operators = ops.In ∷ ops.NotIn ∷ ops.Exists ∷ ops.DoesNotExist ∷ []

-- the operator that the word names
abbrev pub op_named : List ℕ → Option Op
op_named text = value_named op_word all_operators text

-- a word names the value that has it, and nothing else
pub record AreInverse {X : Type 0} (word : X → List ℕ) (named : List ℕ → Option X) : Type 0 where
  pub back : (x : X) → named (word x) ≡ Some x
  pub only : (text : List ℕ) (x : X) → named text ≡ Some x → text ≡ word x
