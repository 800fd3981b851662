-- A word names the value that has it, and nothing else.
use Rattle.std.proofs.Common.{◌≡◌, ℕ, Bool, true, false, List, [], ◌∷◌, Some, refl, ◌∙◌, ap, bytes_eq, if◌then◌else◌}
use Rattle.std.proofs.lemmas.Slice.Eq.{bytes_eq-Decides}
use Rattle.kube_parts.specs.declared.parts.Kind.{Kind}
use Rattle.kube_parts.specs.declared.parts.Kind.TheVariants as kinds
use Rattle.kube_parts.specs.declared.parts.Policy.{Policy}
use Rattle.kube_parts.specs.declared.parts.Policy.TheVariants as policies
use Rattle.kube_parts.specs.declared.parts.VolumePhase.{VolumePhase}
use Rattle.kube_parts.specs.declared.parts.VolumePhase.TheVariants as volume_phases
use Rattle.kube_parts.specs.declared.parts.ClaimPhase.{ClaimPhase}
use Rattle.kube_parts.specs.declared.parts.ClaimPhase.TheVariants as claim_phases
use Rattle.kube_parts.specs.declared.parts.Op.{Op}
use Rattle.kube_parts.specs.declared.parts.Op.TheVariants as ops
use Rattle.kube_parts.specs.Words.{kind_word, policy_word, volume_mode, binding_mode, volume_phase_word, claim_phase_word, op_word}
use Rattle.kube_parts.specs.Named.{
  value_named,
  all_kinds,
  all_policies,
  both,
  all_volume_phases,
  all_claim_phases,
  all_operators,
  kind_named,
  policy_named,
  block_named,
  delayed_named,
  volume_phase_named,
  claim_phase_named,
  op_named,
  AreInverse,
}

-- whatever the values are, the one that is named has the word
named_has : {X : Type 0} (word : X → List ℕ) (xs : List X) (text : List ℕ) (x : X) → value_named word xs text ≡ Some x → text ≡ word x
named_has word [] text x h = absurd cc
named_has word (y ∷ ys) text x h = by (bytes_eq text (word y)) refl h (named_has word ys text x)
  where
    by : (b : Bool) → bytes_eq text (word y) ≡ b → (if b then Some y else value_named word ys text) ≡ Some x → (value_named word ys text ≡ Some x → text ≡ word x) → text ≡ word x
    by true e h rest = (bytes_eq-Decides text (word y)).0 e ∙ ap word cc
    by false e h rest = rest h

pub kinds_inverse : AreInverse kind_word kind_named
kinds_inverse = record { back = back; only = λ text x h. named_has kind_word all_kinds text x h }
  where
    back : (k : Kind) → kind_named (kind_word k) ≡ Some k
    back kinds.StorageClass = refl
    back kinds.Node = refl
    back kinds.PersistentVolume = refl
    back kinds.PersistentVolumeClaim = refl
    back kinds.Pod = refl

pub policies_inverse : AreInverse policy_word policy_named
policies_inverse = record { back = back; only = λ text x h. named_has policy_word all_policies text x h }
  where
    back : (p : Policy) → policy_named (policy_word p) ≡ Some p
    back policies.Retain = refl
    back policies.Delete = refl
    back policies.Recycle = refl

pub blocks_inverse : AreInverse volume_mode block_named
blocks_inverse = record { back = back; only = λ text x h. named_has volume_mode both text x h }
  where
    back : (b : Bool) → block_named (volume_mode b) ≡ Some b
    back false = refl
    back true = refl

pub delays_inverse : AreInverse binding_mode delayed_named
delays_inverse = record { back = back; only = λ text x h. named_has binding_mode both text x h }
  where
    back : (b : Bool) → delayed_named (binding_mode b) ≡ Some b
    back false = refl
    back true = refl

pub volume_phases_inverse : AreInverse volume_phase_word volume_phase_named
volume_phases_inverse = record { back = back; only = λ text x h. named_has volume_phase_word all_volume_phases text x h }
  where
    back : (p : VolumePhase) → volume_phase_named (volume_phase_word p) ≡ Some p
    back volume_phases.Pending = refl
    back volume_phases.Available = refl
    back volume_phases.Bound = refl
    back volume_phases.Released = refl
    back volume_phases.Failed = refl

pub claim_phases_inverse : AreInverse claim_phase_word claim_phase_named
claim_phases_inverse = record { back = back; only = λ text x h. named_has claim_phase_word all_claim_phases text x h }
  where
    back : (p : ClaimPhase) → claim_phase_named (claim_phase_word p) ≡ Some p
    back claim_phases.Pending = refl
    back claim_phases.Bound = refl
    back claim_phases.Lost = refl

pub ops_inverse : AreInverse op_word op_named
ops_inverse = record { back = back; only = λ text x h. named_has op_word all_operators text x h }
  where
    back : (o : Op) → op_named (op_word o) ≡ Some o
    back ops.In = refl
    back ops.NotIn = refl
    back ops.Exists = refl
    back ops.DoesNotExist = refl
