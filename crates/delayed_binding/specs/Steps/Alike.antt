-- Nodes that all volumes admit alike, and what is seen of a node before and after its volumes are given. A choice of this project.
use Rattle.std.specs.Prelude.{ℕ, ◌≡◌, Bool, true, false, List, Option, Some, None, IfSome}
use Rattle.std.specs.Bool.{beq}
use Rattle.std.specs.List.{list_all}
use Rattle.kube_objects.specs.declared.key.Key.{Key}
use Rattle.kube_objects.specs.declared.objects.Claim.{Claim as ClaimData}
use Rattle.kube_objects.specs.declared.objects.Node.{Node as NodeData}
use Rattle.kube_objects.specs.declared.objects.Object.{Object}
use Rattle.kube_objects.specs.declared.objects.Volume.{Volume as VolumeData}
use Rattle.label_rules.specs.Selectors.{admits}
use Rattle.binder_model.specs.Choice.{AreShares, Share, fixed_admit}
use Rattle.volume_match.specs.Volumes.{volume_at}
use Rattle.delayed_binding.specs.declared.choice.Choice.{Choice}
use Rattle.delayed_binding.specs.declared.choice.Choice.TheVariants.{Prepare}
use Rattle.delayed_binding.specs.Choices.{ServesClaims, binds_of, provisions_of, set_aside}
use Rattle.delayed_binding.specs.Steps.Sharing.{HaveNoShares}

-- the volume admits both nodes or neither
abbrev pub admits_alike : NodeData → NodeData → VolumeData → Bool
admits_alike one other v = beq (admits v.terms one.meta.labels) (admits v.terms other.meta.labels)

-- so does the volume there, if there is one
abbrev pub alike_at : NodeData → NodeData → Option VolumeData → Bool
alike_at one other None = true
alike_at one other (Some v) = admits_alike one other v

-- each volume admits both nodes or neither
abbrev pub AreAlike : List Object → NodeData → NodeData → Type 0
AreAlike rows one other = (place : ℕ) → alike_at one other (volume_at rows place) ≡ true

-- so is it with the node that was refused, if there is one
abbrev pub IsLikeOne : List Object → Option NodeData → NodeData → Type 0
IsLikeOne rows None n = ⊥
IsLikeOne rows (Some refused) n = AreAlike rows refused n

-- the node that was refused, if there is one, has no shares for these claims
abbrev pub HasRefused : List Object → List ClaimData → Option NodeData → Type 0
HasRefused rows others refused = IfSome refused (λ n. HaveNoShares rows n others)

-- the node does not serve all claims; else the volumes that are fixed for them admit it
abbrev pub IsBarred : List Object → List ClaimData → NodeData → Bool → Type 0
IsBarred rows claims n true = ServesClaims rows claims n → ⊥
IsBarred rows claims n false = list_all (fixed_admit rows n) claims ≡ true

-- the node, where the volumes that are fixed for the claims admit it; none where it does not serve all claims
abbrev pub IsOpenNode : List Object → List ClaimData → Option NodeData → Option NodeData → Type 0
IsOpenNode rows claims node (Some n) = (node ≡ Some n) × (list_all (fixed_admit rows n) claims ≡ true)
IsOpenNode rows claims node None = (n : NodeData) → node ≡ Some n → ServesClaims rows claims n → ⊥

-- what the node gives to claims that are in order
pub record Gives (rows : List Object) (others : List ClaimData) (node : NodeData) (binds : List (Key × Key)) (provisions : List Key) : Type 0 where
  pub shares : List Share
  pub are : AreShares rows node (set_aside rows) others shares
  pub binds_are : binds ≡ binds_of rows others shares
  pub provisions_are : provisions ≡ provisions_of others shares

-- the choice prepares the claims for this node
abbrev pub IsGiving : List Object → List ClaimData → NodeData → Choice → Type 0
IsGiving rows others n (Prepare name binds provisions) = (name ≡ n.meta.name) × Gives rows others n binds provisions
IsGiving rows others n choice = ⊥

-- what the node gives to the claims, or none where they can have no shares there
abbrev pub IsGivenOn : List Object → List ClaimData → NodeData → Option Choice → Type 0
IsGivenOn rows others n (Some choice) = IsGiving rows others n choice
IsGivenOn rows others n None = HaveNoShares rows n others
