-- The nodes of a look-up by their places, and what a scan of them finds. A choice of this project.
use Rattle.std.specs.Prelude.{ℕ, ◌≡◌, ◌<◌, Bool, List, Option, Some, None, slice_get, if◌then◌else◌}
use Rattle.std.specs.Bool.{beq}
use Rattle.kube_parts.specs.declared.parts.Kind.TheVariants as kinds
use Rattle.kube_objects.specs.declared.objects.Claim.{Claim as ClaimData}
use Rattle.kube_objects.specs.declared.objects.Node.{Node as NodeData}
use Rattle.kube_objects.specs.declared.objects.Object.{Object}
use Rattle.kube_objects.specs.declared.objects.Object.TheVariants.{Node}
use Rattle.kube_objects.specs.Bindings.{is_empty}
use Rattle.kube_objects.specs.Keys.{rows_of}
use Rattle.delayed_binding.specs.declared.choice.Choice.{Choice}
use Rattle.delayed_binding.specs.Choices.{HasNoNode, IsFirstNode, IsPreparing, ServesClaims, is_past}

-- a node that stands in no namespace
abbrev pub as_node : Option Object → Option NodeData
as_node (Some (Node n)) = if is_empty n.meta.namespace then Some n else None
as_node _ = None

-- the node at a place among the nodes
abbrev pub node_at : List Object → ℕ → Option NodeData
node_at rows place = as_node (slice_get (rows_of kinds.Node rows) place)

-- the node, where it is one of those past the node that was refused last, or one of the others
abbrev pub in_turn : Option (List ℕ) → Bool → Option NodeData → Option NodeData
in_turn last past None = None
in_turn last past (Some n) = if beq (is_past last n) past then Some n else None

-- P holds of no node at a place below the bound
abbrev pub NoneBelow : List Object → (NodeData → Type 0) → ℕ → Type 0
NoneBelow rows P bound = (place : ℕ) → place < bound → (n : NodeData) → node_at rows place ≡ Some n → P n → ⊥

-- the node at the place, where P holds of it
abbrev pub IsNodeAt : List Object → (NodeData → Type 0) → ℕ → Option NodeData → Type 0
IsNodeAt rows P place (Some n) = (node_at rows place ≡ Some n) × P n
IsNodeAt rows P place None = (n : NodeData) → node_at rows place ≡ Some n → P n → ⊥

-- the first node by name of which P holds, or none where it holds of none
abbrev pub IsFirstOrNone : List Object → (NodeData → Type 0) → Option NodeData → Type 0
IsFirstOrNone rows P (Some n) = IsFirstNode rows None P n
IsFirstOrNone rows P None = HasNoNode rows P

-- a node of the turn that serves the claims
pub record ServesInTurn (rows : List Object) (claims : List ClaimData) (last : Option (List ℕ)) (past : Bool) (n : NodeData) : Type 0 where
  pub turn : is_past last n ≡ past
  pub serves : ServesClaims rows claims n

-- the first node of the turn that serves the claims, with what is prepared there
pub record IsFoundInTurn (rows : List Object) (claims : List ClaimData) (last : Option (List ℕ)) (past : Bool) (choice : Choice) : Type 0 where
  pub place : ℕ
  pub node : NodeData
  pub there : node_at rows place ≡ Some node
  pub turn : is_past last node ≡ past
  pub preparing : IsPreparing rows claims node choice
  pub first : NoneBelow rows (ServesInTurn rows claims last past) place

-- the choice of the first node in turn that serves, or none where no node does
abbrev pub IsFirstInTurn : List Object → List ClaimData → Option (List ℕ) → Bool → Option Choice → Type 0
IsFirstInTurn rows claims last past (Some choice) = IsFoundInTurn rows claims last past choice
IsFirstInTurn rows claims last past None = HasNoNode rows (ServesInTurn rows claims last past)
