-- What the scheduler chooses for a pod that no node runs: the node to which the pod is bound, the node on which its claims are
-- prepared and what is prepared there, to wait, or no node.
-- Source: Kubernetes documentation, "Volume Binding Mode", and the scheduler's volume binding plugin; that claims are taken by rising
-- size, that nodes are tried by name from the one after the node refused last, and that what stands in a namespace is passed over, is
-- this project's choice.
use Rattle.std.specs.Prelude.{ℕ, ◌≡◌, ◌≢◌, ◌+◌, Bool, true, List, [], ◌∷◌, ◌++◌, Option, Some, None, filter, if◌then◌else◌}
use Rattle.std.specs.List.{list_all, list_any}
use Rattle.std.specs.declared.cmp.Ordering.{Ordering}
use Rattle.std.specs.declared.cmp.Ordering.TheVariants.{Greater}
use Rattle.std.specs.Ordering.{is_gt, nat_cmp, ordering_then}
use Rattle.plain_data.specs.Pairs.{text_cmp}
use Rattle.kube_objects.specs.declared.key.Key.{Key}
use Rattle.kube_parts.specs.declared.parts.Kind.TheVariants as kinds
use Rattle.kube_objects.specs.declared.objects.Claim.{Claim as ClaimData}
use Rattle.kube_objects.specs.declared.objects.Node.{Node as NodeData}
use Rattle.kube_objects.specs.declared.objects.Pod.{Pod as PodData}
use Rattle.kube_objects.specs.declared.objects.Volume.{Volume as VolumeData}
use Rattle.kube_objects.specs.declared.objects.Object.{Object}
use Rattle.kube_objects.specs.declared.objects.Object.TheVariants.{Node, Volume, Claim}
use Rattle.kube_objects.specs.Bindings.{is_completed, is_empty}
use Rattle.kube_objects.specs.Keys.{key_of, meta_of, row_at, rows_of}
use Rattle.binder_model.specs.Choice.{AreShares, IsProvisioned, Share, TakesVolume, by_size, claims_of, fixed_admit, is_other, is_served_elsewhere, is_under_way, lacks_claim, volume_admits}
use Rattle.binder_model.specs.ObjectKeys.{node_key}
use Rattle.volume_match.specs.Volumes.{volume_at}
use Rattle.delayed_binding.specs.declared.choice.Choice.{Choice}
use Rattle.delayed_binding.specs.declared.choice.Choice.TheVariants.{Assign, Prepare, Wait, NoNode}

-- the first that applies: a claim of the pod is absent or deleting; all are completed; one that is not completed is served by the
-- binder and the provisioner alone; each of them is under way; else a node is sought
pub data Stage : Type 0 where
  LacksClaim : Stage
  IsCompleted : Stage
  IsServedElsewhere : Stage
  IsUnderWay : Stage
  IsSearching : Stage

-- how far the claims of a pod have come
abbrev pub stage_with : List Object → List ClaimData → Stage
stage_with rows claims =
    if list_all is_completed claims then IsCompleted
    else if list_any (is_served_elsewhere rows) claims then IsServedElsewhere
    else if list_all (is_under_way rows) claims then IsUnderWay
    else IsSearching

-- how far a pod has come with its claims
abbrev pub stage_of : List Object → PodData → Stage
stage_of rows p = if lacks_claim rows p then LacksClaim else stage_with rows (claims_of rows p)

-- nodes, and the order in which they are tried

-- the node is one of the look-up's. A node has no namespace: what stands in one is passed over, and no store takes it
abbrev pub IsThere : List Object → NodeData → Type 0
IsThere rows n = row_at (node_key n.meta.name) rows ≡ Some (Node n)

-- the node comes, by name, after the one that was refused last
abbrev pub is_past : Option (List ℕ) → NodeData → Bool
is_past None n = true
is_past (Some last) n = is_gt (text_cmp n.meta.name last)

-- such nodes come first
abbrev pub turn_of : Option (List ℕ) → NodeData → ℕ
turn_of last n = if is_past last n then 0 else 1

-- by name, from the node after the one that was refused last, once round
abbrev pub round_cmp : Option (List ℕ) → NodeData → NodeData → Ordering
round_cmp last a b = ordering_then (nat_cmp (turn_of last a) (turn_of last b)) (text_cmp a.meta.name b.meta.name)

-- of the nodes of which P holds, none stands before this one in the round
pub record IsFirstNode (rows : List Object) (last : Option (List ℕ)) (P : NodeData → Type 0) (node : NodeData) : Type 0 where
  pub there : IsThere rows node
  pub holds : P node
  pub first : (other : NodeData) → IsThere rows other → P other → round_cmp last node other ≢ Greater

-- no node has the property
abbrev pub HasNoNode : List Object → (NodeData → Type 0) → Type 0
HasNoNode rows P = (node : NodeData) → IsThere rows node → P node → ⊥

-- the volume of each claim admits the node; a volume that is absent admits none
abbrev pub AreAdmitted : List Object → List ClaimData → NodeData → Type 0
AreAdmitted rows claims n = list_all (volume_admits rows n) claims ≡ true

-- what a node gives to the claims

-- the places of the volumes that stand in a namespace: no claim takes one, since it names its volume by name alone, and no store
-- takes one
abbrev pub places_from : ℕ → List Object → List ℕ
places_from place [] = []
places_from place (o ∷ os) = if is_empty (meta_of o).namespace then places_from (place + 1) os else place ∷ places_from (place + 1) os

-- the places of volumes that no claim may take
abbrev pub set_aside : List Object → List ℕ
set_aside rows = places_from 0 (rows_of kinds.PersistentVolume rows)

-- the claims that are neither completed nor carried by a volume, by rising size and name
abbrev pub others_in : List Object → List ClaimData → List ClaimData
others_in rows claims = by_size (filter (is_other rows) claims)

-- the volumes of completed claims, and those that carry a claim of the pod, admit the node; each other claim in turn takes the best
-- eligible volume that no earlier one has, or is to be provisioned where there is none
pub record ServesAll (rows : List Object) (claims : List ClaimData) (node : NodeData) (shares : List Share) : Type 0 where
  pub fixed : list_all (fixed_admit rows node) claims ≡ true
  pub shared : AreShares rows node (set_aside rows) (others_in rows claims) shares

-- the node serves these claims
abbrev pub ServesClaims : List Object → List ClaimData → NodeData → Type 0
ServesClaims rows claims node = (shares : List Share) × ServesAll rows claims node shares

-- what is prepared: the keys of each claim that takes a volume and of its volume, and of each that is to be provisioned

-- the claim with the volume, if there is one
abbrev pub pair_of : ClaimData → Option VolumeData → List (Key × Key)
pair_of c None = []
pair_of c (Some v) = (key_of (Claim c), key_of (Volume v)) ∷ []

-- the claims and the volumes that they take
abbrev pub binds_of : List Object → List ClaimData → List Share → List (Key × Key)
binds_of rows (c ∷ cs) (TakesVolume place ∷ shares) = pair_of c (volume_at rows place) ++ binds_of rows cs shares
binds_of rows (c ∷ cs) (IsProvisioned ∷ shares) = binds_of rows cs shares
binds_of rows _ _ = []

-- the claims for which a volume is to be provisioned
abbrev pub provisions_of : List ClaimData → List Share → List Key
provisions_of (c ∷ cs) (TakesVolume place ∷ shares) = provisions_of cs shares
provisions_of (c ∷ cs) (IsProvisioned ∷ shares) = key_of (Claim c) ∷ provisions_of cs shares
provisions_of _ _ = []

-- the binds and provisions are those by which the node serves the claims
pub record Prepares (rows : List Object) (claims : List ClaimData) (node : NodeData) (binds : List (Key × Key)) (provisions : List Key) : Type 0 where
  pub shares : List Share
  pub serves : ServesAll rows claims node shares
  pub binds_are : binds ≡ binds_of rows (others_in rows claims) shares
  pub provisions_are : provisions ≡ provisions_of (others_in rows claims) shares

-- this is prepared on the node
abbrev pub IsPreparing : List Object → List ClaimData → NodeData → Choice → Type 0
IsPreparing rows claims n (Prepare name binds provisions) = (name ≡ n.meta.name) × Prepares rows claims n binds provisions
IsPreparing rows claims n choice = ⊥

-- what is prepared on the node, or none where it does not serve the claims
abbrev pub IsPreparedOn : List Object → List ClaimData → NodeData → Option Choice → Type 0
IsPreparedOn rows claims n (Some choice) = IsPreparing rows claims n choice
IsPreparedOn rows claims n None = ServesClaims rows claims n → ⊥

-- the choice

-- the node with this name is the first by name that all volumes admit
pub record IsAssigned (rows : List Object) (claims : List ClaimData) (name : List ℕ) : Type 0 where
  pub node : NodeData
  pub named : name ≡ node.meta.name
  pub first : IsFirstNode rows None (AreAdmitted rows claims) node

-- the node with this name is the first in the round that serves all claims, and this is prepared there
pub record IsPrepared (rows : List Object) (claims : List ClaimData) (last : Option (List ℕ)) (name : List ℕ) (binds : List (Key × Key)) (provisions : List Key) : Type 0 where
  pub node : NodeData
  pub named : name ≡ node.meta.name
  pub first : IsFirstNode rows last (ServesClaims rows claims) node
  pub prepares : Prepares rows claims node binds provisions

-- what is chosen at a stage
abbrev pub IsChoiceAt : Stage → List Object → List ClaimData → Option (List ℕ) → Choice → Type 0
IsChoiceAt LacksClaim rows claims last choice = choice ≡ NoNode
IsChoiceAt IsCompleted rows claims last (Assign name) = IsAssigned rows claims name
IsChoiceAt IsCompleted rows claims last NoNode = HasNoNode rows (AreAdmitted rows claims)
IsChoiceAt IsCompleted rows claims last choice = ⊥
IsChoiceAt IsServedElsewhere rows claims last choice = choice ≡ Wait
IsChoiceAt IsUnderWay rows claims last choice = choice ≡ Wait
IsChoiceAt IsSearching rows claims last (Prepare name binds provisions) = IsPrepared rows claims last name binds provisions
IsChoiceAt IsSearching rows claims last NoNode = HasNoNode rows (ServesClaims rows claims)
IsChoiceAt IsSearching rows claims last choice = ⊥

-- what is chosen for the pod on these rows, where `last` is the node that was refused last for one of its claims
abbrev pub IsChoice : List Object → PodData → Option (List ℕ) → Choice → Type 0
IsChoice rows p last choice = IsChoiceAt (stage_of rows p) rows (claims_of rows p) last choice
