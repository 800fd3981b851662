-- Delayed binding: what the scheduler does for a pod that no node runs, step by step.
-- Source: Kubernetes documentation, "Volume Binding Mode", and the scheduler's volume binding plugin; which node is tried
-- first, and that claims are taken by rising size, is this project's choice.
use Rattle.std.specs.Prelude.{ℕ, ◌≡◌, Bool, true, false, not, ◌&&◌, ◌||◌, List, [], ◌∷◌, Option, Some, None, is_none, filter, filter_map, if◌then◌else◌, ⊤}
use Rattle.std.specs.List.{list_all, list_any}
use Rattle.std.specs.declared.cmp.Ordering.{Ordering}
use Rattle.std.specs.Ordering.{nat_cmp, ordering_then, is_gt}
use Rattle.plain_data.specs.Pairs.{text_cmp}
use Rattle.kube_parts.specs.declared.parts.Kind.TheVariants as kinds
use Rattle.kube_objects.specs.declared.objects.Claim.{Claim as ClaimData}
use Rattle.kube_objects.specs.declared.objects.Node.{Node as NodeData}
use Rattle.kube_objects.specs.declared.objects.Pod.{Pod as PodData}
use Rattle.kube_objects.specs.declared.objects.Object.{Object}
use Rattle.kube_objects.specs.declared.objects.Object.TheVariants.{Class, Node, Volume, Claim}
use Rattle.kube_objects.specs.Keys.{row_at, rows_of}
use Rattle.kube_objects.specs.Bindings.{selected_node, has_key, class_of_claim, is_completed, is_deleting, is_empty, carries}
use Rattle.label_rules.specs.Selectors.{admits}
use Rattle.binder_model.specs.ObjectKeys.{class_key, claim_key, volume_key}
use Rattle.binder_model.specs.Matching.{IsBest, is_delayed}
use Rattle.binder_model.specs.Provisioning.{provisions}

-- the claim that stands there, if it is one
abbrev pub claim_in : Option Object → Option ClaimData
claim_in (Some (Claim c)) = Some c
claim_in _ = None

-- the claim of this namespace and name, if it stands
abbrev pub claim_named : List Object → List ℕ → List ℕ → Option ClaimData
claim_named rows namespace name = claim_in (row_at (claim_key namespace name) rows)

-- the claims of the pod, in order, each where it stands
abbrev pub claims_of : List Object → PodData → List ClaimData
claims_of rows p = filter_map (claim_named rows p.meta.namespace) p.claims

-- step 1: a claim of the pod is absent or deleting
abbrev pub is_missing : Option ClaimData → Bool
is_missing None = true
is_missing (Some c) = is_deleting c.meta

-- some claim of the pod is absent or deleting
abbrev pub lacks_claim : List Object → PodData → Bool
lacks_claim rows p = list_any (λ name. is_missing (claim_named rows p.meta.namespace name)) p.claims

-- step 2: all claims are completed; the node is the first that every claim's volume admits. A volume that is absent admits none
abbrev pub admits_node : Option Object → NodeData → Bool
admits_node (Some (Volume v)) n = admits v.terms n.meta.labels
admits_node _ n = false

-- the volume that the claim names is there and admits the node
abbrev pub volume_admits : List Object → NodeData → ClaimData → Bool
volume_admits rows n c = admits_node (row_at (volume_key c.volume_name) rows) n

-- the object is a node that the volumes of all claims of the pod admit
abbrev pub takes_pod : List Object → PodData → Object → Bool
takes_pod rows p (Node n) = list_all (volume_admits rows n) (claims_of rows p)
takes_pod rows p o = false

-- the first node of the list that takes the pod
abbrev pub first_taking : List Object → PodData → List Object → Option NodeData
first_taking rows p [] = None
first_taking rows p (Node n ∷ os) = if takes_pod rows p (Node n) then Some n else first_taking rows p os
first_taking rows p (o ∷ os) = first_taking rows p os

-- all claims of the pod are completed
abbrev pub are_completed : List Object → PodData → Bool
are_completed rows p = list_all is_completed (claims_of rows p)

-- step 3: a claim that is not completed names a volume, or has no delayed class: the binder and the provisioner serve it
abbrev pub is_served_elsewhere : List Object → ClaimData → Bool
is_served_elsewhere rows c =
    not (is_completed c) && (not (is_empty c.volume_name) || not (is_delayed (row_at (class_key (class_of_claim c)) rows)))

-- step 4: every claim that is not completed has a volume that carries it, or its node was chosen
abbrev pub carries_claim : ClaimData → Object → Bool
carries_claim c (Volume v) = carries v c
carries_claim c o = false

-- some volume carries the claim
abbrev pub has_carrier : List Object → ClaimData → Bool
has_carrier rows c = list_any (carries_claim c) rows

-- the claim is bound or about to be: it is completed, has a volume that carries it, or a chosen node
abbrev pub is_under_way : List Object → ClaimData → Bool
is_under_way rows c = is_completed c || has_carrier rows c || has_key selected_node c.meta.annotations

-- step 5: which volumes and which claims a node serves

-- a volume that carries the claim admits the node
abbrev pub admits_if_carrying : NodeData → ClaimData → Object → Bool
admits_if_carrying n c (Volume v) = not (carries v c) || admits v.terms n.meta.labels
admits_if_carrying n c o = true

-- the volumes of completed claims, and those that carry a claim of the pod, admit the node
abbrev pub fixed_admit : List Object → NodeData → ClaimData → Bool
fixed_admit rows n c = (not (is_completed c) || volume_admits rows n c) && list_all (admits_if_carrying n c) rows

-- the order of claims: by rising size, then by name
abbrev pub claim_cmp : ClaimData → ClaimData → Ordering
claim_cmp a b = ordering_then (nat_cmp a.amount.bytes b.amount.bytes) (text_cmp a.meta.name b.meta.name)

-- the claim at its place among claims that stand in order
abbrev pub insert_claim : ClaimData → List ClaimData → List ClaimData
insert_claim c [] = c ∷ []
insert_claim c (d ∷ ds) = if is_gt (claim_cmp c d) then d ∷ insert_claim c ds else c ∷ d ∷ ds

-- the claims in that order
abbrev pub by_size : List ClaimData → List ClaimData
by_size [] = []
by_size (c ∷ cs) = insert_claim c (by_size cs)

-- the claim still needs a volume: it is not completed and none carries it
abbrev pub is_other : List Object → ClaimData → Bool
is_other rows c = not (is_completed c) && not (has_carrier rows c)

-- the claims of the pod that still need a volume, the smallest first
abbrev pub others_of : List Object → PodData → List ClaimData
others_of rows p = by_size (filter (is_other rows) (claims_of rows p))

-- a class stands there, and it provisions volumes
abbrev pub class_provisions : Option Object → Bool
class_provisions (Some (Class x)) = provisions x
class_provisions _ = false

-- the claim can be provisioned, if no volume is there for it
abbrev pub can_provision : List Object → ClaimData → Bool
can_provision rows c = is_none c.selector && class_provisions (row_at (class_key (class_of_claim c)) rows)

-- what a claim gets on a node: the volume at a place, or one that is to be provisioned
pub data Share : Type 0 where
  TakesVolume : ℕ → Share
  IsProvisioned : Share

-- each claim in turn takes the best eligible volume that no earlier one has; where there is none it is to be provisioned
abbrev pub AreShares : List Object → NodeData → List ℕ → List ClaimData → List Share → Type 0
AreShares rows n taken [] [] = ⊤
AreShares rows n taken (c ∷ cs) (TakesVolume place ∷ shares) = IsBest rows c (Some n) false taken (Some place) × AreShares rows n (place ∷ taken) cs shares
AreShares rows n taken (c ∷ cs) (IsProvisioned ∷ shares) = IsBest rows c (Some n) false taken None × (can_provision rows c ≡ true) × AreShares rows n taken cs shares
AreShares rows n taken _ _ = ⊥

-- the node serves all claims of the pod, with these shares for the others
pub record Serves (rows : List Object) (pod : PodData) (node : NodeData) (shares : List Share) : Type 0 where
  pub fixed : list_all (fixed_admit rows node) (claims_of rows pod) ≡ true
  pub shared : AreShares rows node [] (others_of rows pod) shares

-- the node that an object is, if it is one
abbrev pub node_in : Object → Option NodeData
node_in (Node n) = Some n
node_in o = None

-- the nodes of the store by name
abbrev pub nodes_of : List Object → List NodeData
nodes_of rows = filter_map node_in (rows_of kinds.Node rows)

-- what the scheduler does for the pod: the steps before the fifth
pub data Step : Type 0 where
  GoesNowhere : Step
  Assigns : NodeData → Step
  Waits : Step
  Searches : Step

-- the pod goes to the node that was found, or nowhere
abbrev pub assigned_node : Option NodeData → Step
assigned_node None = GoesNowhere
assigned_node (Some n) = Assigns n

-- the step at which the scheduler stands with the pod: the first one that its claims call for
abbrev pub step_of : List Object → PodData → Step
step_of rows p =
    if lacks_claim rows p then GoesNowhere
    else if are_completed rows p then assigned_node (first_taking rows p (rows_of kinds.Node rows))
    else if list_any (is_served_elsewhere rows) (claims_of rows p) then Waits
    else if list_all (is_under_way rows) (claims_of rows p) then Waits
    else Searches
