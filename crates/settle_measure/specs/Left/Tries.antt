-- How many nodes the scheduler has still to try for a pod.
-- A choice of this project.
use Rattle.std.specs.Prelude.{ℕ, ◌≡◌, ◌⊎◌, ◌+◌, ◌≤◌, Bool, true, false, not, List, [], ◌∷◌, ◌++◌, Option, Some, None, filter, length, ⊤}
use Rattle.std.specs.Ordering.{is_gt}
use Rattle.plain_data.specs.Pairs.{text_cmp}
use Rattle.kube_objects.specs.declared.objects.Node.{Node as NodeData}
use Rattle.kube_objects.specs.declared.objects.Pod.{Pod as PodData}
use Rattle.call_types.specs.declared.setup.Setup.{Setup}
use Rattle.binder_model.specs.Choice.{Serves, Share, nodes_of, others_of}
use Rattle.binder_model.specs.Due.{shares_are_served}
use Rattle.binder_model.specs.World.{World}

-- the nodes in the order in which they are tried: by name, from the one after the node that was refused last, once round
abbrev pub is_after : List ℕ → NodeData → Bool
is_after refused n = is_gt (text_cmp n.meta.name refused)

-- the nodes from the one after the refused node, then the others; where none was refused, as they stand
abbrev pub in_turn : Option (List ℕ) → List NodeData → List NodeData
in_turn None ns = ns
in_turn (Some refused) ns = filter (is_after refused) ns ++ filter (λ n. not (is_after refused n)) ns

-- the node serves the claims of the pod, and what is to be provisioned there can be given, or not
pub record IsOn (setup : Setup) (w : World) (p : PodData) (given : Bool) (n : NodeData) : Type 0 where
  pub shares : List Share
  pub serves : Serves w.store.rows p n shares
  pub given_is : shares_are_served setup w n (others_of w.store.rows p) shares ≡ given

-- the node does not serve the claims of the pod
abbrev pub ServesNot : World → PodData → NodeData → Type 0
ServesNot w p n = (shares : List Share) → Serves w.store.rows p n shares → ⊥

-- so many nodes are tried, up to the first that can give what the claims need
abbrev pub Tries : Setup → World → PodData → List NodeData → ℕ → Type 0
Tries setup w p [] k = k ≡ 0
Tries setup w p (n ∷ ns) k = (ServesNot w p n × Tries setup w p ns k) ⊎ ((IsOn setup w p true n × (k ≡ 1)) ⊎ (IsOn setup w p false n × ((j : ℕ) × ((k ≡ j + 1) × Tries setup w p ns j))))

-- the tries that are left for a pod, where this node was refused last
abbrev pub TriesLeft : Setup → World → PodData → Option (List ℕ) → ℕ → Type 0
TriesLeft setup w p refused k = Tries setup w p (in_turn refused (nodes_of w.store.rows)) k

-- among the nodes there is one that can
abbrev pub SomeGives : Setup → World → PodData → List NodeData → Type 0
SomeGives setup w p [] = ⊥
SomeGives setup w p (n ∷ ns) = IsOn setup w p true n ⊎ SomeGives setup w p ns

-- none of the nodes serves them
abbrev pub NoneServes : World → PodData → List NodeData → Type 0
NoneServes w p [] = ⊤
NoneServes w p (n ∷ ns) = ServesNot w p n × NoneServes w p ns

-- a node has its shares once
abbrev pub SharesAreOne : World → PodData → Type 0
SharesAreOne w p = (n : NodeData) (a b : List Share) → Serves w.store.rows p n a → Serves w.store.rows p n b → a ≡ b

-- not more than there are nodes
abbrev pub TriesAreFew : Type 0
TriesAreFew = (setup : Setup) (w : World) (p : PodData) (ns : List NodeData) (k : ℕ) → Tries setup w p ns k → k ≤ length ns

-- one node less is tried
pub record OneLess (setup : Setup) (w : World) (p : PodData) (ns : List NodeData) (k : ℕ) : Type 0 where
  pub tries : ℕ
  pub less : tries + 1 ≡ k
  pub are : Tries setup w p ns tries

-- where the first node that serves could not give, and another can, one node less is tried from the one after it
abbrev pub RefusedNodeIsTried : Type 0
RefusedNodeIsTried =
    (setup : Setup) (w : World) (p : PodData) (before : List NodeData) (n : NodeData) (behind : List NodeData) (k : ℕ) → SharesAreOne w p
    → NoneServes w p before → IsOn setup w p false n → SomeGives setup w p behind → Tries setup w p (before ++ n ∷ behind) k → OneLess setup w p (behind ++ (before ++ n ∷ [])) k
