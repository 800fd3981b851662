-- Where some node serves all claims of a pod and the devices can give what is to be provisioned there. For the proofs alone.
use Rattle.std.specs.Prelude.{ℕ, ◌≡◌, Bool, true, false, List, Option, Some, None, slice_get}
use Rattle.std.specs.List.{list_all}
use Rattle.kube_objects.specs.declared.key.Key.{Key}
use Rattle.kube_parts.specs.declared.parts.Kind.TheVariants as kinds
use Rattle.kube_objects.specs.declared.objects.Claim.{Claim as ClaimData}
use Rattle.kube_objects.specs.declared.objects.Node.{Node as NodeData}
use Rattle.kube_objects.specs.declared.objects.Pod.{Pod as PodData}
use Rattle.kube_objects.specs.declared.objects.Object.TheVariants.{Node}
use Rattle.kube_objects.specs.Bindings.{class_of_claim}
use Rattle.kube_objects.specs.Keys.{row_at, rows_of}
use Rattle.call_types.specs.declared.setup.Setup.{Setup}
use Rattle.binder_model.specs.Choice.{Serves, Share, claim_in, others_of}
use Rattle.binder_model.specs.Due.{is_served_on, shares_are_served}
use Rattle.binder_model.specs.ObjectKeys.{class_key}
use Rattle.binder_model.specs.World.{World}
use Rattle.delayed_binding.specs.declared.choice.Choice.{Choice}
use Rattle.delayed_binding.specs.declared.choice.Choice.TheVariants.{Prepare}

-- the node serves all claims of the pod, and the devices can give what is to be provisioned there
pub record CanPrepareOn (setup : Setup) (w : World) (p : PodData) (n : NodeData) : Type 0 where
  pub shares : List Share
  pub serves : Serves w.store.rows p n shares
  pub given : shares_are_served setup w n (others_of w.store.rows p) shares ≡ true

-- this holds of the node at the place
pub record CanPrepareAt (setup : Setup) (w : World) (p : PodData) (place : ℕ) : Type 0 where
  pub node : NodeData
  pub there : slice_get (rows_of kinds.Node w.store.rows) place ≡ Some (Node node)
  pub can : CanPrepareOn setup w p node

-- the claim under the key has its data there, or a pool fits on the node
abbrev pub claim_is_served : Setup → World → NodeData → Option ClaimData → Bool
claim_is_served setup w n None = false
claim_is_served setup w n (Some c) = is_served_on setup w n c c.meta.uid (row_at (class_key (class_of_claim c)) w.store.rows)

-- the claim of the key is served on the node
abbrev pub key_is_served : Setup → World → NodeData → Key → Bool
key_is_served setup w n key = claim_is_served setup w n (claim_in (row_at key w.store.rows))

-- something is prepared, and each claim that is to be provisioned for it is served so
abbrev pub is_given : Setup → World → NodeData → Option Choice → Bool
is_given setup w n (Some (Prepare name binds provisions)) = list_all (key_is_served setup w n) provisions
is_given setup w n _ = false
