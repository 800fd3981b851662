-- What would be prepared on each node tells whether something is to be prepared for the pod.
use Rattle.std.proofs.Common.{ℕ, ◌≡◌, ◌<◌, ◌∙◌, true, false, true≢false, ◌&&◌, List, [], ◌∷◌, length, Option, Some, None, refl, sym, ap, subst}
use Rattle.std.specs.Bool.{Decides}
use Rattle.std.specs.List.{list_all}
use Rattle.std.proofs.lemmas.Option.{slice_get_within}
use Rattle.kube_objects.specs.declared.key.Key.{Key}
use Rattle.kube_parts.specs.declared.parts.Kind.TheVariants as kinds
use Rattle.kube_objects.specs.declared.objects.Claim.{Claim as ClaimData}
use Rattle.kube_objects.specs.declared.objects.Node.{Node as NodeData}
use Rattle.kube_objects.specs.declared.objects.Pod.{Pod as PodData}
use Rattle.kube_objects.specs.declared.objects.Object.{Object}
use Rattle.kube_objects.specs.declared.objects.Object.TheVariants.{Claim, Node}
use Rattle.kube_objects.specs.Bindings.{class_of_claim}
use Rattle.kube_objects.specs.Keys.{AreRows, key_of, row_at, rows_of}
use Rattle.kube_objects.proofs.RowPlaces.{place_of_row}
use Rattle.call_types.specs.declared.setup.Setup.{Setup}
use Rattle.binder_model.specs.Choice.{AreShares, IsProvisioned, Share, TakesVolume, claim_in, claims_of, others_of}
use Rattle.binder_model.specs.Due.{CanPrepare, is_served_on, shares_are_served}
use Rattle.binder_model.specs.ObjectKeys.{class_key, node_key}
use Rattle.binder_model.specs.World.{World}
use Rattle.delayed_binding.specs.declared.choice.Choice.{Choice}
use Rattle.delayed_binding.specs.declared.choice.Choice.TheVariants.{Assign, Prepare, Wait, NoNode}
use Rattle.delayed_binding.specs.ChoiceLaw.{HaveNoNamespace}
use Rattle.delayed_binding.specs.Choices.{IsPreparedOn, Prepares, ServesAll, provisions_of, set_aside}
use Rattle.delayed_binding.proofs.Bests.{set_aside_is}
use Rattle.delayed_binding.proofs.Dues.{at_node, serves_here, serves_there}
use Rattle.delayed_binding.proofs.Known.{Each, IsStored, others_stored}
use Rattle.delayed_binding.proofs.Rounds.{node_there}
use Rattle.delayed_binding.proofs.Sharing.{one_sharing}
use Rattle.settle_check.specs.Steps.Searching.{CanPrepareAt, CanPrepareOn, claim_is_served, is_given, key_is_served}

-- the keys of the claims that are to be provisioned tell what their shares do
module _ (setup : Setup) (w : World) (n : NodeData) where
  stored_served : (c : ClaimData) → IsStored w.store.rows c → key_is_served setup w n (key_of (Claim c)) ≡ is_served_on setup w n c c.meta.uid (row_at (class_key (class_of_claim c)) w.store.rows)
  stored_served c at = ap (λ (o : Option Object). claim_is_served setup w n (claim_in o)) at

  keys_served : (cs : List ClaimData) (shares : List Share) (taken : List ℕ) → Each (IsStored w.store.rows) cs
      → AreShares w.store.rows n taken cs shares → list_all (key_is_served setup w n) (provisions_of cs shares) ≡ shares_are_served setup w n cs shares
  keys_served [] [] taken stored are = refl
  keys_served [] (TakesVolume place ∷ shares) taken stored are = absurd are
  keys_served [] (IsProvisioned ∷ shares) taken stored are = absurd are
  keys_served (c ∷ cs) [] taken stored are = absurd are
  keys_served (c ∷ cs) (TakesVolume place ∷ shares) taken stored are = keys_served cs shares (place ∷ taken) stored.1 are.1
  keys_served (c ∷ cs) (IsProvisioned ∷ shares) taken stored are =
      ap (λ b. b && list_all (key_is_served setup w n) (provisions_of cs shares)) (stored_served c stored.0)
      ∙ ap (λ b. is_served_on setup w n c c.meta.uid (row_at (class_key (class_of_claim c)) w.store.rows) && b) (keys_served cs shares taken stored.1 are.2)

not_true : {P : Type 0} → false ≡ true → P
not_true e = absurd (true≢false (sym e))

module _ (setup : Setup) (w : World) (order : AreRows w.store.rows) (plain : HaveNoNamespace w.store.rows) (p : PodData) where
  -- there is one way to share on a node
  one_shares : (n : NodeData) (a b : List Share) → ServesAll w.store.rows (claims_of w.store.rows p) n a → ServesAll w.store.rows (claims_of w.store.rows p) n b → a ≡ b
  one_shares n a b s t = one_sharing w.store.rows n order (others_of w.store.rows p) (set_aside w.store.rows) a b (set_aside_is w.store.rows) s.shared t.shared

  given_is : (n : NodeData) (binds : List (Key × Key)) (keys : List Key) (pr : Prepares w.store.rows (claims_of w.store.rows p) n binds keys)
      → list_all (key_is_served setup w n) keys ≡ shares_are_served setup w n (others_of w.store.rows p) pr.shares
  given_is n binds keys pr = ap (list_all (key_is_served setup w n)) pr.provisions_are
      ∙ keys_served setup w n (others_of w.store.rows p) pr.shares (set_aside w.store.rows) (others_stored w.store.rows p) pr.serves.shared

  -- what would be prepared on a node
  pub decided_on : (n : NodeData) (found : Option Choice) → IsPreparedOn w.store.rows (claims_of w.store.rows p) n found → Decides (is_given setup w n found) (CanPrepareOn setup w p n)
  decided_on n None none = (not_true, λ can. absurd (none (can.shares, serves_here w.store.rows order plain p n can.shares can.serves)))
  decided_on n (Some (Prepare name binds keys)) found = (
    λ e. record { shares = found.1.shares; serves = serves_there w.store.rows order plain p n found.1.shares found.1.serves; given = sym (given_is n binds keys found.1) ∙ e },
    λ can. given_is n binds keys found.1 ∙ (ap (shares_are_served setup w n (others_of w.store.rows p))
        (one_shares n found.1.shares can.shares found.1.serves (serves_here w.store.rows order plain p n can.shares can.serves)) ∙ can.given),
  )
  decided_on n (Some (Assign name)) found = absurd found
  decided_on n (Some Wait) found = absurd found
  decided_on n (Some NoNode) found = absurd found

  -- a node is found
  pub found_there : (place : ℕ) → CanPrepareAt setup w p place → CanPrepare setup w p
  found_there place at = record {
    node = at.node;
    there = node_there w.store.rows order place at.node (at_node w.store.rows order plain p place at.node at.there);
    shares = at.can.shares;
    serves = at.can.serves;
    given = at.can.given;
  }

  -- none is
  pub none_there : (count : ℕ) → count ≡ length (rows_of kinds.Node w.store.rows) → ((place : ℕ) → place < count → CanPrepareAt setup w p place → ⊥) → CanPrepare setup w p → ⊥
  none_there count is none can =
      let spot = place_of_row kinds.Node (node_key can.node.meta.name) (Node can.node) w.store.rows refl can.there in
      let within = slice_get_within (rows_of kinds.Node w.store.rows) spot.0 (Node can.node) spot.1 in
      none spot.0 (subst (λ c. spot.0 < c) (sym is) within) (record { node = can.node; there = spot.1; can = record { shares = can.shares; serves = can.serves; given = can.given } })
