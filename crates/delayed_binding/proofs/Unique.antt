-- There is one choice.
use Rattle.std.proofs.Common.{ℕ, ◌≡◌, ◌≢◌, ◌∙◌, true≢false, List, Option, None, refl, sym, ap, subst}
use Rattle.std.specs.Cmp.{IsTotalOrder}
use Rattle.std.specs.declared.cmp.Ordering.{Ordering}
use Rattle.std.specs.declared.cmp.Ordering.TheVariants.{Less, Equal, Greater}
use Rattle.std.specs.Ordering.{is_eq, ordering_reverse, ordering_then}
use Rattle.std.proofs.lemmas.Cmp.{nat_cmp_total, nat_list_cmp_total, on_total, then_total}
use Rattle.std.proofs.lemmas.Map.Lookups.{exact_bytes}
use Rattle.kube_objects.specs.declared.key.Key.{Key}
use Rattle.kube_objects.specs.declared.objects.Claim.{Claim as ClaimData}
use Rattle.kube_objects.specs.declared.objects.Node.{Node as NodeData}
use Rattle.kube_objects.specs.declared.objects.Object.{Object}
use Rattle.kube_objects.specs.declared.objects.Object.TheVariants.{Node}
use Rattle.kube_objects.specs.Keys.{AreRows, row_at}
use Rattle.binder_model.specs.Choice.{AreShares, claims_of, node_in}
use Rattle.binder_model.specs.ObjectKeys.{node_key}
use Rattle.model_laws.proofs.Lists.{one}
use Rattle.delayed_binding.specs.declared.choice.Choice.{Choice}
use Rattle.delayed_binding.specs.declared.choice.Choice.TheVariants.{Assign, Prepare, Wait, NoNode}
use Rattle.delayed_binding.specs.ChoiceLaw.{ChoicesAreUnique}
use Rattle.delayed_binding.specs.Choices.{
  IsChoiceAt,
  IsCompleted,
  IsFirstNode,
  IsPrepared,
  IsSearching,
  IsServedElsewhere,
  IsThere,
  IsUnderWay,
  LacksClaim,
  Stage,
  binds_of,
  others_in,
  provisions_of,
  round_cmp,
  set_aside,
  stage_of,
  turn_of,
}
use Rattle.delayed_binding.proofs.Bests.{set_aside_is}
use Rattle.delayed_binding.proofs.Sharing.{one_sharing}

round_total : (last : Option (List ℕ)) → IsTotalOrder (round_cmp last)
round_total last = then_total (on_total (turn_of last) nat_cmp_total) (on_total (λ (n : NodeData). n.meta.name) nat_list_cmp_total)

-- two nodes of one name are one
node_of_name : (rows : List Object) (n m : NodeData) → IsThere rows n → IsThere rows m → n.meta.name ≡ m.meta.name → n ≡ m
node_of_name rows n m a b same = one n m (ap node_in (one (Node n) (Node m) (sym a ∙ ap (λ name. row_at (node_key name) rows) same ∙ b)))

-- there is one first node
pub one_first : (rows : List Object) (last : Option (List ℕ)) (P : NodeData → Type 0) (n m : NodeData) → IsFirstNode rows last P n → IsFirstNode rows last P m → n ≡ m
one_first rows last P n m a b =
    node_of_name rows n m a.there b.there (exact_bytes n.meta.name m.meta.name
    (tail _ _ (both (round_cmp last n m) (a.first m b.there b.holds) (subst (λ o. o ≢ Greater) ((round_total last).antisymm m n) (b.first n a.there a.holds)))))
  where
    both : (o : Ordering) → o ≢ Greater → ordering_reverse o ≢ Greater → o ≡ Equal
    both Less h k = absurd (k refl)
    both Equal h k = refl
    both Greater h k = absurd (h refl)

    tail : (x y : Ordering) → ordering_then x y ≡ Equal → y ≡ Equal
    tail Less y e = absurd (true≢false (sym (ap is_eq e)))
    tail Equal y e = e
    tail Greater y e = absurd (true≢false (sym (ap is_eq e)))

module _ (rows : List Object) (claims : List ClaimData) (last : Option (List ℕ)) where
  completed : (a b : Choice) → IsChoiceAt IsCompleted rows claims last a → IsChoiceAt IsCompleted rows claims last b → a ≡ b
  completed (Assign x) (Assign y) f g = ap Assign (f.named ∙ ap (λ (n : NodeData). n.meta.name) (one_first rows None _ f.node g.node f.first g.first) ∙ sym g.named)
  completed (Assign x) NoNode f g = absurd (g f.node f.first.there f.first.holds)
  completed (Assign x) (Prepare n bs ps) f g = absurd g
  completed (Assign x) Wait f g = absurd g
  completed NoNode (Assign y) f g = absurd (f g.node g.first.there g.first.holds)
  completed NoNode NoNode f g = refl
  completed NoNode (Prepare n bs ps) f g = absurd g
  completed NoNode Wait f g = absurd g
  completed (Prepare n bs ps) b f g = absurd f
  completed Wait b f g = absurd f

  module _ (order : AreRows rows) where
    prepared : (x y : List ℕ) (bs cs : List (Key × Key)) (ps qs : List Key) → IsPrepared rows claims last x bs ps → IsPrepared rows claims last y cs qs → Prepare x bs ps ≡ Prepare y cs qs
    prepared x y bs cs ps qs f g =
        let node = one_first rows last _ f.node g.node f.first g.first in
        let there = subst (λ (m : NodeData). AreShares rows m (set_aside rows) (others_in rows claims) g.prepares.shares) (sym node) g.prepares.serves.shared in
        let shares = one_sharing rows f.node order (others_in rows claims) (set_aside rows) f.prepares.shares g.prepares.shares (set_aside_is rows) f.prepares.serves.shared there in
        let names : x ≡ y = f.named ∙ ap (λ (n : NodeData). n.meta.name) node ∙ sym g.named in
        let binds : bs ≡ cs = f.prepares.binds_are ∙ ap (binds_of rows (others_in rows claims)) shares ∙ sym g.prepares.binds_are in
        let keys : ps ≡ qs = f.prepares.provisions_are ∙ ap (provisions_of (others_in rows claims)) shares ∙ sym g.prepares.provisions_are in
        λ i. Prepare (names i) (binds i) (keys i)

    searching : (a b : Choice) → IsChoiceAt IsSearching rows claims last a → IsChoiceAt IsSearching rows claims last b → a ≡ b
    searching (Prepare x bs ps) (Prepare y cs qs) f g = prepared x y bs cs ps qs f g
    searching (Prepare x bs ps) NoNode f g = absurd (g f.node f.first.there f.first.holds)
    searching (Prepare x bs ps) (Assign y) f g = absurd g
    searching (Prepare x bs ps) Wait f g = absurd g
    searching NoNode (Prepare y cs qs) f g = absurd (f g.node g.first.there g.first.holds)
    searching NoNode NoNode f g = refl
    searching NoNode (Assign y) f g = absurd g
    searching NoNode Wait f g = absurd g
    searching (Assign x) b f g = absurd f
    searching Wait b f g = absurd f

    by_stage : (stage : Stage) (a b : Choice) → IsChoiceAt stage rows claims last a → IsChoiceAt stage rows claims last b → a ≡ b
    by_stage LacksClaim a b f g = f ∙ sym g
    by_stage IsCompleted a b f g = completed a b f g
    by_stage IsServedElsewhere a b f g = f ∙ sym g
    by_stage IsUnderWay a b f g = f ∙ sym g
    by_stage IsSearching a b f g = searching a b f g

pub choices_are_unique : ChoicesAreUnique
choices_are_unique rows p last a b order f g = by_stage rows (claims_of rows p) last order (stage_of rows p) a b f g
