-- What is chosen is what is due, where the look-up is the store itself.
use Rattle.std.proofs.Common.{ℕ, zero, suc, ◌≡◌, ◌<◌, ◌+◌, ◌∙◌, ◌↔◌, Bool, true, false, true≢false, List, [], ◌∷◌, cond, filter, Option, Some, None, refl, sym, ap, subst, arith, if◌then◌else◌}
use Rattle.std.specs.Prelude.{slice_get}
use Rattle.std.specs.List.{list_all, list_any}
use Rattle.kube_objects.specs.declared.key.Key.{Key}
use Rattle.kube_parts.specs.declared.names.Due.{Due}
use Rattle.kube_parts.specs.declared.names.Due.TheVariants as dues
use Rattle.kube_parts.specs.declared.parts.Kind.TheVariants as kinds
use Rattle.kube_objects.specs.declared.objects.Node.{Node as NodeData}
use Rattle.kube_objects.specs.declared.objects.Pod.{Pod as PodData}
use Rattle.kube_objects.specs.declared.objects.Object.{Object}
use Rattle.kube_objects.specs.declared.objects.Object.TheVariants.{Class, Node, Volume, Claim, Pod}
use Rattle.kube_objects.specs.Bindings.{is_empty}
use Rattle.kube_objects.specs.Keys.{AreRows, is_of_kind, key_of, meta_of, rows_of}
use Rattle.kube_objects.proofs.RowPlaces.{row_at_place}
use Rattle.call_types.specs.declared.setup.Setup.{Setup}
use Rattle.binder_model.specs.Choice.{
  AreShares,
  GoesNowhere,
  Searches,
  Serves,
  Share,
  Step,
  Waits,
  are_completed,
  assigned_node,
  claims_of,
  first_taking,
  is_served_elsewhere,
  is_under_way,
  lacks_claim,
  node_in,
  others_of,
  step_of,
  takes_pod,
}
use Rattle.binder_model.specs.Due.{CanPrepare, IsPodDue, IsStepDue}
use Rattle.binder_model.specs.World.{World}
use Rattle.model_laws.proofs.Lists.{none_some, one}
use Rattle.delayed_binding.specs.declared.choice.Choice.{Choice}
use Rattle.delayed_binding.specs.declared.choice.Choice.TheVariants.{Assign, Prepare, Wait, NoNode}
use Rattle.delayed_binding.specs.ChoiceLaw.{ChoicesAreDue, ChosenNodesAreDue, HaveNoNamespace, IsAssignedNode, IsDueBy, IsNodeOf, IsServingNode}
use Rattle.delayed_binding.specs.Choices.{
  AreAdmitted,
  HasNoNode,
  IsAssigned,
  IsChoiceAt,
  IsCompleted,
  IsPrepared,
  IsSearching,
  IsServedElsewhere,
  IsUnderWay,
  LacksClaim,
  ServesAll,
  Stage,
  places_from,
  set_aside,
}
use Rattle.delayed_binding.specs.Steps.Scans.{NoneBelow, as_node, node_at}
use Rattle.delayed_binding.proofs.Rounds.{as_node_plain, found_first, seen_node, there_at}
use Rattle.delayed_binding.proofs.Unique.{one_first}

-- what is chosen by a test passes it
chosen_passes : {X : Type 0} (p : X → Bool) (xs : List X) (i : ℕ) (x : X) → slice_get (filter p xs) i ≡ Some x → p x ≡ true
chosen_passes p [] i x h = none_some h
chosen_passes p (y ∷ ys) i x h = by (p y) refl i h (λ j. chosen_passes p ys j x)
  where
    by : (b : Bool) → p y ≡ b → (i : ℕ) → slice_get (cond b (y ∷ filter p ys) (filter p ys)) i ≡ Some x → ((j : ℕ) → slice_get (filter p ys) j ≡ Some x → p x ≡ true) → p x ≡ true
    by true e zero h rest = ap p (sym (one y x h)) ∙ e
    by true e (suc i) h rest = rest i h
    by false e i h rest = rest i h

-- where nothing stands in a namespace, no place is set aside
kept_all : (os : List Object) (at : ℕ) → ((i : ℕ) (o : Object) → slice_get os i ≡ Some o → (meta_of o).namespace ≡ []) → places_from at os ≡ []
kept_all [] at plain = refl
kept_all (o ∷ os) at plain = ap (λ (s : List ℕ). if is_empty s then places_from (at + 1) os else at ∷ places_from (at + 1) os) (plain 0 o refl) ∙ kept_all os (at + 1) (λ i. plain (suc i))

-- the first node that the scan takes

record IsTaken (rows : List Object) (p : PodData) (os : List Object) (n : NodeData) : Type 0 where
  place : ℕ
  there : slice_get os place ≡ Some (Node n)
  takes : takes_pod rows p (Node n) ≡ true
  first : (k : ℕ) → k < place → (m : NodeData) → slice_get os k ≡ Some (Node m) → takes_pod rows p (Node m) ≡ true → ⊥

taken_later : (rows : List Object) (p : PodData) (o : Object) (os : List Object) (n : NodeData)
    → ((m : NodeData) → o ≡ Node m → takes_pod rows p (Node m) ≡ true → ⊥) → IsTaken rows p os n → IsTaken rows p (o ∷ os) n
taken_later rows p o os n none t = record { place = suc t.place; there = t.there; takes = t.takes; first = first }
  where
    first : (k : ℕ) → k < suc t.place → (m : NodeData) → slice_get (o ∷ os) k ≡ Some (Node m) → takes_pod rows p (Node m) ≡ true → ⊥
    first zero lt m e takes = none m (one o (Node m) e) takes
    first (suc k) lt m e takes = t.first k (omega (arith, lt)) m e takes

not_node : (o : Object) (m : NodeData) → node_in o ≡ None → o ≡ Node m → ⊥
not_node o m none e = none_some (sym none ∙ ap node_in e)

taken : (rows : List Object) (p : PodData) (os : List Object) (n : NodeData) → first_taking rows p os ≡ Some n → IsTaken rows p os n
taken rows p [] n e = none_some e
taken rows p (Node m ∷ os) n e = by (takes_pod rows p (Node m)) refl e (taken rows p os n)
  where
    by : (b : Bool) → takes_pod rows p (Node m) ≡ b → (if b then Some m else first_taking rows p os) ≡ Some n → (first_taking rows p os ≡ Some n → IsTaken rows p os n) → IsTaken rows p (Node m ∷ os) n
    by true h e rest =
        let same = one m n e in
        record { place = 0; there = ap (λ x. Some (Node x)) same; takes = ap (λ x. takes_pod rows p (Node x)) (sym same) ∙ h; first = λ k lt. absurd (omega (arith, lt)) }
    by false h e rest = taken_later rows p (Node m) os n (λ x is takes. true≢false (sym (ap (takes_pod rows p) is ∙ takes) ∙ h)) (rest e)
taken rows p (Class x ∷ os) n e = taken_later rows p (Class x) os n (λ m is takes. not_node (Class x) m refl is) (taken rows p os n e)
taken rows p (Volume x ∷ os) n e = taken_later rows p (Volume x) os n (λ m is takes. not_node (Volume x) m refl is) (taken rows p os n e)
taken rows p (Claim x ∷ os) n e = taken_later rows p (Claim x) os n (λ m is takes. not_node (Claim x) m refl is) (taken rows p os n e)
taken rows p (Pod x ∷ os) n e = taken_later rows p (Pod x) os n (λ m is takes. not_node (Pod x) m refl is) (taken rows p os n e)

none_taken : (rows : List Object) (p : PodData) (os : List Object) → first_taking rows p os ≡ None → (i : ℕ) (m : NodeData) → slice_get os i ≡ Some (Node m) → takes_pod rows p (Node m) ≡ true → ⊥
none_taken rows p [] e i m at takes = none_some at
none_taken rows p (Node x ∷ os) e i m at takes = by (takes_pod rows p (Node x)) refl e i at (λ k j here. none_taken rows p os k j m here takes)
  where
    by : (b : Bool) → takes_pod rows p (Node x) ≡ b → (if b then Some x else first_taking rows p os) ≡ None → (i : ℕ) → slice_get (Node x ∷ os) i ≡ Some (Node m)
        → (first_taking rows p os ≡ None → (j : ℕ) → slice_get os j ≡ Some (Node m) → ⊥) → ⊥
    by true h e i at later = none_some (sym e)
    by false h e zero at later = true≢false (sym (ap (takes_pod rows p) (one (Node x) (Node m) at) ∙ takes) ∙ h)
    by false h e (suc i) at later = later e i at
none_taken rows p (Class x ∷ os) e zero m at takes = not_node (Class x) m refl (one (Class x) (Node m) at)
none_taken rows p (Class x ∷ os) e (suc i) m at takes = none_taken rows p os e i m at takes
none_taken rows p (Volume x ∷ os) e zero m at takes = not_node (Volume x) m refl (one (Volume x) (Node m) at)
none_taken rows p (Volume x ∷ os) e (suc i) m at takes = none_taken rows p os e i m at takes
none_taken rows p (Claim x ∷ os) e zero m at takes = not_node (Claim x) m refl (one (Claim x) (Node m) at)
none_taken rows p (Claim x ∷ os) e (suc i) m at takes = none_taken rows p os e i m at takes
none_taken rows p (Pod x ∷ os) e zero m at takes = not_node (Pod x) m refl (one (Pod x) (Node m) at)
none_taken rows p (Pod x ∷ os) e (suc i) m at takes = none_taken rows p os e i m at takes

module _ (rows : List Object) (order : AreRows rows) (plain : HaveNoNamespace rows) (p : PodData) where
  volume_plain : (i : ℕ) (o : Object) → slice_get (rows_of kinds.PersistentVolume rows) i ≡ Some o → (meta_of o).namespace ≡ []
  volume_plain i (Volume v) at = plain.volumes (key_of (Volume v)) v (row_at_place kinds.PersistentVolume i (Volume v) rows order at)
  volume_plain i (Class x) at = absurd (true≢false (sym (chosen_passes (is_of_kind kinds.PersistentVolume) rows i (Class x) at)))
  volume_plain i (Node x) at = absurd (true≢false (sym (chosen_passes (is_of_kind kinds.PersistentVolume) rows i (Node x) at)))
  volume_plain i (Claim x) at = absurd (true≢false (sym (chosen_passes (is_of_kind kinds.PersistentVolume) rows i (Claim x) at)))
  volume_plain i (Pod x) at = absurd (true≢false (sym (chosen_passes (is_of_kind kinds.PersistentVolume) rows i (Pod x) at)))

  pub none_aside : set_aside rows ≡ []
  none_aside = kept_all (rows_of kinds.PersistentVolume rows) 0 volume_plain

  -- to serve is the same
  pub serves_here : (n : NodeData) (shares : List Share) → Serves rows p n shares → ServesAll rows (claims_of rows p) n shares
  serves_here n shares s = record { fixed = s.fixed; shared = subst (λ aside. AreShares rows n aside (others_of rows p) shares) (sym none_aside) s.shared }

  pub serves_there : (n : NodeData) (shares : List Share) → ServesAll rows (claims_of rows p) n shares → Serves rows p n shares
  serves_there n shares s = record { fixed = s.fixed; shared = subst (λ aside. AreShares rows n aside (others_of rows p) shares) none_aside s.shared }

  -- so is the first node that all volumes admit
  pub at_node : (i : ℕ) (n : NodeData) → slice_get (rows_of kinds.Node rows) i ≡ Some (Node n) → node_at rows i ≡ Some n
  at_node i n at = ap as_node at ∙ as_node_plain n (plain.nodes (key_of (Node n)) n (row_at_place kinds.Node i (Node n) rows order at))

  assigned : (name : List ℕ) → IsAssigned rows (claims_of rows p) name → (t : Option NodeData) → first_taking rows p (rows_of kinds.Node rows) ≡ t
      → (n : NodeData) × ((t ≡ Some n) × (name ≡ n.meta.name))
  assigned name f None e =
      let spot = there_at rows order f.node f.first.there in
      absurd (none_taken rows p (rows_of kinds.Node rows) e spot.0 f.node (seen_node (slice_get (rows_of kinds.Node rows) spot.0) f.node spot.1).is f.first.holds)
  assigned name f (Some n) e =
      let t = taken rows p (rows_of kinds.Node rows) n e in
      let below : NoneBelow rows (AreAdmitted rows (claims_of rows p)) t.place = λ k lt m at holds. t.first k lt m (seen_node (slice_get (rows_of kinds.Node rows) k) m at).is holds in
      let first = found_first rows order (AreAdmitted rows (claims_of rows p)) t.place n (at_node t.place n t.there) t.takes below in
      (n, (refl, f.named ∙ ap (λ (m : NodeData). m.meta.name) (one_first rows None (AreAdmitted rows (claims_of rows p)) f.node n f.first first)))

  not_assigned : HasNoNode rows (AreAdmitted rows (claims_of rows p)) → (t : Option NodeData) → first_taking rows p (rows_of kinds.Node rows) ≡ t → t ≡ None
  not_assigned none None e = refl
  not_assigned none (Some n) e =
      let t = taken rows p (rows_of kinds.Node rows) n e in
      let first = found_first rows order (AreAdmitted rows (claims_of rows p)) t.place n (at_node t.place n t.there) t.takes
      (λ k lt m at holds. t.first k lt m (seen_node (slice_get (rows_of kinds.Node rows) k) m at).is holds) in
      absurd (none n first.there t.takes)

-- the steps

abbrev step_at : Bool → Bool → Bool → Bool → Option NodeData → Step
step_at lacks completed elsewhere under t = if lacks then GoesNowhere else if completed then assigned_node t else if elsewhere then Waits else if under then Waits else Searches

abbrev stage_at : Bool → Bool → Bool → Bool → Stage
stage_at lacks completed elsewhere under = if lacks then LacksClaim else if completed then IsCompleted else if elsewhere then IsServedElsewhere else if under then IsUnderWay else IsSearching

module _ (setup : Setup) (w : World) (order : AreRows w.store.rows) (plain : HaveNoNamespace w.store.rows) (p : PodData) (last : Option (List ℕ)) (action : Option Due) where
  by_choice : (choice is : Choice) → choice ≡ is → (IsStepDue setup w p GoesNowhere action ↔ IsDueBy setup w p is action) → IsStepDue setup w p GoesNowhere action ↔ IsDueBy setup w p choice action
  by_choice choice is e h = subst (λ (c : Choice). IsStepDue setup w p GoesNowhere action ↔ IsDueBy setup w p c action) (sym e) h

  completed : (choice : Choice) (t : Option NodeData) → first_taking w.store.rows p (rows_of kinds.Node w.store.rows) ≡ t
      → IsChoiceAt IsCompleted w.store.rows (claims_of w.store.rows p) last choice → IsStepDue setup w p (assigned_node t) action ↔ IsDueBy setup w p choice action
  completed (Assign name) t e f =
      let n = assigned w.store.rows order plain p name f t e in
      subst (λ (o : Option NodeData). IsStepDue setup w p (assigned_node o) action ↔ (action ≡ Some dues.Assign)) (sym n.1.0) (λ x. x, λ x. x)
  completed NoNode t e f =
      subst (λ (o : Option NodeData). IsStepDue setup w p (assigned_node o) action ↔ (action ≡ None)) (sym (not_assigned w.store.rows order plain p f t e)) (λ x. x, λ x. x)
  completed (Prepare name binds provisions) t e f = absurd f
  completed Wait t e f = absurd f

  searching : (choice : Choice) (a : Option Due) → IsChoiceAt IsSearching w.store.rows (claims_of w.store.rows p) last choice → IsStepDue setup w p Searches a ↔ IsDueBy setup w p choice a
  searching (Prepare name binds provisions) (Some a) f = (λ x. x, λ x. x)
  searching (Prepare name binds provisions) None f = (λ x. x, λ x. x)
  searching NoNode (Some a) f = (λ due. absurd (cannot due.1), λ due. absurd (none_some (sym due)))
    where
      cannot : CanPrepare setup w p → ⊥
      cannot can = f can.node can.there (can.shares, serves_here w.store.rows order plain p can.node can.shares can.serves)
  searching NoNode None f = (λ due. refl, λ due can. f can.node can.there (can.shares, serves_here w.store.rows order plain p can.node can.shares can.serves))
  searching (Assign name) a f = absurd f
  searching Wait a f = absurd f

  by_steps : (lacks done elsewhere under : Bool) (choice : Choice)
      → IsChoiceAt (stage_at lacks done elsewhere under) w.store.rows (claims_of w.store.rows p) last choice
      → IsStepDue setup w p (step_at lacks done elsewhere under (first_taking w.store.rows p (rows_of kinds.Node w.store.rows))) action ↔ IsDueBy setup w p choice action
  by_steps true done elsewhere under choice f = by_choice choice NoNode f (λ x. x, λ x. x)
  by_steps false true elsewhere under choice f = completed choice (first_taking w.store.rows p (rows_of kinds.Node w.store.rows)) refl f
  by_steps false false true under choice f = by_choice choice Wait f (λ x. x, λ x. x)
  by_steps false false false true choice f = by_choice choice Wait f (λ x. x, λ x. x)
  by_steps false false false false choice f = searching choice action f

pub choices_are_due : ChoicesAreDue
choices_are_due setup w p last choice action order plain unscheduled f =
    let rows = w.store.rows in
    let h = by_steps setup w order plain p last action (lacks_claim rows p) (are_completed rows p)
    (list_any (is_served_elsewhere rows) (claims_of rows p)) (list_all (is_under_way rows) (claims_of rows p)) choice f in
    subst (λ b. IsPodDue setup w p b action ↔ IsDueBy setup w p choice action) (sym unscheduled) h

-- the nodes

abbrev is_assign : Choice → Bool
is_assign (Assign name) = true
is_assign choice = false

abbrev is_prepare : Choice → Bool
is_prepare (Prepare name binds provisions) = true
is_prepare choice = false

module _ (rows : List Object) (order : AreRows rows) (plain : HaveNoNamespace rows) (p : PodData) (last : Option (List ℕ)) where
  serving : (name : List ℕ) (bs : List (Key × Key)) (ps : List Key) → IsPrepared rows (claims_of rows p) last name bs ps → IsServingNode rows p name
  serving name bs ps f = record {
    node = f.node;
    named = f.named;
    there = f.first.there;
    shares = f.prepares.shares;
    serves = serves_there rows order
        plain p f.node f.prepares.shares f.prepares.serves;
  }

  assigns : (name : List ℕ) → IsAssigned rows (claims_of rows p) name → lacks_claim rows p ≡ false → are_completed rows p ≡ true → IsAssignedNode rows p name
  assigns name f lacks done =
      let n = assigned rows order plain p name f (first_taking rows p (rows_of kinds.Node rows)) refl in
      let steps : step_of rows p ≡ assigned_node (first_taking rows p (rows_of kinds.Node rows)) = rw (lacks, done) refl in
      record { node = n.0; named = n.1.1; assigns = steps ∙ ap assigned_node n.1.0 }

  nodes : (lacks done elsewhere under : Bool) → lacks_claim rows p ≡ lacks → are_completed rows p ≡ done → (choice : Choice)
      → IsChoiceAt (stage_at lacks done elsewhere under) rows (claims_of rows p) last choice → IsNodeOf rows p choice
  nodes false true elsewhere under l d (Assign name) f = assigns name f l d
  nodes false false false false l d (Prepare name bs ps) f = serving name bs ps f
  nodes lacks done elsewhere under l d Wait f = tt
  nodes lacks done elsewhere under l d NoNode f = tt
  nodes true done elsewhere under l d (Assign name) f = absurd (true≢false (ap is_assign f))
  nodes true done elsewhere under l d (Prepare name bs ps) f = absurd (true≢false (ap is_prepare f))
  nodes false true elsewhere under l d (Prepare name bs ps) f = absurd f
  nodes false false true under l d (Assign name) f = absurd (true≢false (ap is_assign f))
  nodes false false true under l d (Prepare name bs ps) f = absurd (true≢false (ap is_prepare f))
  nodes false false false true l d (Assign name) f = absurd (true≢false (ap is_assign f))
  nodes false false false true l d (Prepare name bs ps) f = absurd (true≢false (ap is_prepare f))
  nodes false false false false l d (Assign name) f = absurd f

pub chosen_nodes_are_due : ChosenNodesAreDue
chosen_nodes_are_due rows p last choice order plain f =
    nodes rows order plain p last (lacks_claim rows p) (are_completed rows p) (list_any (is_served_elsewhere rows) (claims_of rows p))
    (list_all (is_under_way rows) (claims_of rows p)) refl refl choice f
