-- The scheduler's rows, as the code tests them; what stands newest under a key is one object.
use Rattle.std.proofs.Common.{◌≡◌, ◌↔◌, IsTrue, ℕ, Bool, true≢false, List, Option, Some, None, sym, ◌∙◌, ap, subst}
use Rattle.std.specs.Prelude.{is_some}
use Rattle.plain_data.specs.Pairs.{value_at}
use Rattle.kube_parts.specs.declared.uid.Uid.{Uid}
use Rattle.kube_objects.specs.declared.key.Key.{Key}
use Rattle.kube_objects.specs.declared.objects.Meta.{Meta}
use Rattle.kube_objects.specs.declared.objects.Claim.{Claim as ClaimData}
use Rattle.kube_objects.specs.declared.objects.Class.{Class as ClassData}
use Rattle.kube_objects.specs.declared.objects.Node.{Node as NodeData}
use Rattle.kube_objects.specs.declared.objects.Pod.{Pod as PodData}
use Rattle.kube_objects.specs.declared.objects.Object.{Object}
use Rattle.kube_objects.specs.declared.objects.Object.TheVariants.{Class, Node, Claim, Pod}
use Rattle.kube_objects.specs.Bindings.{selected_node}
use Rattle.call_types.specs.declared.entry.Entry.{Entry}
use Rattle.binder_model.specs.ObjectKeys.{node_key}
use Rattle.binder_model.specs.SchedulerLicence.{MayAssign, MaySelectNode}
use Rattle.binder_model.specs.Told.{IsNewest}
use Rattle.licence_rows.specs.Scheduling.{IsAssignable, SelectsNode, with_node}
use Rattle.model_laws.proofs.NewestRows.{newest_pod as pod_is}
use Rattle.model_laws.proofs.NewestRows.{newest_node as node_is}
use Rattle.plain_data.proofs.PairValues.{value_put}

-- a claim that differs in metadata alone
pub meta_is : (o new : ClaimData) (m : Meta) (b : Bool) → new ≡ record o { meta = new.meta } → (IsTrue b ↔ (new.meta ≡ m)) → (IsTrue b ↔ (new ≡ record o { meta = m }))
meta_is o new m b rest is = ((λ t. rest ∙ ap (λ x. record o { meta = x }) (is.0 t)), (λ e. is.1 (ap (λ (c : ClaimData). c.meta) e)))

pub selected_name : (mine : List Entry) (o new : ClaimData) (row : MaySelectNode mine o new) → value_at selected_node new.meta.annotations ≡ Some row.node.meta.name
selected_name mine o new row = ap (λ (c : ClaimData). value_at selected_node c.meta.annotations) row.change ∙ value_put selected_node row.node.meta.name o.meta.annotations

pub select_none : (mine : List Entry) (o new : ClaimData) → value_at selected_node new.meta.annotations ≡ None → MaySelectNode mine o new → ⊥
select_none mine o new none row = true≢false (ap is_some (sym (selected_name mine o new row) ∙ none))

some_name : (a b : List ℕ) → Some a ≡ Some b → a ≡ b
some_name a b e = ap (λ o. name_or a o) e
  where
    name_or : List ℕ → Option (List ℕ) → List ℕ
    name_or a (Some b) = b
    name_or a None = a

pub select_row : (mine : List Entry) (o new : ClaimData) (name : List ℕ) (b : Bool) → value_at selected_node new.meta.annotations ≡ Some name
    → (IsTrue b ↔ SelectsNode mine o new name) → (IsTrue b ↔ MaySelectNode mine o new)
select_row mine o new name b found is = ((λ t. there (is.0 t)), (λ row. is.1 (back row)))
  where
    there : SelectsNode mine o new name → MaySelectNode mine o new
    there s = record {
      undone = s.undone;
      class = s.delayed.0;
      class_newest = s.delayed.1.0;
      delayed = s.delayed.1.1;
      node = s.told.0;
      node_newest = subst (λ n. IsNewest mine (node_key n) (Node s.told.0)) (sym s.told.1.1) s.told.1.0;
      change = s.change ∙ ap (λ n. with_node o n) (sym s.told.1.1);
    }

    back : MaySelectNode mine o new → SelectsNode mine o new name
    back row =
        let e : row.node.meta.name ≡ name = some_name _ _ (sym (selected_name mine o new row) ∙ found) in record {
          undone = row.undone;
          delayed = (row.class, (row.class_newest, row.delayed));
          told = (row.node, (subst (λ n. IsNewest mine (node_key n) (Node row.node)) e row.node_newest, e));
          change = row.change ∙ ap (λ n. with_node o n) e;
        }

-- one object stands newest

pod_or : PodData → Option Object → PodData
pod_or d (Some (Pod p)) = p
pod_or d o = d

node_or : NodeData → Option Object → NodeData
node_or d (Some (Node n)) = n
node_or d o = d

class_or : ClassData → Option Object → ClassData
class_or d (Some (Class x)) = x
class_or d o = d

pub class_is : (mine : List Entry) (key : Key) (a b : ClassData) → IsNewest mine key (Class a) → IsNewest mine key (Class b) → a ≡ b
unfolding class_or
class_is mine key a b p q = ap (class_or a) (sym p ∙ q)

claim_or : ClaimData → Option Object → ClaimData
claim_or d (Some (Claim x)) = x
claim_or d o = d

pub assign_row : (mine : List Entry) (key : Key) (uid : Uid) (node : List ℕ) (pod : PodData) (on : NodeData) (b : Bool) → IsNewest mine key (Pod pod) → IsNewest mine (node_key node) (Node on)
    → (IsTrue b ↔ IsAssignable mine pod uid on) → (IsTrue b ↔ MayAssign mine key uid node)
assign_row mine key uid node pod on b newest_pod newest_node is = ((λ t. there (is.0 t)), (λ row. is.1 (back row)))
  where
    there : IsAssignable mine pod uid on → MayAssign mine key uid node
    there a = record { pod = pod; newest = newest_pod; same = a.same; unscheduled = a.unscheduled; on = on; node_newest = newest_node; ready = a.ready }

    back : MayAssign mine key uid node → IsAssignable mine pod uid on
    back row =
        let pods : row.pod ≡ pod = pod_is mine key row.pod pod row.newest newest_pod in
        let nodes : row.on ≡ on = node_is mine (node_key node) row.on on row.node_newest newest_node in
        subst (λ p. IsAssignable mine p uid on) pods (subst (λ n. IsAssignable mine row.pod uid n) nodes (record { same = row.same; unscheduled = row.unscheduled; ready = row.ready }))
