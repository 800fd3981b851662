-- The provisioner's rows, as the code tests them.
use Rattle.std.proofs.Common.{◌≡◌, ◌↔◌, IsTrue, ℕ, Bool, true, false, List, Option, Some, sym, ◌∙◌, ap, subst}
use Rattle.plain_data.specs.Pairs.{Pair, value_at, without_key}
use Rattle.kube_parts.specs.declared.uid.Uid.{Uid}
use Rattle.kube_objects.specs.declared.objects.Claim.{Claim as ClaimData}
use Rattle.kube_objects.specs.declared.objects.Class.{Class as ClassData}
use Rattle.kube_objects.specs.declared.objects.Node.{Node as NodeData}
use Rattle.kube_objects.specs.declared.objects.Object.TheVariants.{Class, Node, Claim}
use Rattle.kube_objects.specs.Bindings.{class_of_claim, is_completed, selected_node}
use Rattle.call_types.specs.declared.entry.Entry.{Entry}
use Rattle.binder_model.specs.ObjectKeys.{claim_key, class_key, node_key}
use Rattle.binder_model.specs.OpsLicence.{AreLabels, IsUnserved, MayClearNode, MayProvision}
use Rattle.binder_model.specs.Told.{IsClaimWith, IsNewest}
use Rattle.licence_rows.specs.Asking.{SomeNewest}
use Rattle.licence_rows.proofs.Asks.{claim_newest, newest_claim}
use Rattle.licence_rows.proofs.Picks.{class_is}
use Rattle.model_laws.proofs.NewestRows.{newest_node as node_is}
use Rattle.model_laws.proofs.Lists.{one}
use Rattle.licence_writes.specs.OpsRows.Providing.{IsAsked, IsAskedFor, IsProvided, IsProvidedBy}

-- the labels of a node of this name
abbrev pub NodeLabels : List Entry → List ℕ → Option (List Pair) → Type 0
NodeLabels mine name labels = (node : NodeData) × (IsNewest mine (node_key name) (Node node) × (labels ≡ Some node.meta.labels))

pub label_row : (mine : List Entry) (name : List ℕ) (labels : Option (List Pair)) (node : NodeData) (b : Bool)
    → IsNewest mine (node_key name) (Node node) → (IsTrue b ↔ (labels ≡ Some node.meta.labels)) → (IsTrue b ↔ NodeLabels mine name labels)
label_row mine name labels node b newest is = (
  (λ t. (node, (newest, is.0 t))),
  (λ s. is.1 (s.1.1 ∙ ap (λ (n : NodeData). Some n.meta.labels) (node_is mine (node_key name) s.0 node s.1.0 newest))),
)

pub labels_row : (mine : List Entry) (c : ClaimData) (name : List ℕ) (labels : Option (List Pair)) (b : Bool)
    → value_at selected_node c.meta.annotations ≡ Some name → (IsTrue b ↔ NodeLabels mine name labels) → (IsTrue b ↔ AreLabels mine c true labels)
labels_row mine c name labels b found is = (
  (λ t. (name, found, is.0 t)),
  (λ s. is.1 (subst (λ n. NodeLabels mine n labels) (one _ _ (sym s.1 ∙ found)) s.2)),
)

pub provided_row : (mine : List Entry) (c : ClaimData) (provisioner : List ℕ) (labels : Option (List Pair)) (class : ClassData) (b : Bool) → IsNewest mine (class_key (class_of_claim c)) (Class class)
    → (IsTrue b ↔ IsProvidedBy mine c provisioner labels class) → (IsTrue b ↔ IsProvided mine c provisioner labels)
provided_row mine c provisioner labels class b newest is = (
  (λ t. record { class = class; class_newest = newest; provided = is.0 t }),
  (λ row. is.1 (subst (λ x. IsProvidedBy mine c provisioner labels x) (class_is mine (class_key (class_of_claim c)) row.class class row.class_newest newest) row.provided)),
)

pub asked_row : (name : List ℕ) (bytes : ℕ) (c : ClaimData) (uid : Uid) (b : Bool) → c.meta.uid ≡ Some uid → (IsTrue b ↔ IsAskedFor name bytes c uid) → (IsTrue b ↔ IsAsked name bytes c)
asked_row name bytes c uid b known is = (
  (λ t. (uid, (known, is.0 t))),
  (λ row. is.1 (subst (λ u. IsAskedFor name bytes c u) (one row.0 uid (sym row.1.0 ∙ known)) row.1.1)),
)

pub provision_row : (mine : List Entry) (name provisioner : List ℕ) (bytes : ℕ) (labels : Option (List Pair)) (b : Bool)
    → (IsTrue b ↔ SomeNewest (λ o. IsClaimWith (IsAsked name bytes) o × IsClaimWith (λ c. IsProvided mine c provisioner labels) o) mine) → (IsTrue b ↔ MayProvision mine name provisioner bytes labels)
provision_row mine name provisioner bytes labels b is = (
  (λ t. let c = newest_claim (IsAsked name bytes) (λ c. IsProvided mine c provisioner labels) mine (is.0 t) in there c.0 c.1.0 c.1.1.0 c.1.1.1),
  (λ row. is.1 (claim_newest (IsAsked name bytes) (λ c. IsProvided mine c provisioner labels) mine row.claim row.newest
      (row.uid, (row.known, record { named = row.named; wanting = row.wanting; sized = row.sized }))
      (record { class = row.class; class_newest = row.class_newest; provided = record { by_class = row.by_class; real = row.real; placed = row.placed } }))),
)
  where
    there : (c : ClaimData) → IsNewest mine (claim_key c.meta.namespace c.meta.name) (Claim c) → IsAsked name bytes c
        → IsProvided mine c provisioner labels → MayProvision mine name provisioner bytes labels
    there c newest asked p = record {
      claim = c;
      uid = asked.0;
      known = asked.1.0;
      newest = newest;
      wanting = asked.1.1.wanting;
      class = p.class;
      class_newest = p.class_newest;
      by_class = p.provided.by_class;
      real = p.provided.real;
      named = asked.1.1.named;
      sized = asked.1.1.sized;
      placed = p.provided.placed;
    }

-- the claim without the annotation that names a node
abbrev pub without_node : ClaimData → ClaimData
without_node o = record o { meta = record o.meta { annotations = without_key selected_node o.meta.annotations } }

pub clear_row : (mine : List Entry) (o new : ClaimData) (uid : Uid) (node : List ℕ) (b : Bool) → is_completed o ≡ false → o.meta.uid ≡ Some uid
    → value_at selected_node o.meta.annotations ≡ Some node → new ≡ without_node o
    → (IsTrue b ↔ IsUnserved mine o uid node) → (IsTrue b ↔ MayClearNode mine o new)
clear_row mine o new uid node b undone known selected change is = (
  (λ t. record { undone = undone; uid = uid; known = known; node = node; selected = selected; why = is.0 t; change = change }),
  (λ row. is.1 (subst (λ n. IsUnserved mine o uid n) (one _ _ (sym row.selected ∙ selected)) (subst (λ u. IsUnserved mine o u row.node) (one row.uid uid (sym row.known ∙ known)) row.why))),
)
