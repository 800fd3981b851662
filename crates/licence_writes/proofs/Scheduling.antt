-- The scheduler's rows, by what was told newest of a claim, its volume, its class and a node.
use Rattle.std.proofs.Common.{◌≡◌, ◌↔◌, IsTrue, ℕ, Bool, true, List, subst}
use Rattle.kube_objects.specs.declared.objects.Claim.{Claim as ClaimData}
use Rattle.kube_objects.specs.declared.objects.Class.{Class as ClassData}
use Rattle.kube_objects.specs.declared.objects.Node.{Node as NodeData}
use Rattle.kube_objects.specs.declared.objects.Object.TheVariants.{Class, Node, Claim}
use Rattle.kube_objects.specs.Bindings.{class_of_claim, is_completed}
use Rattle.call_types.specs.declared.entry.Entry.{Entry}
use Rattle.binder_model.specs.ObjectKeys.{class_key, claim_key, node_key}
use Rattle.binder_model.specs.SchedulerLicence.{IsReadyOn}
use Rattle.binder_model.specs.Told.{IsNewest}
use Rattle.licence_rows.specs.Scheduling.{IsAdmitted, IsDelayed, IsNodeTold}
use Rattle.licence_rows.proofs.Picks.{class_is}
use Rattle.model_laws.proofs.NewestRows.{newest_claim as claim_is}
use Rattle.model_laws.proofs.NewestRows.{newest_node as node_is}

pub delayed_row : (mine : List Entry) (o : ClaimData) (class : ClassData) → IsNewest mine (class_key (class_of_claim o)) (Class class) → (IsTrue class.delayed ↔ IsDelayed mine o)
delayed_row mine o class new = (
  (λ t. (class, (new, t))),
  (λ d. subst (λ (x : ClassData). x.delayed ≡ true) (class_is mine (class_key (class_of_claim o)) d.0 class d.1.0 new) d.1.1),
)

pub node_row : (mine : List Entry) (name : List ℕ) (node : NodeData) (b : Bool) → IsNewest mine (node_key name) (Node node) → (IsTrue b ↔ (node.meta.name ≡ name)) → (IsTrue b ↔ IsNodeTold mine name)
node_row mine name node b new is = (
  (λ t. (node, (new, is.0 t))),
  (λ n. is.1 (subst (λ (x : NodeData). x.meta.name ≡ name) (node_is mine (node_key name) n.0 node n.1.0 new) n.1.1)),
)

pub ready_row : (mine : List Entry) (node : NodeData) (namespace name : List ℕ) (claim : ClaimData) (b : Bool)
    → IsNewest mine (claim_key namespace name) (Claim claim) → is_completed claim ≡ true → (IsTrue b ↔ IsAdmitted mine node claim) → (IsTrue b ↔ IsReadyOn mine node namespace name)
ready_row mine node namespace name claim b new completed is = (
  (λ t. let a = is.0 t in record { claim = claim; newest = new; completed = completed; volume = a.0; volume_newest = a.1.0; admitted = a.1.1 }),
  (λ r. is.1 (subst (IsAdmitted mine node) (claim_is mine (claim_key namespace name) r.claim claim r.newest new) (r.volume, (r.volume_newest, r.admitted)))),
)
