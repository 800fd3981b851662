-- The tests of equality of parts of objects decide equality.
use Rattle.std.proofs.Common.{◌≡◌, ◌==◌, ℕ, zero, suc, Bool, List, Option, Some, None, refl, ap, sym, ◌∙◌, true≢false}
use Rattle.std.specs.Bool.{Decides}
use Rattle.std.specs.Cmp.{booleans_Decides}
use Rattle.std.proofs.lemmas.Bool.Decides.{Decides-eqb, Decides-and, Decides-like}
use Rattle.std.proofs.lemmas.Slice.Eq.{bytes_eq-Decides}
use lib.Pointwise.{pointwise_decides}
use Rattle.plain_data.specs.Pairs.{Pair}
use Rattle.kube_parts.specs.declared.uid.Uid.{Uid}
use Rattle.kube_parts.specs.declared.parts.Modes.{Modes}
use Rattle.kube_parts.specs.declared.parts.Policy.{Policy}
use Rattle.kube_parts.specs.declared.parts.Policy.TheVariants.{Retain, Delete, Recycle}
use Rattle.kube_parts.specs.declared.parts.Op.{Op}
use Rattle.kube_parts.specs.declared.parts.Op.TheVariants.{In, NotIn, Exists, DoesNotExist}
use Rattle.kube_parts.specs.declared.parts.SourceKind.{SourceKind}
use Rattle.kube_parts.specs.declared.parts.SourceKind.TheVariants.{Csi, Nfs, Local, HostPath}
use Rattle.kube_objects.specs.declared.objects.Amount.{Amount}
use Rattle.kube_objects.specs.declared.objects.Ref.{Ref}
use Rattle.kube_objects.specs.declared.objects.Source.{Source}
use Rattle.kube_objects.specs.declared.objects.Expr.{Expr}
use Rattle.kube_objects.specs.declared.objects.Selector.{Selector}
use Rattle.kube_objects.specs.declared.objects.NodeTerms.{NodeTerms}
use Rattle.binder_model.specs.Same.{
  same_option,
  same_names,
  same_pair,
  same_pairs,
  same_uid,
  same_modes,
  same_amount,
  policy_index,
  same_policy,
  op_index,
  same_expr,
  same_exprs,
  same_selector,
  same_terms,
  source_index,
  same_source,
  same_ref,
}

-- a test decides the equality of values that come back from what it compares
module _ {X : Type 0} (index : X → ℕ) (at : ℕ → X) (back : (x : X) → at (index x) ≡ x) where
  index-Decides : (a b : X) → Decides (index a == index b) (a ≡ b)
  index-Decides a b = Decides-like _ (λ e. sym (back a) ∙ ap at e ∙ back b) (λ e. ap index e) (Decides-eqb (index a) (index b))

module _ {X : Type 0} (same : X → X → Bool) (decides : (a b : X) → Decides (same a b) (a ≡ b)) where
  pub same_option-Decides : (a b : Option X) → Decides (same_option same a b) (a ≡ b)
  same_option-Decides None None = (λ e. refl, λ e. refl)
  same_option-Decides None (Some b) = (λ e. absurd (true≢false (sym e)), λ e. cc)
  same_option-Decides (Some a) None = (λ e. absurd (true≢false (sym e)), λ e. cc)
  same_option-Decides (Some a) (Some b) = Decides-like _ (λ e. ap Some e) (λ e. cc) (decides a b)

pub same_names-Decides : (a b : List (List ℕ)) → Decides (same_names a b) (a ≡ b)
same_names-Decides = pointwise_decides bytes_eq-Decides

pub same_pair-Decides : (a b : Pair) → Decides (same_pair a b) (a ≡ b)
same_pair-Decides a b = Decides-like _ (λ e i. (e.0 i, e.1 i)) (λ e. (ap (λ p. p.0) e, ap (λ p. p.1) e)) (Decides-and _ _ (bytes_eq-Decides a.0 b.0) (bytes_eq-Decides a.1 b.1))

pub same_pairs-Decides : (a b : List Pair) → Decides (same_pairs a b) (a ≡ b)
same_pairs-Decides = pointwise_decides same_pair-Decides

pub same_uid-Decides : (a b : Uid) → Decides (same_uid a b) (a ≡ b)
same_uid-Decides a b = Decides-like _ (λ e i. record { 0 = e i }) (λ e. ap (λ u. u.0) e) (Decides-eqb a.0 b.0)

pub same_modes-Decides : (a b : Modes) → Decides (same_modes a b) (a ≡ b)
same_modes-Decides a b =
    Decides-like _ (λ e i. record { rwo = e.0.0.0 i; rox = e.0.0.1 i; rwx = e.0.1 i; rwop = e.1 i })
    (λ e. (((ap (λ m. m.rwo) e, ap (λ m. m.rox) e), ap (λ m. m.rwx) e), ap (λ m. m.rwop) e))
    (Decides-and _ _ (Decides-and _ _ (Decides-and _ _ (booleans_Decides a.rwo b.rwo) (booleans_Decides a.rox b.rox)) (booleans_Decides a.rwx b.rwx)) (booleans_Decides a.rwop b.rwop))

pub same_amount-Decides : (a b : Amount) → Decides (same_amount a b) (a ≡ b)
same_amount-Decides a b =
    Decides-like _ (λ e i. record { text = e.0 i; bytes = e.1 i }) (λ e. (ap (λ m. m.text) e, ap (λ m. m.bytes) e))
    (Decides-and _ _ (bytes_eq-Decides a.text b.text) (Decides-eqb a.bytes b.bytes))

policy_at : ℕ → Policy
policy_at zero = Retain
policy_at (suc zero) = Delete
policy_at n = Recycle

policy_back : (p : Policy) → policy_at (policy_index p) ≡ p
unfolding policy_at
policy_back Retain = refl
policy_back Delete = refl
policy_back Recycle = refl

pub same_policy-Decides : (a b : Policy) → Decides (same_policy a b) (a ≡ b)
same_policy-Decides = index-Decides policy_index policy_at policy_back

op_at : ℕ → Op
op_at zero = In
op_at (suc zero) = NotIn
op_at (suc (suc zero)) = Exists
op_at n = DoesNotExist

op_back : (o : Op) → op_at (op_index o) ≡ o
unfolding op_at
op_back In = refl
op_back NotIn = refl
op_back Exists = refl
op_back DoesNotExist = refl

op-Decides : (a b : Op) → Decides (op_index a == op_index b) (a ≡ b)
op-Decides = index-Decides op_index op_at op_back

pub same_expr-Decides : (a b : Expr) → Decides (same_expr a b) (a ≡ b)
same_expr-Decides a b =
    Decides-like _ (λ e i. record { key = e.0.0 i; op = e.0.1 i; values = e.1 i })
    (λ e. ((ap (λ x. x.key) e, ap (λ x. x.op) e), ap (λ x. x.values) e))
    (Decides-and _ _ (Decides-and _ _ (bytes_eq-Decides a.key b.key) (op-Decides a.op b.op)) (same_names-Decides a.values b.values))

pub same_exprs-Decides : (a b : List Expr) → Decides (same_exprs a b) (a ≡ b)
same_exprs-Decides = pointwise_decides same_expr-Decides

pub same_selector-Decides : (a b : Selector) → Decides (same_selector a b) (a ≡ b)
same_selector-Decides a b =
    Decides-like _ (λ e i. record { labels = e.0 i; exprs = e.1 i }) (λ e. (ap (λ s. s.labels) e, ap (λ s. s.exprs) e))
    (Decides-and _ _ (same_pairs-Decides a.labels b.labels) (same_exprs-Decides a.exprs b.exprs))

pub same_terms-Decides : (a b : NodeTerms) → Decides (same_terms a b) (a ≡ b)
same_terms-Decides a b = Decides-like _ (λ e i. record { terms = e i }) (λ e. ap (λ t. t.terms) e) (pointwise_decides same_exprs-Decides a.terms b.terms)

source_at : ℕ → SourceKind
source_at zero = Csi
source_at (suc zero) = Nfs
source_at (suc (suc zero)) = Local
source_at n = HostPath

source_back : (k : SourceKind) → source_at (source_index k) ≡ k
unfolding source_at
source_back Csi = refl
source_back Nfs = refl
source_back Local = refl
source_back HostPath = refl

pub same_source-Decides : (a b : Source) → Decides (same_source a b) (a ≡ b)
same_source-Decides a b =
    Decides-like _ (λ e i. record { kind = e.0.0 i; first = e.0.1 i; second = e.1 i })
    (λ e. ((ap (λ s. s.kind) e, ap (λ s. s.first) e), ap (λ s. s.second) e))
    (Decides-and _ _ (Decides-and _ _ (index-Decides source_index source_at source_back a.kind b.kind) (bytes_eq-Decides a.first b.first)) (bytes_eq-Decides a.second b.second))

pub same_ref-Decides : (a b : Ref) → Decides (same_ref a b) (a ≡ b)
same_ref-Decides a b =
    Decides-like _ (λ e i. record { namespace = e.0.0 i; name = e.0.1 i; uid = e.1 i })
    (λ e. ((ap (λ r. r.namespace) e, ap (λ r. r.name) e), ap (λ r. r.uid) e))
    (Decides-and _ _ (Decides-and _ _ (bytes_eq-Decides a.namespace b.namespace) (bytes_eq-Decides a.name b.name)) (same_option-Decides same_uid same_uid-Decides a.uid b.uid))
