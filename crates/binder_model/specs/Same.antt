-- Whether two parts of objects are equal, as tests. Source: the types of the Kubernetes API, part by part.
use Rattle.std.specs.Prelude.{ℕ, ◌==◌, Bool, true, false, ◌&&◌, List, Option, Some, None, bytes_eq}
use Rattle.std.specs.Bool.{beq}
use lib.Pointwise.{pointwise}
use Rattle.plain_data.specs.Pairs.{Pair}
use Rattle.kube_parts.specs.declared.uid.Uid.{Uid}
use Rattle.kube_parts.specs.declared.parts.Modes.{Modes}
use Rattle.kube_parts.specs.declared.parts.Policy.{Policy}
use Rattle.kube_parts.specs.declared.parts.Policy.TheVariants.{Retain, Delete, Recycle}
use Rattle.kube_parts.specs.declared.parts.Op.{Op}
use Rattle.kube_parts.specs.declared.parts.Op.TheVariants.{In, NotIn, Exists, DoesNotExist}
use Rattle.kube_parts.specs.declared.parts.SourceKind.{SourceKind}
use Rattle.kube_parts.specs.declared.parts.SourceKind.TheVariants.{Csi, Nfs, Local, HostPath}
use Rattle.kube_objects.specs.declared.objects.Amount.{Amount}
use Rattle.kube_objects.specs.declared.objects.Ref.{Ref}
use Rattle.kube_objects.specs.declared.objects.Source.{Source}
use Rattle.kube_objects.specs.declared.objects.Expr.{Expr}
use Rattle.kube_objects.specs.declared.objects.Selector.{Selector}
use Rattle.kube_objects.specs.declared.objects.NodeTerms.{NodeTerms}

-- both are absent, or both are there and equal
abbrev pub same_option : {X : Type 0} → (X → X → Bool) → Option X → Option X → Bool
same_option same None None = true
same_option same (Some a) (Some b) = same a b
same_option same _ _ = false

-- the same texts in the same order
abbrev pub same_names : List (List ℕ) → List (List ℕ) → Bool
same_names = pointwise bytes_eq

-- the same key with the same value
abbrev pub same_pair : Pair → Pair → Bool
same_pair p q = bytes_eq p.0 q.0 && bytes_eq p.1 q.1

-- the same keys with the same values
abbrev pub same_pairs : List Pair → List Pair → Bool
same_pairs = pointwise same_pair

-- the same UID
abbrev pub same_uid : Uid → Uid → Bool
same_uid u v = u.0 == v.0

-- the same access modes
abbrev pub same_modes : Modes → Modes → Bool
same_modes a b = beq a.rwo b.rwo && beq a.rox b.rox && beq a.rwx b.rwx && beq a.rwop b.rwop

-- another text of the same bytes is another amount
abbrev pub same_amount : Amount → Amount → Bool
same_amount a b = bytes_eq a.text b.text && a.bytes == b.bytes

-- a number for each reclaim policy, so that two can be compared
abbrev pub policy_index : Policy → ℕ
policy_index Retain = 0
policy_index Delete = 1
policy_index Recycle = 2

-- the same reclaim policy
abbrev pub same_policy : Policy → Policy → Bool
same_policy a b = policy_index a == policy_index b

-- a number for each operator, so that two can be compared
abbrev pub op_index : Op → ℕ
op_index In = 0
op_index NotIn = 1
op_index Exists = 2
op_index DoesNotExist = 3

-- the same requirement: its key, its operator and its values in order
abbrev pub same_expr : Expr → Expr → Bool
same_expr a b = bytes_eq a.key b.key && op_index a.op == op_index b.op && same_names a.values b.values

-- the same requirements in the same order
abbrev pub same_exprs : List Expr → List Expr → Bool
same_exprs = pointwise same_expr

-- the same label selector, as it was written
abbrev pub same_selector : Selector → Selector → Bool
same_selector a b = same_pairs a.labels b.labels && same_exprs a.exprs b.exprs

-- the same node affinity, as it was written
abbrev pub same_terms : NodeTerms → NodeTerms → Bool
same_terms a b = pointwise same_exprs a.terms b.terms

-- a number for each kind of source, so that two can be compared
abbrev pub source_index : SourceKind → ℕ
source_index Csi = 0
source_index Nfs = 1
source_index Local = 2
source_index HostPath = 3

-- the same source: its kind and what it points to
abbrev pub same_source : Source → Source → Bool
same_source a b = source_index a.kind == source_index b.kind && bytes_eq a.first b.first && bytes_eq a.second b.second

-- the same reference to a claim, UID and all
abbrev pub same_ref : Ref → Ref → Bool
same_ref a b = bytes_eq a.namespace b.namespace && bytes_eq a.name b.name && same_option same_uid a.uid b.uid
