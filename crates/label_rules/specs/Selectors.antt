-- Label selectors and node selector terms.
-- Source: Kubernetes documentation, "Labels and Selectors" and "Assigning Pods to Nodes" (node selector terms).
use Rattle.std.specs.Prelude.{ℕ, Bool, true, false, not, ◌&&◌, List, [], ◌∷◌, Option, Some, None, is_some}
use Rattle.std.specs.List.{list_all, list_any}
use Rattle.plain_data.specs.Pairs.{Pair, value_at}
use Rattle.kube_objects.specs.Bindings.{has_name}
use Rattle.kube_parts.specs.declared.parts.Op.{Op}
use Rattle.kube_parts.specs.declared.parts.Op.TheVariants.{In, NotIn, Exists, DoesNotExist}
use Rattle.kube_objects.specs.declared.objects.Expr.{Expr}
use Rattle.kube_objects.specs.declared.objects.Selector.{Selector}
use Rattle.kube_objects.specs.declared.objects.NodeTerms.{NodeTerms}

-- a value that may be absent is one of these
abbrev pub is_one_of : Option (List ℕ) → List (List ℕ) → Bool
is_one_of None values = false
is_one_of (Some value) values = has_name value values

-- NotIn holds where the key is absent
abbrev pub holds_by : Op → Option (List ℕ) → List (List ℕ) → Bool
holds_by In found values = is_one_of found values
holds_by NotIn found values = not (is_one_of found values)
holds_by Exists found values = is_some found
holds_by DoesNotExist found values = not (is_some found)

-- an expression holds of labels
abbrev pub holds : List Pair → Expr → Bool
holds labels e = holds_by e.op (value_at e.key labels) e.values

-- the labels have this pair
abbrev pub has_pair : List Pair → Pair → Bool
has_pair labels p = is_one_of (value_at p.0 labels) (p.1 ∷ [])

-- all pairs and all expressions must hold, so the empty selector selects everything
abbrev pub selects : Selector → List Pair → Bool
selects s labels = list_all (has_pair labels) s.labels && list_all (holds labels) s.exprs

-- all expressions of a term must hold, and the empty term matches nothing
abbrev pub term_matches : List Pair → List Expr → Bool
term_matches labels [] = false
term_matches labels (e ∷ es) = list_all (holds labels) (e ∷ es)

-- terms are alternatives: one of them suffices, so an empty list of them admits no node. Where a volume has no terms at all,
-- every node is admitted
abbrev pub admits : Option NodeTerms → List Pair → Bool
admits None labels = true
admits (Some t) labels = list_any (term_matches labels) t.terms
