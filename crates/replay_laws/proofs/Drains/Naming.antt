-- A script names the node of each of its imports, and each node that one of its lines creates.
use Rattle.std.proofs.Common.{◌≡◌, ◌∙◌, ℕ, List, [], ◌∷◌, drop, true, true≢false, Option, Some, None, inl, inr, refl, sym, ap, subst, if◌then◌else◌}
use Rattle.std.specs.declared.cmp.Ordering.{Ordering}
use Rattle.std.specs.declared.cmp.Ordering.TheVariants.{Less, Equal, Greater}
use Rattle.std.specs.Ordering.{match_ordering}
use Rattle.std.specs.Prelude.{not}
use Rattle.std.proofs.lemmas.Map.Lookups.{exact_bytes}
use Rattle.plain_data.specs.Pairs.{Pair, text_cmp}
use Rattle.kube_objects.specs.declared.objects.Object.{Object}
use Rattle.kube_objects.specs.declared.objects.Object.TheVariants.{Claim, Class, Node, Pod, Volume}
use Rattle.kube_objects.specs.Bindings.{is_empty}
use Rattle.binder_model.specs.Told.{SomeOf}
use Rattle.settle_budget.specs.Nodes.Nodes.{GivesNode}
use Rattle.script_lines.specs.Actors.{agent_word, with_node}
use Rattle.script_text.specs.declared.script.Line.{Line}
use Rattle.script_text.specs.Said.{agents_after, agents_of, and_node, created_node, imported_after, imported_node, nodes_of}

abbrev agent : List ℕ → Pair
agent node = (agent_word node, node)

-- the agent of the node is one of these
abbrev HasAgent : List ℕ → List Pair → Type 0
HasAgent node agents = SomeOf (λ (p : Pair). p ≡ agent node) agents

put_has : (node : List ℕ) (agents : List Pair) → HasAgent node (with_node node agents)
put_has node [] = inl refl
put_has node (p ∷ ps) = by (text_cmp p.0 (agent_word node)) (put_has node ps)
  where
    by : (o : Ordering) → HasAgent node (with_node node ps) → HasAgent node (match_ordering o (p ∷ with_node node ps) (agent node ∷ ps) (agent node ∷ p ∷ ps))
    by Less more = inr more
    by Equal more = inl refl
    by Greater more = inl refl

-- two agents of one name are of one node
put_keeps : (node other : List ℕ) (agents : List Pair) → HasAgent other agents → HasAgent other (with_node node agents)
put_keeps node other [] has = absurd has
put_keeps node other (p ∷ ps) has = by (text_cmp p.0 (agent_word node)) refl has (put_keeps node other ps)
  where
    own : text_cmp p.0 (agent_word node) ≡ Equal → p ≡ agent other → agent node ≡ agent other
    own same is =
        let names : agent_word node ≡ agent_word other = sym (exact_bytes p.0 (agent_word node) same) ∙ ap (λ (q : Pair). q.0) is in
        ap agent (ap (drop 6) names)

    by : (o : Ordering) → text_cmp p.0 (agent_word node) ≡ o → HasAgent other (p ∷ ps) → (HasAgent other ps → HasAgent other (with_node node ps))
        → HasAgent other (match_ordering o (p ∷ with_node node ps) (agent node ∷ ps) (agent node ∷ p ∷ ps))
    by Less e (inl is) later = inl is
    by Less e (inr more) later = inr (later more)
    by Equal e (inl is) later = inl (own e is)
    by Equal e (inr more) later = inr more
    by Greater e among later = inr among

and_has : (node : List ℕ) (o : Option (List ℕ)) (agents : List Pair) → o ≡ Some node → HasAgent node (and_node agents o)
and_has node o agents is = subst (λ x. HasAgent node (and_node agents x)) (sym is) (put_has node agents)

and_keeps : (node : List ℕ) (o : Option (List ℕ)) (agents : List Pair) → HasAgent node agents → HasAgent node (and_node agents o)
and_keeps node None agents has = has
and_keeps node (Some other) agents has = put_keeps other node agents has

-- ---- imports

imports_keep : (node : List ℕ) (agents : List Pair) (os : List Object) → HasAgent node agents → HasAgent node (imported_after agents os)
imports_keep node agents [] has = has
imports_keep node agents (o ∷ os) has = imports_keep node (and_node agents (imported_node o)) os (and_keeps node (imported_node o) agents has)

scheduled_on : (node : List ℕ) → not (is_empty node) ≡ true → (if is_empty node then None else Some node) ≡ Some node
scheduled_on [] none = absurd (true≢false (sym none))
scheduled_on (c ∷ cs) some = refl

given_is : (node : List ℕ) (o : Object) → GivesNode node o → imported_node o ≡ Some node
given_is node (Node n) is = ap Some is
given_is node (Pod p) on = scheduled_on p.node on.1 ∙ ap Some on.0
given_is node (Class x) none = absurd none
given_is node (Volume x) none = absurd none
given_is node (Claim x) none = absurd none

imports_have : (node : List ℕ) (agents : List Pair) (os : List Object) → SomeOf (GivesNode node) os → HasAgent node (imported_after agents os)
imports_have node agents [] some = absurd some
imports_have node agents (o ∷ os) (inl gives) = imports_keep node (and_node agents (imported_node o)) os (and_has node (imported_node o) agents (given_is node o gives))
imports_have node agents (o ∷ os) (inr more) = imports_have node (and_node agents (imported_node o)) os more

-- ---- lines

lines_keep : (node : List ℕ) (agents : List Pair) (lines : List Line) → HasAgent node agents → HasAgent node (agents_after agents lines)
lines_keep node agents [] has = has
lines_keep node agents (line ∷ lines) has = lines_keep node (and_node agents (created_node line)) lines (and_keeps node (created_node line) agents has)

lines_have : (node : List ℕ) (agents : List Pair) (lines : List Line) → SomeOf (λ line. created_node line ≡ Some node) lines → HasAgent node (agents_after agents lines)
lines_have node agents [] some = absurd some
lines_have node agents (line ∷ lines) (inl creates) = lines_keep node (and_node agents (created_node line)) lines (and_has node (created_node line) agents creates)
lines_have node agents (line ∷ lines) (inr more) = lines_have node (and_node agents (created_node line)) lines more

-- ---- the nodes

named : (node : List ℕ) (agents : List Pair) → HasAgent node agents → SomeOf (λ n. n ≡ node) (nodes_of agents)
named node [] has = absurd has
named node (p ∷ ps) (inl is) = inl (ap (λ (q : Pair). q.1) is)
named node (p ∷ ps) (inr more) = inr (named node ps more)

pub imports_named : (node : List ℕ) (imports : List Object) (lines : List Line) → SomeOf (GivesNode node) imports → SomeOf (λ n. n ≡ node) (nodes_of (agents_of imports lines))
imports_named node imports lines some = named node (agents_of imports lines) (lines_keep node (imported_after [] imports) lines (imports_have node [] imports some))

pub lines_named : (node : List ℕ) (imports : List Object) (lines : List Line) → SomeOf (λ line. created_node line ≡ Some node) lines → SomeOf (λ n. n ≡ node) (nodes_of (agents_of imports lines))
lines_named node imports lines some = named node (agents_of imports lines) (lines_have node (imported_after [] imports) lines some)
