-- What the reader of scripts gives keeps the limits of scripts: each is a script that a text can give.
use Rattle.std.proofs.Common.{
  ◌≡◌,
  ℕ,
  ◌≤◌,
  ◌+◌,
  List,
  [],
  ◌∷◌,
  ◌++◌,
  length,
  Bool,
  true,
  false,
  true≢false,
  cond,
  Option,
  Some,
  None,
  Result,
  Ok,
  Err,
  IfOk,
  refl,
  sym,
  ap,
  ◌∙◌,
  arith,
  subst,
  append_assoc,
  append-nil,
  if◌then◌else◌,
}
use Rattle.std.specs.Prelude.{◌&&◌, ◌||◌, bytes_eq, nat_le, nat_lt, is_some, option_and_then, option_map}
use Rattle.std.specs.Ordering.{is_eq}
use Rattle.std.proofs.lemmas.Bool.{leb-true, ltb-false}
use Rattle.std.proofs.lemmas.Cmp.{nat_list_cmp_total}
use Rattle.std.proofs.lemmas.List.{length-map}
use Rattle.std.proofs.lemmas.List.Sums.{sum_by_push}
use Rattle.std.proofs.lemmas.Slice.Eq.{bytes_eq-Decides}
use Rattle.plain_data.specs.Pairs.{ArePairs, Pair, pair_at, pair_key, text_cmp, value_at}
use Rattle.plain_data.specs.Rows.{IsAfter}
use Rattle.plain_data.proofs.RowFacts.{rising_put}
use Rattle.kube_objects.specs.Bindings.{has_name}
use Rattle.kube_parts.specs.Named.{value_named}
use Rattle.kube_objects.specs.declared.objects.Object.{Object}
use Rattle.call_types.specs.declared.request.Request.{Request}
use Rattle.script_lines.specs.declared.actors.Actor.{Actor}
use Rattle.script_lines.specs.declared.actors.Actor.TheVariants.{Worker, Agent}
use Rattle.script_lines.specs.declared.actors.Worker.{Worker as WorkerData}
use Rattle.script_lines.specs.declared.errors.Reason.TheVariants.{TooManyNodes, TooManyObjects}
use Rattle.script_lines.specs.declared.errors.BadLine.{BadLine}
use Rattle.script_lines.specs.Actors.{agent_word, all_workers, worker_or, worker_word}
use Rattle.script_lines.specs.Members.{most_turn}
use Rattle.script_text.specs.declared.script.Line.{Line}
use Rattle.script_text.specs.declared.script.Line.TheVariants.{Call, Lose, Restart, Turn, Drain}
use Rattle.script_text.specs.declared.script.Numbered.{Numbered}
use Rattle.script_text.specs.declared.script.Script.{Script}
use Rattle.script_text.specs.Said.{agents_after, agents_of, and_node, created, created_by, created_node, creates, imported_after, imported_node, node_name, nodes_of, objects_of}
use Rattle.script_text.specs.Grammar.{create_limit, first_of, line_limit, most_nodes, most_objects, object_limit, passed, read_numbered_of, script_from, script_of}
use Rattle.script_laws.specs.Read.Given.{IsActor, IsCount, IsLineAfter}
use Rattle.script_laws.specs.Read.Scripts.{AreImportsAfter, AreLinesAfter, IsScript}
use Rattle.script_laws.proofs.Read.Imports.{imports_given}
use Rattle.script_laws.proofs.Read.MembersGive.{AreAgents}
use Rattle.script_laws.proofs.Read.TextsGive.{ScriptGiven, agents_and, script_gives}
use Rattle.script_runs.specs.Limits.{NamesAreInOrder, AreWithinLimits, IsKnown, IsReadable, IsWithinLimits, NameKnown, NamesKnown}
use Rattle.script_text.proofs.Indexes.{agents_more}

-- ---- numbers of lines

count_most : (most n : ℕ) → IsCount most n → n ≤ most
count_most most n is = by (nat_le 1 n) (nat_le n most) refl is
  where
    by : (b c : Bool) → nat_le n most ≡ c → (b && c) ≡ true → n ≤ most
    by true true e h = leb-true n most e
    by true false e h = absurd (true≢false (sym h))
    by false c e h = absurd (true≢false (sym h))

count_least : (most n : ℕ) → IsCount most n → 1 ≤ n
count_least most n is = by (nat_le 1 n) refl is
  where
    by : (b : Bool) → nat_le 1 n ≡ b → (b && nat_le n most) ≡ true → 1 ≤ n
    by true e h = leb-true 1 n e
    by false e h = absurd (true≢false (sym h))

line_within : (agents : List Pair) (before : List Line) (line : Line) → IsLineAfter agents before line → IsWithinLimits line
line_within agents before (Call user request) is = let least = count_least 4 user is.0 in let most = count_most 4 user is.0 in (omega (arith, least), omega (arith, most))
line_within agents before (Lose actor call after) is = tt
line_within agents before (Restart actor after) is = tt
line_within agents before (Turn actor calls) is = count_most most_turn calls is.1
line_within agents before Drain is = tt

lines_within : (imports : List Object) (agents : List Pair) (before lines : List Line) → AreLinesAfter imports agents before lines → AreWithinLimits lines
lines_within imports agents before [] are = tt
lines_within imports agents before (line ∷ lines) are = (line_within agents before line are.0, lines_within imports agents (before ++ line ∷ []) lines are.2)

-- ---- how many nodes there are

few_nodes : (imports : List Object) (lines : List Line) → object_limit imports lines ≡ None → length (agents_of imports lines) ≤ 8
few_nodes imports lines none = by (nat_lt most_objects (objects_of imports lines)) (nat_lt most_nodes (length (agents_of imports lines))) refl none
  where
    by : (b c : Bool) → nat_lt most_nodes (length (agents_of imports lines)) ≡ c → first_of (passed b TooManyObjects) (passed c TooManyNodes) ≡ None → length (agents_of imports lines) ≤ 8
    by true c is h = absurd (cc)
    by false true is h = absurd (cc)
    by false false is h = ltb-false 8 (length (agents_of imports lines)) is

-- ---- how many objects there are

few_objects : (imports : List Object) (lines : List Line) → object_limit imports lines ≡ None → objects_of imports lines ≤ 1024
few_objects imports lines none = by (nat_lt most_objects (objects_of imports lines)) (nat_lt most_nodes (length (agents_of imports lines))) refl none
  where
    by : (b c : Bool) → nat_lt most_objects (objects_of imports lines) ≡ b → first_of (passed b TooManyObjects) (passed c TooManyNodes) ≡ None → objects_of imports lines ≤ 1024
    by true c is h = absurd (cc)
    by false c is h = ltb-false 1024 (objects_of imports lines) is

abbrev counted : Option Object → ℕ
counted o = cond (is_some o) 1 0

-- one line more creates an object, or none
created_more : (lines : List Line) (line : Line) → creates (lines ++ line ∷ []) ≡ creates lines + counted (created line)
created_more lines line = sum_by_push (λ l. counted (created l)) lines line

module _ (imports : List Object) where
  kept_objects : (lines : List Line) (line : Line) → created line ≡ None → objects_of imports lines ≤ 1024 → objects_of imports (lines ++ line ∷ []) ≤ 1024
  kept_objects lines line none few =
      let more = created_more lines line in
      let zero_more : counted (created line) ≡ 0 = ap counted none in
      omega (arith, few, more, zero_more)

  asked_objects : (lines : List Line) (user : ℕ) (request : Request) (o : Option Object) → created_by request ≡ o
      → create_limit imports (lines ++ Call user request ∷ []) (is_some o) ≡ None → objects_of imports lines ≤ 1024
      → objects_of imports (lines ++ Call user request ∷ []) ≤ 1024
  asked_objects lines user request (Some o) is none few = few_objects imports (lines ++ Call user request ∷ []) none
  asked_objects lines user request None is none few = kept_objects lines (Call user request) is few

  objects_kept : (lines : List Line) (line : Line) → line_limit imports (lines ++ line ∷ []) line ≡ None → objects_of imports lines ≤ 1024 → objects_of imports (lines ++ line ∷ []) ≤ 1024
  objects_kept lines (Call user request) none few = asked_objects lines user request (created_by request) refl none few
  objects_kept lines (Lose actor call after) none few = kept_objects lines (Lose actor call after) refl few
  objects_kept lines (Restart actor after) none few = kept_objects lines (Restart actor after) refl few
  objects_kept lines (Turn actor calls) none few = kept_objects lines (Turn actor calls) refl few
  objects_kept lines Drain none few = kept_objects lines Drain refl few

  objects_few : (agents : List Pair) (before lines : List Line) → AreLinesAfter imports agents before lines → objects_of imports before ≤ 1024 → objects_of imports (before ++ lines) ≤ 1024
  objects_few agents before [] are few = subst (λ (ls : List Line). objects_of imports ls ≤ 1024) (sym (append-nil before)) few
  objects_few agents before (line ∷ lines) are few =
      subst (λ (ls : List Line). objects_of imports ls ≤ 1024) (append_assoc before (line ∷ []) lines) (objects_few agents (before ++ line ∷ []) lines are.2 (objects_kept before line are.1 few))

-- imported objects pass no limit either
imported_few : (before imports : List Object) → AreImportsAfter before imports → objects_of before [] ≤ 1024 → objects_of (before ++ imports) [] ≤ 1024
imported_few before [] are few = subst (λ (os : List Object). objects_of os [] ≤ 1024) (sym (append-nil before)) few
imported_few before (o ∷ os) are few =
    subst (λ (all : List Object). objects_of all [] ≤ 1024) (append_assoc before (o ∷ []) os) (imported_few (before ++ o ∷ []) os are.1 (few_objects (before ++ o ∷ []) [] are.0.few))

-- ---- agents of as many nodes

module _ (imports : List Object) where
  same_agents : (lines : List Line) (line : Line) → created_node line ≡ None → length (agents_of imports lines) ≤ 8 → length (agents_of imports (lines ++ line ∷ [])) ≤ 8
  same_agents lines line none few =
      let same : agents_of imports (lines ++ line ∷ []) ≡ agents_of imports lines = agents_more (imported_after [] imports) lines line ∙ ap (λ o. and_node (agents_of imports lines) o) none in
      let long : length (agents_of imports (lines ++ line ∷ [])) ≡ length (agents_of imports lines) = ap length same in
      omega arith

  created_few : (lines : List Line) (created : Option Object) → create_limit imports lines (is_some created) ≡ None
      → (option_and_then node_name created ≡ None → length (agents_of imports lines) ≤ 8) → length (agents_of imports lines) ≤ 8
  created_few lines (Some o) none h = few_nodes imports lines none
  created_few lines None none h = h refl

  nodes_kept : (lines : List Line) (line : Line) → line_limit imports (lines ++ line ∷ []) line ≡ None → length (agents_of imports lines) ≤ 8 → length (agents_of imports (lines ++ line ∷ [])) ≤ 8
  nodes_kept lines (Call user request) none few = created_few (lines ++ Call user request ∷ []) (created_by request) none (λ no. same_agents lines (Call user request) no few)
  nodes_kept lines (Lose actor call after) none few = same_agents lines (Lose actor call after) refl few
  nodes_kept lines (Restart actor after) none few = same_agents lines (Restart actor after) refl few
  nodes_kept lines (Turn actor calls) none few = same_agents lines (Turn actor calls) refl few
  nodes_kept lines Drain none few = same_agents lines Drain refl few

  lines_few : (agents : List Pair) (before lines : List Line) → AreLinesAfter imports agents before lines → length (agents_of imports before) ≤ 8 → length (agents_of imports (before ++ lines)) ≤ 8
  lines_few agents before [] are few = subst (λ (ls : List Line). length (agents_of imports ls) ≤ 8) (sym (append-nil before)) few
  lines_few agents before (line ∷ lines) are few =
      subst (λ (ls : List Line). length (agents_of imports ls) ≤ 8) (append_assoc before (line ∷ []) lines) (lines_few agents (before ++ line ∷ []) lines are.2 (nodes_kept before line are.1 few))

-- imported objects pass no limit either
imports_few : (before imports : List Object) → AreImportsAfter before imports → length (agents_of before []) ≤ 8 → length (agents_of (before ++ imports) []) ≤ 8
imports_few before [] are few = subst (λ (os : List Object). length (agents_of os []) ≤ 8) (sym (append-nil before)) few
imports_few before (o ∷ os) are few =
    subst (λ (all : List Object). length (agents_of all []) ≤ 8) (append_assoc before (o ∷ []) os) (imports_few (before ++ o ∷ []) os are.1 (few_nodes (before ++ o ∷ []) [] are.0.few))

-- ---- the order of the nodes

-- agents in the order of their names, each by the name of its node
pub record AreNamed (agents : List Pair) : Type 0 where
  pub names : AreAgents agents
  pub order : ArePairs agents

named_and : (agents : List Pair) (node : Option (List ℕ)) → AreNamed agents → AreNamed (and_node agents node)
named_and agents None h = h
named_and agents (Some node) h = record { names = agents_and agents (Some node) h.names; order = rising_put nat_list_cmp_total pair_key (agent_word node, node) agents h.order }

named_imported : (agents : List Pair) (imports : List Object) → AreNamed agents → AreNamed (imported_after agents imports)
named_imported agents [] h = h
named_imported agents (o ∷ os) h = named_imported (and_node agents (imported_node o)) os (named_and agents (imported_node o) h)

named_after : (agents : List Pair) (lines : List Line) → AreNamed agents → AreNamed (agents_after agents lines)
named_after agents [] h = h
named_after agents (line ∷ lines) h = named_after (and_node agents (created_node line)) lines (named_and agents (created_node line) h)

-- names with the same beginning stand as their ends do
after_nodes : (p : Pair) (ps : List Pair) → p.0 ≡ agent_word p.1 → AreAgents ps → IsAfter text_cmp pair_key p ps → IsAfter text_cmp (λ name. name) p.1 (nodes_of ps)
after_nodes p [] is are after = tt
after_nodes p (q ∷ ps) is are after = (sym (ap (λ (name : List ℕ). text_cmp name q.0) is ∙ ap (text_cmp (agent_word p.1)) are.0) ∙ after.0, after_nodes p ps is are.1 after.1)

nodes_in_order : (agents : List Pair) → AreAgents agents → ArePairs agents → NamesAreInOrder (nodes_of agents)
nodes_in_order [] are order = tt
nodes_in_order (p ∷ ps) are order = (after_nodes p ps are.0 are.1 order.0, nodes_in_order ps are.1 order.1)

-- ---- the agents that lines name

found_node : (agents : List Pair) (name node : List ℕ) → option_map (λ (p : Pair). p.1) (pair_at name agents) ≡ Some node → has_name node (nodes_of agents) ≡ true
found_node [] name node found = absurd cc
found_node (p ∷ ps) name node found = by (is_eq (text_cmp p.0 name)) found (found_node ps name node)
  where
    by : (b : Bool) → option_map (λ (q : Pair). q.1) (if b then Some p else pair_at name ps) ≡ Some node
        → (option_map (λ (q : Pair). q.1) (pair_at name ps) ≡ Some node → has_name node (nodes_of ps) ≡ true)
        → (bytes_eq p.1 node || has_name node (nodes_of ps)) ≡ true
    by true here rest = let same : p.1 ≡ node = cc in ap (λ b. b || has_name node (nodes_of ps)) (ap (λ (n : List ℕ). bytes_eq n node) same ∙ (bytes_eq-Decides node node).1 refl)
    by false later rest = at_last (bytes_eq p.1 node) (has_name node (nodes_of ps)) (rest later)
      where
        at_last : (a b : Bool) → b ≡ true → (a || b) ≡ true
        at_last true b h = refl
        at_last false b h = h

actor_known : (agents : List Pair) (actor : Actor) → IsActor agents actor → IsKnown (nodes_of agents) actor
actor_known agents (Worker w) is = tt
actor_known agents (Agent node) is = by (value_named worker_word all_workers (agent_word node)) (value_at (agent_word node) agents) refl is
  where
    by : (w : Option WorkerData) (found : Option (List ℕ)) → value_at (agent_word node) agents ≡ found
        → worker_or w (option_map (λ n. Agent n) found) ≡ Some (Agent node) → has_name node (nodes_of agents) ≡ true
    by (Some w) found at e = absurd cc
    by None (Some other) at e = let same : other ≡ node = cc in found_node agents (agent_word node) node (at ∙ ap (λ n. Some n) same)
    by None None at e = absurd cc

line_known : (agents : List Pair) (before : List Line) (line : Line) → IsLineAfter agents before line → NamesKnown (nodes_of agents) line
line_known agents before (Call user request) is = tt
line_known agents before (Lose actor call after) is = actor_known agents actor is.0
line_known agents before (Restart actor after) is = actor_known agents actor is.0
line_known agents before (Turn actor calls) is = actor_known agents actor is.0
line_known agents before Drain is = tt

lines_known : (imports : List Object) (agents : List Pair) (before lines : List Line) → AreLinesAfter imports agents before lines → NameKnown (nodes_of agents) lines
lines_known imports agents before [] are = tt
lines_known imports agents before (line ∷ lines) are = (line_known agents before line are.0, lines_known imports agents (before ++ line ∷ []) lines are.2)

-- ---- the script

-- a script that a text can give is readable
pub script_readable : (script : Script) → IsScript script → IsReadable script
script_readable script is =
    let nodes = sym is.nodes in
    let imports = script.setup.imports in
    let agents = agents_of imports script.lines in
    let long = length-map agents (λ (p : Pair). p.1) in
    let most = lines_few imports agents [] script.lines is.lines (imports_few [] imports is.imports (omega arith)) in
    let few = is.few_lines in
    let named = named_after (imported_after [] imports) script.lines (named_imported [] imports (record { names = tt; order = tt })) in
    let pass = imports_given script is in
    record {
      imports = pass.pass;
      lines = lines_within imports agents [] script.lines is.lines;
      few = omega (arith, few);
      objects = objects_few imports agents [] script.lines is.lines (imported_few [] imports is.imports (omega arith));
      nodes = subst (λ (names : List (List ℕ)). length names ≤ 8) nodes (omega (arith, long, most));
      order = subst NamesAreInOrder nodes (nodes_in_order agents named.names named.order);
      known = subst (λ (names : List (List ℕ)). NameKnown names script.lines) nodes (lines_known imports agents [] script.lines is.lines);
    }

-- what `read_script` answers is readable
pub read_is_readable : (bytes : List ℕ) (script : Script) → script_of bytes ≡ Ok script → IsReadable script
read_is_readable bytes script e = by (script_of bytes) (script_gives bytes) e
  where
    by : (r : Result Script BadLine) → IfOk r ScriptGiven → r ≡ Ok script → IsReadable script
    by (Ok s) given is = let same : s ≡ script = cc in subst IsReadable same (script_readable s given.script)
    by (Err b) given is = absurd cc

-- what `read_numbered` answers is readable
pub numbered_is_readable : (bytes : List ℕ) (n : Numbered) → read_numbered_of bytes ≡ Ok n → IsReadable n.script
numbered_is_readable bytes n e = read_is_readable bytes n.script (ap script_from e)
