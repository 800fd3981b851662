-- What stands beside the lines, with one line more.
use Rattle.std.proofs.Common.{◌≡◌, ℕ, ◌+◌, ◌<◌, ◌≤◌, List, [], ◌∷◌, ◌++◌, length, Bool, true, false, Option, Some, None, cond, refl, sym, ap, ◌∙◌, append-nil, arith, subst, ltb, length-append}
use Rattle.std.specs.List.{flat_map, sum_by}
use Rattle.std.specs.Prelude.{is_some, option_and_then}
use Rattle.std.proofs.lemmas.List.Concat.{flat_map-append}
use Rattle.std.proofs.lemmas.List.Sums.{sum_by-append}
use Rattle.std.proofs.lemmas.Bool.{lt-ltb, le-ltb}
use Rattle.plain_data.specs.Pairs.{Pair}
use Rattle.kube_objects.specs.declared.objects.Object.{Object}
use Rattle.script_lines.specs.declared.actors.Actor.{Actor}
use Rattle.script_text.specs.declared.script.Line.{Line}
use Rattle.script_text.specs.declared.script.Line.TheVariants.{Call, Lose, Restart, Turn, Drain}
use Rattle.script_text.specs.declared.numbers.NumberRow.{NumberRow}
use Rattle.script_text.specs.declared.index.Index.{Index}
use Rattle.script_lines.specs.Actors.{actor_word}
use Rattle.script_text.specs.Said.{
  and_node,
  created,
  created_node,
  node_name,
  imported_node,
  creates,
  has_begun,
  agents_after,
  imported_after,
  agents_of,
  objects_of,
  loss_of,
  losses_of,
  restart_of,
  restarts_of,
  turn_calls,
  calls_of,
}
use Rattle.script_text.specs.Steps.Indexed.{IsIndex}
use Rattle.script_text.specs.Steps.Numbers.{numbers_at, and_number}
use Rattle.call_types.specs.declared.request.Request.{Request}
use Rattle.script_lines.specs.declared.errors.Reason.TheVariants.{TooManyObjects, TooManyNodes, TooManyLosses, TooManyRestarts}
use Rattle.script_text.specs.Grammar.{most_objects, most_nodes, most_losses, most_restarts, most_calls, create_limit, line_limit, object_limit}
use Rattle.script_text.proofs.NumberRows.{numbers_more}

pub agents_more : (agents : List Pair) (lines : List Line) (line : Line) → agents_after agents (lines ++ line ∷ []) ≡ and_node (agents_after agents lines) (created_node line)
agents_more agents [] line = refl
agents_more agents (l ∷ ls) line = agents_more (and_node agents (created_node l)) ls line

flat_more : {X A : Type 0} (f : X → List A) (xs : List X) (x : X) → flat_map f (xs ++ x ∷ []) ≡ flat_map f xs ++ f x
flat_more f xs x = flat_map-append f xs (x ∷ []) ∙ ap (λ ys. flat_map f xs ++ ys) (append-nil (f x))

sum_more : {X : Type 0} (f : X → ℕ) (xs : List X) (x : X) → sum_by f (xs ++ x ∷ []) ≡ sum_by f xs + f x
sum_more f xs x = let e : sum_by f (x ∷ []) ≡ f x = omega arith in sum_by-append f xs (x ∷ []) ∙ ap (λ n. sum_by f xs + n) e

abbrev counted : Option Object → ℕ
counted o = cond (is_some o) 1 0

-- what has grown by a line is the index of the lines with it
pub record Grows (old new : Index) (line : Line) : Type 0 where
  pub agents : new.agents ≡ and_node old.agents (created_node line)
  pub losses : (name : List ℕ) → numbers_at name new.losses ≡ numbers_at name old.losses ++ loss_of name line
  pub restarts : (name : List ℕ) → numbers_at name new.restarts ≡ numbers_at name old.restarts ++ restart_of name line
  pub objects : new.objects ≡ old.objects + counted (created line)
  pub calls : new.calls ≡ old.calls + turn_calls line

-- the index has one object more, with this node
pub record HasOneMore (old new : Index) (node : Option (List ℕ)) : Type 0 where
  pub agents : new.agents ≡ and_node old.agents node
  pub losses : new.losses ≡ old.losses
  pub restarts : new.restarts ≡ old.restarts
  pub objects : new.objects ≡ old.objects + 1
  pub calls : new.calls ≡ old.calls

no_loss : (name : List ℕ) (line : Line) (o : Object) → created line ≡ Some o → loss_of name line ≡ []
no_loss name (Call user request) o e = refl
no_loss name (Lose actor call after) o e = absurd (cc)
no_loss name (Restart actor after) o e = absurd (cc)
no_loss name (Turn actor calls) o e = absurd (cc)
no_loss name Drain o e = absurd (cc)

no_restart : (name : List ℕ) (line : Line) (o : Object) → created line ≡ Some o → restart_of name line ≡ []
no_restart name (Call user request) o e = refl
no_restart name (Lose actor call after) o e = absurd (cc)
no_restart name (Restart actor after) o e = absurd (cc)
no_restart name (Turn actor calls) o e = absurd (cc)
no_restart name Drain o e = absurd (cc)

no_calls : (line : Line) (o : Object) → created line ≡ Some o → turn_calls line ≡ 0
no_calls (Call user request) o e = refl
no_calls (Lose actor call after) o e = absurd (cc)
no_calls (Restart actor after) o e = absurd (cc)
no_calls (Turn actor calls) o e = absurd (cc)
no_calls Drain o e = absurd (cc)

with_none : (ns ms : List ℕ) → ms ≡ [] → ns ≡ ns ++ ms
with_none ns ms e = sym (ap (λ ks. ns ++ ks) e ∙ append-nil ns)

grows_create : (old new : Index) (line : Line) (o : Object) → created line ≡ Some o → HasOneMore old new (node_name o) → Grows old new line
grows_create old new line o e h = record {
  agents = h.agents ∙ ap (λ x. and_node old.agents (option_and_then node_name x)) (sym e);
  losses = λ name. ap (numbers_at name) h.losses ∙ with_none (numbers_at name old.losses) (loss_of name line) (no_loss name line o e);
  restarts = λ name. ap (numbers_at name) h.restarts ∙ with_none (numbers_at name old.restarts) (restart_of name line) (no_restart name line o e);
  objects = h.objects ∙ ap (λ x. old.objects + counted x) (sym e);
  calls = let none = no_calls line o e in omega (arith, h.calls, none);
}

-- a line that creates nothing and names no actor
same_agents : (agents : List Pair) (line : Line) → created line ≡ None → agents ≡ and_node agents (created_node line)
same_agents agents line e = sym (ap (λ x. and_node agents (option_and_then node_name x)) e)

creates_more : (lines : List Line) (line : Line) (o : Object) → created line ≡ Some o → creates (lines ++ line ∷ []) ≡ creates lines + 1
creates_more lines line o e = sum_more (λ l. cond (is_some (created l)) 1 0) lines line ∙ ap (λ x. creates lines + counted x) e

-- ---- each kind of line, after these imports

module _ (imports : List Object) where
  pub grown : (old new : Index) (lines : List Line) (line : Line) → IsIndex old imports lines → Grows old new line → IsIndex new imports (lines ++ line ∷ [])
  grown old new lines line h g = record {
    agents = g.agents ∙ ap (λ a. and_node a (created_node line)) h.agents ∙ sym (agents_more (imported_after [] imports) lines line);
    losses = λ name. g.losses name ∙ ap (λ ns. ns ++ loss_of name line) (h.losses name) ∙ sym (flat_more (loss_of name) lines line);
    restarts = λ name. g.restarts name ∙ ap (λ ns. ns ++ restart_of name line) (h.restarts name) ∙ sym (flat_more (restart_of name) lines line);
    objects = let more : creates (lines ++ line ∷ []) ≡ creates lines + counted (created line) = sum_more (λ l. counted (created l)) lines line in omega (arith, g.objects, h.objects, more);
    calls = g.calls ∙ ap (λ n. n + turn_calls line) h.calls ∙ sym (sum_more turn_calls lines line);
  }

  pub create_noted : (old new : Index) (lines : List Line) (line : Line) (o : Object) → IsIndex old imports lines → created line ≡ Some o
      → HasOneMore old new (node_name o) → IsIndex new imports (lines ++ line ∷ [])
  create_noted old new lines line o h e c = grown old new lines line h (grows_create old new line o e c)

  pub loss_noted : (old new : Index) (lines : List Line) (actor : Actor) (call : ℕ) (after : Bool) → IsIndex old imports lines
      → new ≡ record old { losses = and_number (actor_word actor) call old.losses } → IsIndex new imports (lines ++ Lose actor call after ∷ [])
  loss_noted old new lines actor call after h e =
      let g : Grows old (record old { losses = and_number (actor_word actor) call old.losses }) (Lose actor call after) = record {
        agents = refl;
        losses = λ name. numbers_more old.losses (actor_word actor) name call;
        restarts = λ name. sym (append-nil (numbers_at name old.restarts));
        objects = omega arith;
        calls = omega arith;
      } in
      subst (λ (i : Index). IsIndex i imports (lines ++ Lose actor call after ∷ [])) (sym e) (grown old _ lines (Lose actor call after) h g)

  pub restart_noted : (old new : Index) (lines : List Line) (actor : Actor) (after : ℕ) → IsIndex old imports lines
      → new ≡ record old { restarts = and_number (actor_word actor) after old.restarts } → IsIndex new imports (lines ++ Restart actor after ∷ [])
  restart_noted old new lines actor after h e =
      let g : Grows old (record old { restarts = and_number (actor_word actor) after old.restarts }) (Restart actor after) = record {
        agents = refl;
        losses = λ name. sym (append-nil (numbers_at name old.losses));
        restarts = λ name. numbers_more old.restarts (actor_word actor) name after;
        objects = omega arith;
        calls = omega arith;
      } in
      subst (λ (i : Index). IsIndex i imports (lines ++ Restart actor after ∷ [])) (sym e) (grown old _ lines (Restart actor after) h g)

  pub turn_noted : (old new : Index) (lines : List Line) (actor : Actor) (calls : ℕ) → IsIndex old imports lines
      → new ≡ record old { calls = old.calls + calls } → IsIndex new imports (lines ++ Turn actor calls ∷ [])
  turn_noted old new lines actor calls h e =
      let g : Grows old (record old { calls = old.calls + calls }) (Turn actor calls) = record {
        agents = refl;
        losses = λ name. sym (append-nil (numbers_at name old.losses));
        restarts = λ name. sym (append-nil (numbers_at name old.restarts));
        objects = omega arith;
        calls = refl;
      } in
      subst (λ (i : Index). IsIndex i imports (lines ++ Turn actor calls ∷ [])) (sym e) (grown old _ lines (Turn actor calls) h g)

  pub call_noted : (old : Index) (lines : List Line) (user : ℕ) (request : Request) → IsIndex old imports lines → created (Call user request) ≡ None
      → IsIndex old imports (lines ++ Call user request ∷ [])
  call_noted old lines user request h e = grown old old lines (Call user request) h (record {
    agents = same_agents old.agents (Call user request) e;
    losses = λ name. sym (append-nil (numbers_at name old.losses));
    restarts = λ name. sym (append-nil (numbers_at name old.restarts));
    objects = let none : counted (created (Call user request)) ≡ 0 = ap counted e in omega (arith, none);
    calls = omega arith;
  })

  pub drain_noted : (old : Index) (lines : List Line) → IsIndex old imports lines → IsIndex old imports (lines ++ Drain ∷ [])
  drain_noted old lines h = grown old old lines Drain h (record {
    agents = refl;
    losses = λ name. sym (append-nil (numbers_at name old.losses));
    restarts = λ name. sym (append-nil (numbers_at name old.restarts));
    objects = omega arith;
    calls = omega arith;
  })

  -- ---- limits

  pub objects_passed : (old : Index) (lines : List Line) (line : Line) (o : Object) → IsIndex old imports lines → created line ≡ Some o
      → most_objects ≤ old.objects → create_limit imports (lines ++ line ∷ []) true ≡ Some TooManyObjects
  objects_passed old lines line o h e over =
      let many : most_objects < objects_of imports (lines ++ line ∷ []) = let more = creates_more lines line o e in omega (arith, more, h.objects, over) in
      rw (lt-ltb most_objects (objects_of imports (lines ++ line ∷ [])) many) refl

  few_objects : (old : Index) (lines : List Line) (line : Line) (o : Object) → IsIndex old imports lines → created line ≡ Some o
      → old.objects < most_objects → ltb most_objects (objects_of imports (lines ++ line ∷ [])) ≡ false
  few_objects old lines line o h e under =
      le-ltb most_objects (objects_of imports (lines ++ line ∷ [])) (let more = creates_more lines line o e in omega (arith, more, h.objects, under))

  pub nodes_passed : (old new : Index) (lines : List Line) (line : Line) (o : Object) → IsIndex old imports lines → created line ≡ Some o
      → HasOneMore old new (node_name o) → old.objects < most_objects → most_nodes < length new.agents → create_limit imports (lines ++ line ∷ []) true ≡ Some TooManyNodes
  nodes_passed old new lines line o h e c under over =
      let is = create_noted old new lines line o h e c in
      let many : ltb most_nodes (length (agents_of imports (lines ++ line ∷ []))) ≡ true =
      ap (λ (a : List Pair). ltb most_nodes (length a)) (sym is.agents) ∙ lt-ltb most_nodes (length new.agents) over in
      rw (few_objects old lines line o h e under, many) refl

  pub none_passed : (old new : Index) (lines : List Line) (line : Line) (o : Object) → IsIndex old imports lines → created line ≡ Some o
      → HasOneMore old new (node_name o) → old.objects < most_objects → length new.agents ≤ most_nodes → create_limit imports (lines ++ line ∷ []) true ≡ None
  none_passed old new lines line o h e c under few =
      let is = create_noted old new lines line o h e c in
      let none : ltb most_nodes (length (agents_of imports (lines ++ line ∷ []))) ≡ false =
      ap (λ (a : List Pair). ltb most_nodes (length a)) (sym is.agents) ∙ le-ltb most_nodes (length new.agents) few in
      rw (few_objects old lines line o h e under, none) refl

  -- ---- numbers of an actor, after its name

  loss_index : (old : Index) (lines : List Line) (actor : Actor) (call : ℕ) (after : Bool) (name : List ℕ) (rows : List NumberRow)
      → IsIndex old imports lines → name ≡ actor_word actor → rows ≡ and_number name call old.losses
      → IsIndex (record old { losses = rows }) imports (lines ++ Lose actor call after ∷ [])
  loss_index old lines actor call after name rows h is added =
      loss_noted old _ lines actor call after h (λ i. record old { losses = (added ∙ ap (λ k. and_number k call old.losses) is) i })

  losses_counted : (old : Index) (lines : List Line) (actor : Actor) (call : ℕ) (after : Bool) (name : List ℕ) (rows : List NumberRow)
      → IsIndex old imports lines → name ≡ actor_word actor → rows ≡ and_number name call old.losses
      → length (losses_of (actor_word actor) (lines ++ Lose actor call after ∷ [])) ≡ length (numbers_at name rows)
  losses_counted old lines actor call after name rows h is added =
      let index = loss_index old lines actor call after name rows h is added in
      ap length (sym (index.losses (actor_word actor)) ∙ ap (λ k. numbers_at k rows) (sym is))

  pub loss_passed : (old : Index) (lines : List Line) (actor : Actor) (call : ℕ) (after : Bool) (name : List ℕ) (rows : List NumberRow)
      → IsIndex old imports lines → name ≡ actor_word actor → rows ≡ and_number name call old.losses
      → most_losses < length (numbers_at name rows) → line_limit imports (lines ++ Lose actor call after ∷ []) (Lose actor call after) ≡ Some TooManyLosses
  loss_passed old lines actor call after name rows h is added over =
      let counted = losses_counted old lines actor call after name rows h is added in
      rw (lt-ltb most_losses (length (losses_of (actor_word actor) (lines ++ Lose actor call after ∷ []))) (omega (arith, counted, over))) refl

  pub loss_kept : (old : Index) (lines : List Line) (actor : Actor) (call : ℕ) (after : Bool) (name : List ℕ) (rows : List NumberRow)
      → IsIndex old imports lines → name ≡ actor_word actor → rows ≡ and_number name call old.losses
      → length (numbers_at name rows) ≤ most_losses → IsIndex (record old { losses = rows }) imports (lines ++ Lose actor call after ∷ [])
      × (line_limit imports (lines ++ Lose actor call after ∷ []) (Lose actor call after) ≡ None)
  loss_kept old lines actor call after name rows h is added few =
      let counted = losses_counted old lines actor call after name rows h is added in (
        loss_index old lines actor call after name rows h is added,
        rw (le-ltb most_losses (length (losses_of (actor_word actor) (lines ++ Lose actor call after ∷ []))) (omega (arith, counted, few))) refl,
      )

  restart_index : (old : Index) (lines : List Line) (actor : Actor) (after : ℕ) (name : List ℕ) (rows : List NumberRow) → IsIndex old imports lines
      → name ≡ actor_word actor → rows ≡ and_number name after old.restarts
      → IsIndex (record old { restarts = rows }) imports (lines ++ Restart actor after ∷ [])
  restart_index old lines actor after name rows h is added =
      restart_noted old _ lines actor after h (λ i. record old { restarts = (added ∙ ap (λ k. and_number k after old.restarts) is) i })

  restarts_counted : (old : Index) (lines : List Line) (actor : Actor) (after : ℕ) (name : List ℕ) (rows : List NumberRow)
      → IsIndex old imports lines → name ≡ actor_word actor → rows ≡ and_number name after old.restarts
      → length (restarts_of (actor_word actor) (lines ++ Restart actor after ∷ [])) ≡ length (numbers_at name rows)
  restarts_counted old lines actor after name rows h is added =
      let index = restart_index old lines actor after name rows h is added in
      ap length (sym (index.restarts (actor_word actor)) ∙ ap (λ k. numbers_at k rows) (sym is))

  pub restart_passed : (old : Index) (lines : List Line) (actor : Actor) (after : ℕ) (name : List ℕ) (rows : List NumberRow)
      → IsIndex old imports lines → name ≡ actor_word actor → rows ≡ and_number name after old.restarts
      → most_restarts < length (numbers_at name rows) → line_limit imports (lines ++ Restart actor after ∷ []) (Restart actor after) ≡ Some TooManyRestarts
  restart_passed old lines actor after name rows h is added over =
      let counted = restarts_counted old lines actor after name rows h is added in
      rw (lt-ltb most_restarts (length (restarts_of (actor_word actor) (lines ++ Restart actor after ∷ []))) (omega (arith, counted, over))) refl

  pub restart_kept : (old : Index) (lines : List Line) (actor : Actor) (after : ℕ) (name : List ℕ) (rows : List NumberRow)
      → IsIndex old imports lines → name ≡ actor_word actor → rows ≡ and_number name after old.restarts
      → length (numbers_at name rows) ≤ most_restarts → IsIndex (record old { restarts = rows }) imports (lines ++ Restart actor after ∷ [])
      × (line_limit imports (lines ++ Restart actor after ∷ []) (Restart actor after) ≡ None)
  restart_kept old lines actor after name rows h is added few =
      let counted = restarts_counted old lines actor after name rows h is added in (
        restart_index old lines actor after name rows h is added,
        rw (le-ltb most_restarts (length (restarts_of (actor_word actor) (lines ++ Restart actor after ∷ []))) (omega (arith, counted, few))) refl,
      )

  pub turn_kept : (old : Index) (lines : List Line) (actor : Actor) (calls all : ℕ) → IsIndex old imports lines → all ≡ old.calls + calls → all ≤ most_calls
      → IsIndex (record old { calls = all }) imports (lines ++ Turn actor calls ∷ []) × (line_limit imports (lines ++ Turn actor calls ∷ []) (Turn actor calls) ≡ None)
  turn_kept old lines actor calls all h e few =
      let index = turn_noted old (record old { calls = all }) lines actor calls h (λ i. record old { calls = e i }) in
      (index, rw (le-ltb most_calls (calls_of (lines ++ Turn actor calls ∷ [])) (omega (arith, index.calls, few))) refl)

  pub other_kept : (old : Index) (lines : List Line) (line : Line) (user : ℕ) (request : Request) → IsIndex old imports lines → line ≡ Call user request → created line ≡ None
      → IsIndex old imports (lines ++ line ∷ []) × (line_limit imports (lines ++ line ∷ []) line ≡ None)
  other_kept old lines line user request h is e =
      let none : created (Call user request) ≡ None = ap created (sym is) ∙ e in
      let limit : line_limit imports (lines ++ Call user request ∷ []) (Call user request) ≡ None = ap (λ o. create_limit imports (lines ++ Call user request ∷ []) (is_some o)) none in
      subst (λ l. IsIndex old imports (lines ++ l ∷ []) × (line_limit imports (lines ++ l ∷ []) l ≡ None)) (sym is) (call_noted old lines user request h none, limit)

  pub drain_kept : (old : Index) (lines : List Line) (line : Line) → IsIndex old imports lines → line ≡ Drain
      → IsIndex old imports (lines ++ line ∷ []) × (line_limit imports (lines ++ line ∷ []) line ≡ None)
  drain_kept old lines line h is = subst (λ l. IsIndex old imports (lines ++ l ∷ []) × (line_limit imports (lines ++ l ∷ []) l ≡ None)) (sym is) (drain_noted old lines h, refl)

-- ---- an imported object

-- before any call no line creates a node
pub same_before : (agents : List Pair) (lines : List Line) → has_begun lines ≡ false → agents_after agents lines ≡ agents
same_before agents [] e = refl
same_before agents (Call user request ∷ lines) e = absurd (cc)
same_before agents (Lose actor call after ∷ lines) e = same_before agents lines e
same_before agents (Restart actor after ∷ lines) e = same_before agents lines e
same_before agents (Turn actor calls ∷ lines) e = absurd (cc)
same_before agents (Drain ∷ lines) e = absurd (cc)

imported_more : (agents : List Pair) (imports : List Object) (o : Object) → imported_after agents (imports ++ o ∷ []) ≡ and_node (imported_after agents imports) (imported_node o)
imported_more agents [] o = refl
imported_more agents (i ∷ is) o = imported_more (and_node agents (imported_node i)) is o

-- the agents with an imported object
pub agents_imported : (imports : List Object) (lines : List Line) (o : Object) → has_begun lines ≡ false → agents_of (imports ++ o ∷ []) lines ≡ and_node (agents_of imports lines) (imported_node o)
agents_imported imports lines o e =
    same_before (imported_after [] (imports ++ o ∷ [])) lines e
    ∙ imported_more [] imports o
    ∙ ap (λ a. and_node a (imported_node o)) (sym (same_before (imported_after [] imports) lines e))

objects_imported : (imports : List Object) (lines : List Line) (o : Object) → objects_of (imports ++ o ∷ []) lines ≡ objects_of imports lines + 1
objects_imported imports lines o = let long = length-append imports (o ∷ []) in omega (arith, long)

import_noted : (old new : Index) (imports : List Object) (lines : List Line) (o : Object) → IsIndex old imports lines → has_begun lines ≡ false
    → HasOneMore old new (imported_node o) → IsIndex new (imports ++ o ∷ []) lines
import_noted old new imports lines o h e m = record {
  agents = m.agents ∙ ap (λ a. and_node a (imported_node o)) h.agents ∙ sym (agents_imported imports lines o e);
  losses = λ name. ap (numbers_at name) m.losses ∙ h.losses name;
  restarts = λ name. ap (numbers_at name) m.restarts ∙ h.restarts name;
  objects = let more = objects_imported imports lines o in omega (arith, m.objects, h.objects, more);
  calls = m.calls ∙ h.calls;
}

pub imports_passed : (old : Index) (imports : List Object) (lines : List Line) (o : Object) → IsIndex old imports lines → most_objects ≤ old.objects
    → object_limit (imports ++ o ∷ []) lines ≡ Some TooManyObjects
imports_passed old imports lines o h over =
    let many : most_objects < objects_of (imports ++ o ∷ []) lines = let more = objects_imported imports lines o in omega (arith, more, h.objects, over) in
    rw (lt-ltb most_objects (objects_of (imports ++ o ∷ []) lines) many) refl

few_imports : (old : Index) (imports : List Object) (lines : List Line) (o : Object) → IsIndex old imports lines → old.objects < most_objects
    → ltb most_objects (objects_of (imports ++ o ∷ []) lines) ≡ false
few_imports old imports lines o h under =
    le-ltb most_objects (objects_of (imports ++ o ∷ []) lines) (let more = objects_imported imports lines o in omega (arith, more, h.objects, under))

pub imported_nodes_passed : (old new : Index) (imports : List Object) (lines : List Line) (o : Object) → IsIndex old imports lines
    → has_begun lines ≡ false → HasOneMore old new (imported_node o) → old.objects < most_objects → most_nodes < length new.agents
    → object_limit (imports ++ o ∷ []) lines ≡ Some TooManyNodes
imported_nodes_passed old new imports lines o h e m under over =
    let is = import_noted old new imports lines o h e m in
    let many : ltb most_nodes (length (agents_of (imports ++ o ∷ []) lines)) ≡ true = ap (λ (a : List Pair). ltb most_nodes (length a)) (sym is.agents) ∙ lt-ltb most_nodes (length new.agents) over in
    rw (few_imports old imports lines o h under, many) refl

pub import_kept : (old new : Index) (imports : List Object) (lines : List Line) (o : Object) → IsIndex old imports lines → has_begun lines ≡ false
    → HasOneMore old new (imported_node o) → old.objects < most_objects → length new.agents ≤ most_nodes
    → IsIndex new (imports ++ o ∷ []) lines × (object_limit (imports ++ o ∷ []) lines ≡ None)
import_kept old new imports lines o h e m under few =
    let is = import_noted old new imports lines o h e m in
    let none : ltb most_nodes (length (agents_of (imports ++ o ∷ []) lines)) ≡ false = ap (λ (a : List Pair). ltb most_nodes (length a)) (sym is.agents) ∙ le-ltb most_nodes (length new.agents) few in
    (is, rw (few_imports old imports lines o h under, none) refl)
