-- What a script says of its actors, its nodes and its limits stays where creates of claims are left out of it.
use Rattle.std.proofs.Common.{◌≡◌, ℕ, zero, suc, ◌≤◌, ◌+◌, List, [], ◌∷◌, ◌++◌, length, Bool, true, false, nat_lt, Option, Some, None, refl, sym, ap, ap₂, ◌∙◌, subst, arith, if◌then◌else◌, cond}
use Rattle.std.specs.Prelude.{◌||◌, bytes_eq, slice_get, is_some}
use Rattle.std.proofs.lemmas.Bool.{ltb-false, le-ltb}
use Rattle.std.proofs.lemmas.List.Sums.{sum_by-append}
use Rattle.plain_data.specs.Pairs.{Pair}
use Rattle.kube_objects.specs.declared.objects.Claim.{Claim as ClaimData}
use Rattle.kube_objects.specs.declared.objects.Object.{Object}
use Rattle.script_lines.specs.Actors.{actor_word}
use Rattle.script_lines.specs.declared.actors.Actor.{Actor}
use Rattle.script_lines.specs.declared.errors.Reason.{Reason}
use Rattle.script_lines.specs.declared.errors.Reason.TheVariants.{TooManyLosses, TooManyNodes, TooManyObjects, TooManyRestarts, TooManyTurns}
use Rattle.script_text.specs.declared.script.Line.{Line}
use Rattle.script_text.specs.declared.script.Line.TheVariants.{Call, Drain, Lose, Restart, Turn}
use Rattle.script_text.specs.declared.script.Script.{Script}
use Rattle.script_text.specs.Grammar.{create_limit, first_of, line_limit, most_calls, most_losses, most_nodes, most_objects, most_restarts, object_limit, passed}
use Rattle.script_text.specs.Said.{agents_after, agents_of, and_node, calls_of, created, created_by, created_node, creates, imported_after}
use Rattle.script_text.specs.Said.{loss_of, losses_of, nodes_of, objects_of, restart_of, restarts_of, turn_calls}
use Rattle.script_laws.specs.Read.Given.{IsLineAfter, IsNewCall}
use Rattle.script_laws.specs.Read.Scripts.{AreLinesAfter, IsScript}
use Rattle.actor_turns.specs.Parts.{lives_by}
use Rattle.script_runs.specs.Parts.{all_actors, all_lives, drain_seat, is_named, is_turn_of, lives_before, lives_in, loss_in, lost_calls, part_of, seat_kind_of, first_actor_seat}
use Rattle.extended_runs.specs.Kept.{KeepsLine, LeavesClaim, LeavingOut, NoneLeft, create_of, with_lines}

-- ---- what holds of the lines and of those that are kept, by recursion

-- a function of lines that a create of a claim does not change
abbrev IsBlind : {X : Type 0} → (List Line → X) → Type 0
IsBlind f = (user : ℕ) (c : ClaimData) (rest : List Line) → f (create_of user c ∷ rest) ≡ f rest

-- and that is the same of two lists where it is so of their rests
abbrev GoesOn : {X : Type 0} → (List Line → X) → Type 0
GoesOn f = (line : Line) (rest later : List Line) → f rest ≡ f later → f (line ∷ rest) ≡ f (line ∷ later)

same_of : {X : Type 0} (f : List Line → X) → IsBlind f → GoesOn f → (lines kept : List Line) → LeavingOut lines kept → f lines ≡ f kept
same_of f blind on lines kept (NoneLeft none empty) = ap f none ∙ sym (ap f empty)
same_of f blind on lines kept (KeepsLine line rest later are is more) = ap f are ∙ on line rest later (same_of f blind on rest later more) ∙ sym (ap f is)
same_of f blind on lines kept (LeavesClaim user c rest are more) = ap f are ∙ blind user c rest ∙ same_of f blind on rest kept more

module _ (lines kept : List Line) (left : LeavingOut lines kept) where
  pub same_named : (name : List ℕ) → is_named name lines ≡ is_named name kept
  same_named name = same_of (is_named name) (λ u c rest. refl) (λ line rest later e. ap (λ b. is_turn_of name line || b) e) lines kept left

  pub same_lost : (name : List ℕ) → lost_calls name lines ≡ lost_calls name kept
  same_lost name = same_of (lost_calls name) (λ u c rest. refl) (λ line rest later e. ap (λ ls. loss_in name line ++ ls) e) lines kept left

  pub same_losses : (name : List ℕ) → losses_of name lines ≡ losses_of name kept
  same_losses name = same_of (losses_of name) (λ u c rest. refl) (λ line rest later e. ap (λ ls. loss_of name line ++ ls) e) lines kept left

  pub same_restarts : (name : List ℕ) → restarts_of name lines ≡ restarts_of name kept
  same_restarts name = same_of (restarts_of name) (λ u c rest. refl) (λ line rest later e. ap (λ ls. restart_of name line ++ ls) e) lines kept left

  pub same_calls : calls_of lines ≡ calls_of kept
  same_calls = same_of calls_of (λ u c rest. refl)
      (λ line rest later e. sum_by-append turn_calls (line ∷ []) rest ∙ ap (λ n. calls_of (line ∷ []) + n) e ∙ sym (sum_by-append turn_calls (line ∷ []) later)) lines kept left

-- the agents of nodes beside any others
same_agents : (agents : List Pair) (lines kept : List Line) → LeavingOut lines kept → agents_after agents lines ≡ agents_after agents kept
same_agents agents lines kept (NoneLeft none empty) = ap (agents_after agents) none ∙ sym (ap (agents_after agents) empty)
same_agents agents lines kept (KeepsLine line rest later are is more) =
    ap (agents_after agents) are ∙ same_agents (and_node agents (created_node line)) rest later more ∙ sym (ap (agents_after agents) is)
same_agents agents lines kept (LeavesClaim user c rest are more) = ap (agents_after agents) are ∙ same_agents agents rest kept more

pub same_nodes : (imports : List Object) (lines kept : List Line) → LeavingOut lines kept → agents_of imports lines ≡ agents_of imports kept
same_nodes imports lines kept left = same_agents (imported_after [] imports) lines kept left

-- with a line at the front
creates_with : (line : Line) (rest : List Line) → creates (line ∷ rest) ≡ creates (line ∷ []) + creates rest
creates_with line rest = sum_by-append (λ l. cond (is_some (created l)) 1 0) (line ∷ []) rest

-- no more objects are created, and there are no more lines
fewer_creates : (lines kept : List Line) → LeavingOut lines kept → creates kept ≤ creates lines
fewer_creates lines kept (NoneLeft none empty) = let a = ap creates none in let b = ap creates empty in omega (arith, a, b)
fewer_creates lines kept (KeepsLine line rest later are is more) =
    let a = ap creates are ∙ creates_with line rest in let b = ap creates is ∙ creates_with line later in let h = fewer_creates rest later more in omega (arith, a, b, h)
fewer_creates lines kept (LeavesClaim user c rest are more) =
    let a = ap creates are ∙ creates_with (create_of user c) rest in let h = fewer_creates rest kept more in omega (arith, a, h)

pub fewer_lines : (lines kept : List Line) → LeavingOut lines kept → length kept ≤ length lines
fewer_lines lines kept (NoneLeft none empty) = let b = ap length empty in omega (arith, b)
fewer_lines lines kept (KeepsLine line rest later are is more) =
    let a = ap length are in let b = ap length is in let h = fewer_lines rest later more in omega (arith, a, b, h)
fewer_lines lines kept (LeavesClaim user c rest are more) = let a = ap length are in let h = fewer_lines rest kept more in omega (arith, a, h)

-- with the same line at the end of both
and_line : (line : Line) (lines kept : List Line) → LeavingOut lines kept → LeavingOut (lines ++ line ∷ []) (kept ++ line ∷ [])
and_line line lines kept (NoneLeft none empty) = KeepsLine line [] [] (ap (λ ls. ls ++ line ∷ []) none) (ap (λ ls. ls ++ line ∷ []) empty) (NoneLeft refl refl)
and_line line lines kept (KeepsLine l rest later are is more) =
    KeepsLine l (rest ++ line ∷ []) (later ++ line ∷ []) (ap (λ ls. ls ++ line ∷ []) are) (ap (λ ls. ls ++ line ∷ []) is) (and_line line rest later more)
and_line line lines kept (LeavesClaim user c rest are more) = LeavesClaim user c (rest ++ line ∷ []) (ap (λ ls. ls ++ line ∷ []) are) (and_line line rest kept more)

-- or with a create of a claim at the end of the first alone
and_claim : (user : ℕ) (c : ClaimData) (lines kept : List Line) → LeavingOut lines kept → LeavingOut (lines ++ create_of user c ∷ []) kept
and_claim user c lines kept (NoneLeft none empty) = LeavesClaim user c [] (ap (λ ls. ls ++ create_of user c ∷ []) none) (NoneLeft refl empty)
and_claim user c lines kept (KeepsLine l rest later are is more) =
    KeepsLine l (rest ++ create_of user c ∷ []) later (ap (λ ls. ls ++ create_of user c ∷ []) are) is (and_claim user c rest later more)
and_claim user c lines kept (LeavesClaim u d rest are more) = LeavesClaim u d (rest ++ create_of user c ∷ []) (ap (λ ls. ls ++ create_of user c ∷ []) are) (and_claim user c rest kept more)

-- ---- the parts of the actors

module _ (script : Script) (kept : List Line) (left : LeavingOut script.lines kept) where
  same_lives : (name : List ℕ) → lives_in name script.lines ≡ lives_in name kept
  same_lives name = ap₂ (λ b rs. lives_by b (length rs)) (same_named script.lines kept left name) (same_restarts script.lines kept left name)

  lives_then : (name : List ℕ) (actors : List Actor) → lives_before name actors script.lines ≡ lives_before name actors kept
  lives_then name [] = refl
  lives_then name (a ∷ actors) =
      ap₂ (λ one more. if bytes_eq (actor_word a) name then 0 else one + more) (same_lives (actor_word a)) (lives_then name actors)

  lives_all : (actors : List Actor) → all_lives actors script.lines ≡ all_lives actors kept
  lives_all [] = refl
  lives_all (a ∷ actors) = ap₂ (λ one more. one + more) (same_lives (actor_word a)) (lives_all actors)

  pub same_drain_seat : drain_seat script ≡ drain_seat (with_lines kept script)
  same_drain_seat = ap (λ n. first_actor_seat + n) (lives_all (all_actors script))

  pub same_part : (actor : Actor) → part_of script actor ≡ part_of (with_lines kept script) actor
  same_part actor i = record {
    name = actor_word actor;
    kind = seat_kind_of actor;
    named = same_named script.lines kept left (actor_word actor) i;
    first = first_actor_seat + lives_then (actor_word actor) (all_actors script) i;
    losses = same_lost script.lines kept left (actor_word actor) i;
    restarts = same_restarts script.lines kept left (actor_word actor) i;
  }

-- each line that is kept stands among all
pub stood : (lines kept : List Line) → LeavingOut lines kept → (place : ℕ) (line : Line) → slice_get kept place ≡ Some line → (at : ℕ) × (slice_get lines at ≡ Some line)
stood lines kept (NoneLeft none empty) place line at = let e : slice_get [] place ≡ Some line = ap (λ ls. slice_get ls place) (sym empty) ∙ at in absurd (cc)
stood lines kept (KeepsLine l rest later are is more) zero line at = (0, ap (λ ls. slice_get ls 0) are ∙ sym (ap (λ ls. slice_get ls 0) is) ∙ at)
stood lines kept (KeepsLine l rest later are is more) (suc place) line at =
    let found = stood rest later more place line (sym (ap (λ ls. slice_get ls (suc place)) is) ∙ at) in (suc found.0, ap (λ ls. slice_get ls (suc found.0)) are ∙ found.1)
stood lines kept (LeavesClaim user c rest are more) place line at = let found = stood rest kept more place line at in (suc found.0, ap (λ ls. slice_get ls (suc found.0)) are ∙ found.1)

-- ---- the script

-- a limit that holds for all lines holds for those that are kept
no_more : (most all few : ℕ) (reason : Reason) → few ≤ all → passed (nat_lt most all) reason ≡ None → passed (nat_lt most few) reason ≡ None
no_more most all few reason less none = by (nat_lt most all) refl none
  where
    by : (b : Bool) → nat_lt most all ≡ b → passed b reason ≡ None → passed (nat_lt most few) reason ≡ None
    by true e h = absurd (cc)
    by false e h = let high = ltb-false most all e in let low : few ≤ most = omega (arith, high, less) in ap (λ b. passed b reason) (le-ltb most few low)

both_none : (a b : Option Reason) → first_of a b ≡ None → (a ≡ None) × (b ≡ None)
both_none None b e = (refl, e)
both_none (Some r) b e = absurd (cc)

module _ (imports : List Object) (lines kept : List Line) (left : LeavingOut lines kept) where
  objects_none : object_limit imports lines ≡ None → object_limit imports kept ≡ None
  objects_none none =
      let parts = both_none (passed (nat_lt most_objects (objects_of imports lines)) TooManyObjects) (passed (nat_lt most_nodes (length (agents_of imports lines))) TooManyNodes) none in
      let few = fewer_creates lines kept left in
      let nodes = ap length (same_nodes imports lines kept left) in
      ap₂ first_of (no_more most_objects (objects_of imports lines) (objects_of imports kept) TooManyObjects (omega (arith, few)) parts.0)
      (no_more most_nodes (length (agents_of imports lines)) (length (agents_of imports kept)) TooManyNodes (omega (arith, nodes)) parts.1)

  created_none : (o : Option Object) → create_limit imports lines (is_some o) ≡ None → create_limit imports kept (is_some o) ≡ None
  created_none (Some o) none = objects_none none
  created_none None none = refl

  limit_none : (line : Line) → line_limit imports lines line ≡ None → line_limit imports kept line ≡ None
  limit_none (Call user request) none = created_none (created_by request) none
  limit_none (Lose actor call after) none = ap (λ ls. passed (nat_lt most_losses (length ls)) TooManyLosses) (sym (same_losses lines kept left (actor_word actor))) ∙ none
  limit_none (Restart actor after) none = ap (λ ls. passed (nat_lt most_restarts (length ls)) TooManyRestarts) (sym (same_restarts lines kept left (actor_word actor))) ∙ none
  limit_none (Turn actor calls) none = ap (λ n. passed (nat_lt most_calls n) TooManyTurns) (sym (same_calls lines kept left)) ∙ none
  limit_none Drain none = refl

  given_after : (agents : List Pair) (line : Line) → IsLineAfter agents lines line → IsLineAfter agents kept line
  given_after agents (Call user request) is = is
  given_after agents (Lose actor call after) is = (is.0, subst (λ ls. IsNewCall ls call) (same_losses lines kept left (actor_word actor)) is.1)
  given_after agents (Restart actor after) is = (is.0, subst (λ ls. IsNewCall ls after) (same_restarts lines kept left (actor_word actor)) is.1)
  given_after agents (Turn actor calls) is = is
  given_after agents Drain is = is

lines_after : (imports : List Object) (agents : List Pair) (before held : List Line) → LeavingOut before held → (lines kept : List Line) → LeavingOut lines kept
    → AreLinesAfter imports agents before lines → AreLinesAfter imports agents held kept
lines_after imports agents before held past lines kept (NoneLeft none empty) are = subst (AreLinesAfter imports agents held) (sym empty) tt
lines_after imports agents before held past lines kept (KeepsLine line rest later all is more) are =
    let given : AreLinesAfter imports agents before (line ∷ rest) = subst (AreLinesAfter imports agents before) all are in
    let both = and_line line before held past in
    subst (AreLinesAfter imports agents held) (sym is) (
      given_after imports before held past agents line given.0,
      limit_none imports (before ++ line ∷ []) (held ++ line ∷ []) both line given.1,
      lines_after imports agents (before ++ line ∷ []) (held ++ line ∷ []) both rest later more given.2,
    )
lines_after imports agents before held past lines kept (LeavesClaim user c rest all more) are =
    let given : AreLinesAfter imports agents before (create_of user c ∷ rest) = subst (AreLinesAfter imports agents before) all are in
    lines_after imports agents (before ++ create_of user c ∷ []) held (and_claim user c before held past) rest kept more given.2

-- a script that a text can give is one without some creates of claims
pub kept_is_script : (script : Script) (kept : List Line) → LeavingOut script.lines kept → IsScript script → IsScript (with_lines kept script)
kept_is_script script kept left is =
    let imports = script.setup.imports in
    let agents = same_nodes imports script.lines kept left in
    let fewer = fewer_lines script.lines kept left in
    record {
      imports = is.imports;
      nodes = is.nodes ∙ ap nodes_of agents;
      pools = is.pools;
      few_pools = is.few_pools;
      faults = is.faults;
      fault_numbers = is.fault_numbers;
      few_faults = is.few_faults;
      lines = subst (λ (a : List Pair). AreLinesAfter imports a [] kept) agents
          (lines_after imports (agents_of imports script.lines) [] [] (NoneLeft refl refl) script.lines kept left is.lines);
      few_lines = let few = is.few_lines in omega (arith, few, fewer);
    }
