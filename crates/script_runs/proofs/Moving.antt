-- The moves of the lines, by what the stage makes of each; and a line of a place.
use Rattle.std.proofs.Common.{◌≡◌, ◌⊎◌, ℕ, ◌<◌, ◌≤◌, List, length, get_or, Bool, Option, Some, None, inl, inr, refl, sym, ◌∙◌, ap, subst, arith}
use Rattle.std.specs.Prelude.{slice_get}
use Rattle.std.proofs.lemmas.Option.{slice_get-get_or, slice_get_read}
use Rattle.call_types.specs.declared.entry.Entry.{Entry}
use Rattle.call_types.specs.declared.setup.Setup.{Setup}
use Rattle.model_laws.proofs.Lists.{one}
use Rattle.script_lines.specs.declared.actors.Actor.{Actor}
use Rattle.script_text.specs.declared.script.Line.{Line}
use Rattle.script_text.specs.declared.script.Line.TheVariants.{Drain, Lose, Restart}
use Rattle.script_text.specs.declared.script.Script.{Script}
use Rattle.script_runs.specs.Budget.{most_budget, raised}
use Rattle.script_runs.specs.declared.stage.Stage.{Stage}
use Rattle.script_runs.specs.Replays.{IsMove}
use Rattle.script_runs.specs.Steps.Standing.{HasMoved, IsBudget, SoFar, SomeStands}

-- ---- the line of a place

pub line_there : (lines : List Line) (place : ℕ) → place < length lines → (line : Line) × (slice_get lines place ≡ Some line)
line_there lines place lt = (get_or lines place Drain, slice_get-get_or lines place Drain lt)

-- the line that was read there
pub line_is : (lines seen : List Line) (place : ℕ) (x line : Line) → seen ≡ lines → place < length lines → x ≡ get_or seen place x → x ≡ line → slice_get lines place ≡ Some line
line_is lines seen place x line same lt read is = slice_get_read lines (length lines) place x refl lt (read ∙ ap (λ ls. get_or ls place x) same) ∙ ap (λ (l : Line). Some l) is

-- a move of the line that is there is one of any line that is there
pub moves_there : (script : Script) (option : Option ℕ) (place : ℕ) (here : Line) (old new : Stage) → slice_get script.lines place ≡ Some here
    → HasMoved script option (IsMove script option here) old new
    → (line : Line) → slice_get script.lines place ≡ Some line → HasMoved script option (IsMove script option line) old new
moves_there script option place here old new at moved line there = subst (λ (l : Line). HasMoved script option (IsMove script option l) old new) (one here line (sym at ∙ there)) moved

-- a line that moves nothing
pub none_moved : (script : Script) (option : Option ℕ) (s : Stage) → HasMoved script option (λ before after. after ≡ before) s s
none_moved script option s p stands = record { after = p; move = refl; stands = stands }

-- of a lose line or a restart line
abbrev pub MovesNothing : Line → Type 0
MovesNothing line = ((actor : Actor) × (call : ℕ) × (after : Bool) × (line ≡ Lose actor call after)) ⊎ ((actor : Actor) × (after : ℕ) × (line ≡ Restart actor after))

pub stays : (script : Script) (option : Option ℕ) (place : ℕ) (here : Line) (s : Stage) → slice_get script.lines place ≡ Some here
    → MovesNothing here → (line : Line) → slice_get script.lines place ≡ Some line → HasMoved script option (IsMove script option line) s s
stays script option place here s at (inl w) = moves_there script option place (Lose w.0 w.1 w.2) s s (at ∙ ap (λ (l : Line). Some l) w.3) (none_moved script option s)
stays script option place here s at (inr w) = moves_there script option place (Restart w.0 w.1) s s (at ∙ ap (λ (l : Line). Some l) w.2) (none_moved script option s)

pub some_of : (script : Script) (option : Option ℕ) (place : ℕ) (s : Stage) → SoFar script option place s → SomeStands script option s
some_of script option place s so = record { progress = so.progress; stands = so.stands }

-- ---- the budget of a drain

-- what was drained is within the raised budget
pub room_in : (option : Option ℕ) (setup : Setup) (past : List Entry) (drained budget next : ℕ) → drained ≤ budget → IsBudget option budget
    → next ≡ raised option setup past budget → (option ≡ None → budget ≤ next) → drained ≤ next
room_in (Some given) setup past drained budget next few is raises more = omega (arith, few, is, raises)
room_in None setup past drained budget next few is raises more = let m = more refl in omega (arith, few, m)

-- the raised budget is one
pub budget_after : (option : Option ℕ) (setup : Setup) (past : List Entry) (budget next : ℕ) → next ≡ raised option setup past budget → (option ≡ None → next ≤ most_budget) → IsBudget option next
budget_after (Some given) setup past budget next raises most = raises
budget_after None setup past budget next raises most = most refl

-- before the first drain and after each the budget is at most the most where none is given
pub most_of : (option : Option ℕ) (budget : ℕ) → IsBudget option budget → option ≡ None → budget ≤ most_budget
most_of (Some given) budget is none = absurd (cc)
most_of None budget is none = is
