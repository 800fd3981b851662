-- The agents of the whole text, which are looked for where a line first names an actor.
use Rattle.std.specs.Prelude.{ℕ, ◌≡◌, List, Bool, true, false, Ok, Err}
use Rattle.std.specs.declared.result.Result.{Result}
use Rattle.script_lines.specs.declared.errors.BadLine.{BadLine}
use Rattle.script_lines.specs.declared.errors.ScriptError.{ScriptError}
use Rattle.script_lines.specs.declared.verbs.Verb.{Verb}
use Rattle.script_lines.specs.declared.verbs.Verb.TheVariants.{Lose, Restart, Turn}
use Rattle.script_text.specs.declared.progress.Progress.{Progress}
use Rattle.script_text.specs.declared.reading.KnownAgents.{KnownAgents}
use Rattle.script_lines.specs.Answers.{ScriptFails}
use Rattle.script_text.specs.Said.{Said}
use Rattle.script_text.specs.Grammar.{agents_in}
use Rattle.script_text.specs.Steps.Indexed.{ProgressStands, said_by}

-- once the agents were looked for, they are those of these lines
abbrev pub IsKnown : KnownAgents → List (List ℕ) → Type 0
IsKnown known lines = known.found ≡ true → known.agents ≡ agents_in lines

-- lines with this verb name an actor
abbrev pub names_actor : Verb → Bool
names_actor Lose = true
names_actor Restart = true
names_actor Turn = true
names_actor verb = false

-- this holds where lines with the verb name an actor
abbrev pub IfNamed : Verb → Type 0 → Type 0
IfNamed verb holds = names_actor verb ≡ true → holds

-- the result is what these lines say, or the refusal, unless memory ran out
abbrev pub SaidGives : Result Progress ScriptError → Result Said BadLine → Type 0
SaidGives (Ok p) answer = ProgressStands p × (answer ≡ Ok (said_by p))
SaidGives (Err e) answer = ScriptFails e answer
