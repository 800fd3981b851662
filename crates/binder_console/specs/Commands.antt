-- What the words ask for. Their grammar is that of `command_words`. A choice of this project.
use Rattle.std.specs.Prelude.{◌≡◌, ◌≤◌, ⊤, List, map, Ok, Err, Option, Some, None, option_map, String, string_bytes}
use Rattle.std.specs.declared.alloc.Global.{Global}
use Rattle.std.specs.declared.result.Result.{Result}
use Rattle.command_words.specs.declared.words.Command.{Command}
use Rattle.command_words.specs.declared.words.Command.TheVariants as commands
use Rattle.command_words.specs.declared.words.Options.{Options}
use Rattle.command_words.specs.declared.words.CommandWords.{CommandWords}
use Rattle.command_words.specs.declared.words.WordsError.{WordsError}
use Rattle.command_words.specs.declared.words.WordsError.TheVariants.{Usage, OutOfMemory}
use Rattle.command_words.specs.Grammar.{words_of}
use Rattle.binder_console.specs.declared.commands.Task.{Task}
use Rattle.binder_console.specs.declared.commands.Task.TheVariants.{Replay, Run, Check, Audit, Gen, Extend}

-- an option that the task does not use has no effect
abbrev pub task_named : Command → Options → Task
task_named commands.Replay options = Replay options.budget
task_named commands.Run options = Run options.workers options.calls options.budget
task_named commands.Check options = Check
task_named commands.Audit options = Audit
task_named commands.Gen options = Gen options.seed options.budget
task_named commands.Extend options = Extend options.budget

-- what the words ask for
abbrev pub task_by : CommandWords → Task
task_by said = task_named said.command said.options

-- what the words after the program's name ask for, if they ask for anything
abbrev pub task_of : List (String Global) → Option Task
task_of words = option_map task_by (words_of (map string_bytes words))

-- the answer is what the words ask for; want of memory says nothing of them
abbrev pub Asks : Result Task WordsError → Option Task → Type 0
Asks (Ok task) asked = asked ≡ Some task
Asks (Err Usage) asked = asked ≡ None
Asks (Err OutOfMemory) asked = ⊤

-- the numbers of a run are those that words can give
abbrev pub IsInRange : Task → Type 0
IsInRange (Run workers calls budget) = (1 ≤ workers) × (workers ≤ 4) × (calls ≤ 1000)
IsInRange task = ⊤
