-- The numbers of a task that words ask for are in their ranges.
use Rattle.std.proofs.Common.{◌≡◌, List, Some}
use Rattle.command_words.specs.declared.words.Command.{Command}
use Rattle.command_words.specs.declared.words.Command.TheVariants as commands
use Rattle.command_words.specs.declared.words.Options.{Options}
use Rattle.command_words.specs.declared.words.CommandWords.{CommandWords}
use Rattle.command_words.specs.Grammar.{AreInRange, Text, words_of}
use Rattle.command_words.proofs.Ranges.{words_in_range}
use Rattle.binder_console.specs.Commands.{IsInRange, task_by, task_named}

named_in_range : (command : Command) (options : Options) → AreInRange options → IsInRange (task_named command options)
named_in_range commands.Replay options h = tt
named_in_range commands.Run options h = h
named_in_range commands.Audit options h = tt
named_in_range commands.Check options h = tt
named_in_range commands.Gen options h = tt
named_in_range commands.Extend options h = tt

pub task_in_range : (words : List Text) (said : CommandWords) → words_of words ≡ Some said → IsInRange (task_by said)
task_in_range words said h = named_in_range said.command said.options (words_in_range words said h)
