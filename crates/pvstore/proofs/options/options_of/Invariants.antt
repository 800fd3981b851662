use Rattle.std.proofs.Common.{◌≡◌, drop, map}
use Rattle.std.specs.Prelude.{string_bytes}
use Rattle.pvstore.specs.Options.{take_words, untaken}
use Rattle.pvstore.proofs.options.options_of.Given as goal

-- the words that are left are taken behind those that were
abbrev pub invariant-loop-word : goal.invariant-loop-word
invariant-loop-word l = take_words l.taken (map string_bytes (drop l.word-index l.words)) ≡ take_words untaken (map string_bytes l.words)
