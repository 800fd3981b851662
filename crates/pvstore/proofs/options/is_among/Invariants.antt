use Rattle.std.proofs.Common.{◌≡◌, drop, map}
use Rattle.pvstore.specs.Options.{is_among}
use Rattle.pvstore.proofs.options.is_among.Given as goal

-- the word is none of those before
abbrev pub invariant-loop-one : goal.invariant-loop-one
invariant-loop-one l = is_among l.word (map (λ w. w.now) (drop l.one-index l.words)) ≡ is_among l.word (map (λ w. w.now) l.words)
