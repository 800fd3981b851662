use Rattle.std.proofs.Common.{◌≡◌, drop}
use Rattle.kube_parts.specs.Named.{value_named}
use Rattle.kube_parts.proofs.words.value_named.Given as goal

-- what is named is among the values that are left
abbrev pub invariant-loop-value : goal.invariant-loop-value
invariant-loop-value g l = value_named g.T.Worded.word (drop l.value-index l.all) l.word ≡ value_named g.T.Worded.word l.all l.word
