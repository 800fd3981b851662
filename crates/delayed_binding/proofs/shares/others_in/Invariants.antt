use Rattle.std.proofs.Common.{◌≡◌, drop}
use Rattle.delayed_binding.specs.Choices.{others_in}
use Rattle.delayed_binding.proofs.shares.others_in.Given as goal

-- those from the place on, in order
abbrev pub invariant-loop-place : goal.invariant-loop-place
invariant-loop-place g l = l.others.items ≡ others_in (g.L.Lookup.rows l.lookup) (drop l.place l.claims)
