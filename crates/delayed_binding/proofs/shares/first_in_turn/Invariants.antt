use Rattle.std.specs.Option.{option_copied}
use Rattle.delayed_binding.specs.Steps.Alike.{HasRefused}
use Rattle.delayed_binding.specs.Steps.Scans.{NoneBelow, ServesInTurn}
use Rattle.delayed_binding.proofs.shares.first_in_turn.Given as goal

-- no node of the turn before the place serves the claims, and one was refused that has no shares for the others
abbrev pub invariant-loop-place : goal.invariant-loop-place
invariant-loop-place g l = NoneBelow (g.L.Lookup.rows l.lookup) (ServesInTurn (g.L.Lookup.rows l.lookup) l.claims (option_copied l.last) l.past)
    l.place × HasRefused (g.L.Lookup.rows l.lookup) l.others (option_copied l.refused)
