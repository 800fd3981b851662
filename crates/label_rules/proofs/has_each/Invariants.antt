use Rattle.std.proofs.Common.{◌≡◌, drop}
use Rattle.std.specs.List.{list_all}
use Rattle.label_rules.specs.Selectors.{has_pair}
use Rattle.label_rules.proofs.has_each.Given as goal

-- the pairs so far are all there
abbrev pub invariant-loop-pair : goal.invariant-loop-pair
invariant-loop-pair l = list_all (has_pair l.labels) (drop l.pair-index l.pair-items) ≡ list_all (has_pair l.labels) l.wanted
