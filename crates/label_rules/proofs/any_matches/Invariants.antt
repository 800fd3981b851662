use Rattle.std.proofs.Common.{◌≡◌, drop}
use Rattle.std.specs.List.{list_any}
use Rattle.label_rules.specs.Selectors.{term_matches}
use Rattle.label_rules.proofs.any_matches.Given as goal

-- no term matched so far
abbrev pub invariant-loop-term : goal.invariant-loop-term
invariant-loop-term l = list_any (term_matches l.labels) (drop l.term-index l.terms) ≡ list_any (term_matches l.labels) l.terms
