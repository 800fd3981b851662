use Rattle.std.proofs.Common.{◌≡◌, drop}
use Rattle.std.specs.List.{list_all}
use Rattle.label_rules.specs.Selectors.{holds}
use Rattle.label_rules.proofs.all_hold.Given as goal

-- the expressions so far all hold
abbrev pub invariant-loop-expr : goal.invariant-loop-expr
invariant-loop-expr l = list_all (holds l.labels) (drop l.expr-index l.exprs) ≡ list_all (holds l.labels) l.exprs
