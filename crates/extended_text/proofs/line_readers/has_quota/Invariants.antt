use Rattle.std.proofs.Common.{◌≡◌, drop}
use Rattle.extended_text.specs.Sides.{has_quota}
use Rattle.extended_text.proofs.line_readers.has_quota.Given as goal

-- the namespace has none of the quotas that came before
abbrev pub invariant-loop-quota : goal.invariant-loop-quota
invariant-loop-quota l = has_quota l.namespace (drop l.quota-index l.quotas) ≡ has_quota l.namespace l.quotas
