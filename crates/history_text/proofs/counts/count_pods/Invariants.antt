use Rattle.std.proofs.Common.{◌≡◌, ◌+◌, ◌≤◌, drop}
use Rattle.std.specs.List.{count_by}
use Rattle.history_text.specs.Summaries.{is_pod}
use Rattle.history_text.proofs.counts.count_pods.Given as goal

-- those counted, and those that still stand ahead
abbrev pub invariant-loop-object : goal.invariant-loop-object
invariant-loop-object l = (l.count + count_by (is_pod) (drop l.object-index l.objects) ≡ count_by (is_pod) l.objects) × (l.count ≤ l.object-index)
