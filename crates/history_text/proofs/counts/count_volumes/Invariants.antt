use Rattle.std.proofs.Common.{◌≡◌, ◌+◌, ◌≤◌, drop}
use Rattle.std.specs.List.{count_by}
use Rattle.history_text.specs.Summaries.{is_volume_in}
use Rattle.history_text.proofs.counts.count_volumes.Given as goal

-- those counted, and those that still stand ahead
abbrev pub invariant-loop-object : goal.invariant-loop-object
invariant-loop-object l = (l.count + count_by (is_volume_in l.phase) (drop l.object-index l.objects) ≡ count_by (is_volume_in l.phase) l.objects) × (l.count ≤ l.object-index)
