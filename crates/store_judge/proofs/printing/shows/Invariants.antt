use Rattle.std.proofs.Common.{◌≡◌, drop}
use Rattle.std.specs.List.{list_any}
use Rattle.store_judge.specs.Shown.{is_shown}
use Rattle.store_judge.proofs.printing.shows.Given as goal

-- none of those before is shown
abbrev pub invariant-loop-fault : goal.invariant-loop-fault
invariant-loop-fault l = list_any (is_shown l.options) (drop l.fault-index l.faults) ≡ list_any (is_shown l.options) l.faults
