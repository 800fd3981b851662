use Rattle.std.proofs.Common.{reverse, take}
use Rattle.store_judge.specs.Faults.{FaultsIn}
use Rattle.store_judge.specs.Steps.Judged.{JudgeStands}
use Rattle.store_judge.proofs.judging.judge_entries.Given as goal

-- the entries so far were judged, and these are their faults
abbrev pub invariant-loop-i : goal.invariant-loop-i
invariant-loop-i l = record {
  stands : JudgeStands l.judge l.setup (reverse (take l.i l.entries));
  found : FaultsIn l.setup (reverse (take l.i l.entries)) l.faults;
}
