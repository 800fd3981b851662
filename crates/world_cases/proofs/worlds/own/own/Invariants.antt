use Rattle.std.proofs.Common.{◌≡◌, reverse, take}
use Rattle.binder_model.specs.Told.{own}
use Rattle.world_cases.proofs.worlds.own.own.Given as goal

-- those of the entries so far
abbrev pub invariant-loop-entry : goal.invariant-loop-entry
invariant-loop-entry l = reverse l.mine.items ≡ own l.seat (reverse (take l.entry-index l.entries))
