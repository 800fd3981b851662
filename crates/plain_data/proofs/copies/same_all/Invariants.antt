-- proofs/copies/same_all/Invariants.antt
use Rattle.std.proofs.Common.{◌≡◌, take}
use Rattle.plain_data.proofs.copies.same_all.Given as goal

-- the lists are equal so far
abbrev pub invariant-loop-i : goal.invariant-loop-i
invariant-loop-i g l = take l.i l.left ≡ take l.i l.right
