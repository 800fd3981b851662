use Rattle.std.proofs.Common.{◌≡◌, ◌↔◌, ◌≤◌, ◌-◌, [], ◌∷◌, ◌++◌, drop, length}
use Rattle.licence_scans.proofs.walks.is_appended.Given as goal

-- what is left of both is to be tested still
abbrev pub invariant-loop-place : goal.invariant-loop-place
invariant-loop-place l = record {
  within : l.place ≤ length l.old;
  left : (drop l.place l.new ≡ drop l.place l.old ++ l.name ∷ []) ↔ (l.new ≡ l.old ++ l.name ∷ []);
}

abbrev pub decreases-loop-place : goal.decreases-loop-place
decreases-loop-place l = length l.old - l.place
