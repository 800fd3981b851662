use Rattle.std.proofs.Common.{◌≡◌, ◌↔◌, ◌≤◌, ◌-◌, ◌∷◌, ◌++◌, drop, length}
use Rattle.licence_rows.proofs.ids.is_joined.Given as goal

-- what is left of both is to be tested still
abbrev pub invariant-loop-place : goal.invariant-loop-place
invariant-loop-place l = record {
  within : l.place ≤ length l.front;
  left : (drop l.place l.text ≡ drop l.place l.front ++ l.mark ∷ l.back) ↔ (l.text ≡ l.front ++ l.mark ∷ l.back);
}

abbrev pub decreases-loop-place : goal.decreases-loop-place
decreases-loop-place l = length l.front - l.place
