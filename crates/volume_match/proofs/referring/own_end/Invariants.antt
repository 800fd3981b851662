use Rattle.std.proofs.Common.{◌≡◌, ◌≤◌, true}
use Rattle.std.specs.List.{AllWithin}
use Rattle.volume_match.specs.Passing.{refers_to_claim}
use Rattle.volume_match.proofs.referring.own_end.Given as goal

-- those so far refer to the claim
abbrev pub invariant-loop-place : goal.invariant-loop-place
invariant-loop-place l = AllWithin (λ v. refers_to_claim l.claim v ≡ true) l.owned l.start l.place × (l.start ≤ l.place)
