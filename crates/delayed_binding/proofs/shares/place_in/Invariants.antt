use Rattle.std.proofs.Common.{◌≡◌, ◌+◌, drop}
use Rattle.delayed_binding.specs.Steps.Sharing.{place_in}
use Rattle.delayed_binding.proofs.shares.place_in.Given as goal

-- the claim comes after all so far
abbrev pub invariant-loop-place : goal.invariant-loop-place
invariant-loop-place l = l.place + place_in l.claim (drop l.place l.claims) ≡ place_in l.claim l.claims
