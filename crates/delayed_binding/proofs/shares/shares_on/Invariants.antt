use Rattle.std.proofs.Common.{take}
use Rattle.std.specs.Option.{option_copied}
use Rattle.delayed_binding.specs.Steps.Sharing.{ArePassed, IsSharedOut, held_by}
use Rattle.delayed_binding.proofs.shares.shares_on.Given as goal

-- the claims so far have their shares, and what is passed is taken
abbrev pub invariant-loop-claim : goal.invariant-loop-claim
invariant-loop-claim g l = IsSharedOut (g.L.Lookup.rows l.lookup) l.node (take l.claim-index l.claims) (held_by l.shares) × ArePassed (g.L.Lookup.rows l.lookup) (option_copied l.index) l.shares
