use Rattle.std.proofs.Common.{◌≡◌, drop}
use Rattle.std.specs.List.{list_all}
use Rattle.attach_law.specs.Attached.{claim_with, is_claim_attached}
use Rattle.attach_control.proofs.list.are_attached.Given as goal

-- one that is not attached is still ahead
abbrev pub invariant-loop-claim : goal.invariant-loop-claim
invariant-loop-claim g l =
    list_all (λ u. is_claim_attached (g.L.Lookup.rows l.lookup) (claim_with u (g.L.Lookup.rows l.lookup)) l.node l.list) (drop l.claim-index l.claims)
    ≡ list_all (λ u. is_claim_attached (g.L.Lookup.rows l.lookup) (claim_with u (g.L.Lookup.rows l.lookup)) l.node l.list) l.claims
