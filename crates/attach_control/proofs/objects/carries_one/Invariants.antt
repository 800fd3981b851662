use Rattle.std.proofs.Common.{◌≡◌, drop}
use Rattle.std.specs.List.{list_any}
use Rattle.attach_law.specs.Calls.{carries_uid}
use Rattle.attach_control.proofs.objects.carries_one.Given as goal

-- one that is carried is still ahead
abbrev pub invariant-loop-claim : goal.invariant-loop-claim
invariant-loop-claim g l =
    list_any (carries_uid (g.L.Lookup.rows l.lookup) l.volume) (drop l.claim-index l.claims) ≡ list_any (carries_uid (g.L.Lookup.rows l.lookup) l.volume) l.claims
