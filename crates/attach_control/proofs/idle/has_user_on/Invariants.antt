use Rattle.std.proofs.Common.{◌≡◌, drop}
use Rattle.std.specs.List.{list_any}
use Rattle.attach_law.specs.Next.{is_user_on}
use Rattle.attach_control.proofs.idle.has_user_on.Given as goal

-- what is to be found is still ahead
abbrev pub invariant-loop-object : goal.invariant-loop-object
invariant-loop-object l = list_any (is_user_on l.node l.claim) (drop l.object-index l.objects) ≡ list_any (is_user_on l.node l.claim) l.objects
