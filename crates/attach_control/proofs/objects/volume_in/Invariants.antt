use Rattle.std.proofs.Common.{◌≡◌, drop}
use Rattle.attach_law.specs.Attached.{volume_with}
use Rattle.attach_control.proofs.objects.volume_in.Given as goal

-- the first is still ahead
abbrev pub invariant-loop-object : goal.invariant-loop-object
invariant-loop-object l = volume_with l.uid (drop l.object-index l.objects) ≡ volume_with l.uid l.objects
