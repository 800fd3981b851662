use Rattle.std.proofs.Common.{◌≡◌, drop}
use Rattle.attach_law.specs.Attached.{is_attached}
use Rattle.attach_control.proofs.list.is_attached.Given as goal

-- what is to be found is still ahead
abbrev pub invariant-loop-attachment : goal.invariant-loop-attachment
invariant-loop-attachment l = is_attached l.volume l.node (drop l.attachment-index l.list) ≡ is_attached l.volume l.node l.list
