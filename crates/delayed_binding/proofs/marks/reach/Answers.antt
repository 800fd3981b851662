use Rattle.std.proofs.Common.{◌∙◌, ap}
use Rattle.delayed_binding.specs.Steps.Marks.{marked}
use Rattle.delayed_binding.proofs.Marking.{mark_more}
use Rattle.delayed_binding.proofs.marks.reach.Goals as goal

pub marks-preserved : goal.marks-preserved
marks-preserved c = ap (marked 0) c.in_ok-push.ensures.items ∙ (mark_more c.marks.marks.items ∙ c.marks.invariant)
