use Rattle.std.proofs.Common.{◌∙◌, ap, sym}
use Rattle.std.specs.Option.{option_copied}
use Rattle.delayed_binding.proofs.Marking.{got_mark, is_set}
use Rattle.delayed_binding.proofs.marks.mark_at.Goals as goal

pub returns-in-None : goal.returns-in-None
returns-in-None c = sym (ap (λ r. is_set (option_copied r)) c.in-None.is) ∙ got_mark c.get.result c.args.marks.now c.args.place c.get.ensures.lookup.1 c.get.ensures.lookup.3

pub returns-in-Some : goal.returns-in-Some
returns-in-Some c = sym (ap (λ r. is_set (option_copied r)) c.in-Some.is) ∙ got_mark c.get.result c.args.marks.now c.args.place c.get.ensures.lookup.1 c.get.ensures.lookup.3
