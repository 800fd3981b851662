use Rattle.std.proofs.Common.{◌∙◌, ◌∷◌, ap}
use Rattle.binder_model.specs.Matching.{is_excluded}
use Rattle.delayed_binding.proofs.Marking.{mark_put}
use Rattle.delayed_binding.proofs.marks.put_mark.Goals as goal

pub returns : goal.returns
returns c = λ k. mark_put c.reach.new.marks.items c.args.place c.in_ok-reach.ensures.there k ∙ ap (λ places. is_excluded (c.args.place ∷ places) k) c.in_ok-reach.ensures.same
