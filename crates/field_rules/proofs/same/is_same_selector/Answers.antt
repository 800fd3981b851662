use Rattle.std.proofs.lemmas.Bool.Decides.{same_from_decides}
use Rattle.binder_model.specs.Same.{same_selector}
use Rattle.field_rules.proofs.Equalities.{same_option-Decides, same_selector-Decides}
use Rattle.field_rules.proofs.same.is_same_selector.Goals as goal

pub returns : goal.returns
returns c = same_from_decides _ _ c.same_option.ensures (same_option-Decides same_selector same_selector-Decides c.args.a.now c.args.b.now)
