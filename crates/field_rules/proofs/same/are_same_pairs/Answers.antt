use Rattle.std.proofs.lemmas.Bool.Decides.{same_from_decides}
use Rattle.field_rules.proofs.Equalities.{same_pairs-Decides}
use Rattle.field_rules.proofs.same.are_same_pairs.Goals as goal

pub returns : goal.returns
returns c = same_from_decides _ _ c.same.ensures (same_pairs-Decides c.args.a.now c.args.b.now)
