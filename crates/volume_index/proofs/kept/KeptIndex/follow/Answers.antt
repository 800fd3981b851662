use Rattle.std.proofs.Common.{◌∙◌, sym}
use Rattle.std.specs.Option.{option_copied}
use Rattle.volume_index.proofs.Follows.{keeps_on}
use Rattle.volume_index.proofs.kept.KeptIndex.follow.Goals as goal

pub returns-in-Ok-clause-keeps : goal.returns-in-Ok-clause-keeps
returns-in-Ok-clause-keeps c =
    keeps_on (option_copied c.args.before) (option_copied c.args.after) c.args.self.now _ c.edited.new.index _ _ c.volume_of.ensures
    c.volume_of-in-Some.ensures (sym c.self.view_is ∙ c.in-Some.is) c.in-Ok.ensures
