use Rattle.std.proofs.Common.{ap}
use Rattle.std.specs.Option.{option_copied}
use Rattle.volume_index.proofs.Follows.{left_alone}
use Rattle.volume_index.proofs.kept.edited.Goals as goal

pub returns-in-Some-None : goal.returns-in-Some-None
returns-in-Some-None c =
    left_alone (option_copied c.args.before) (option_copied c.args.after) c.in-Some-None.before.now c.args.index.now c.remove.new.self
    (ap option_copied c.in-Some-None.is-0) (ap option_copied c.in-Some-None.is-1) c.remove.ensures
