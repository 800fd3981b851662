use Rattle.std.proofs.Common.{reverse, rules}
use Rattle.licence_record.proofs.Defaulting.{first_is}
use Rattle.licence_record.proofs.classes.is_first_marked.Goals as goal

pub returns : goal.returns
returns c = first_is (reverse c.args.mine.now) c.args.class.now _ (search rules) c.some_newest.ensures
