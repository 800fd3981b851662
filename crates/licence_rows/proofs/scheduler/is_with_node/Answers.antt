use Rattle.std.proofs.Common.{rules}
use Rattle.licence_rows.proofs.Picks.{meta_is}
use Rattle.licence_rows.proofs.scheduler.is_with_node.Goals as goal

pub returns : goal.returns
returns c = meta_is c.args.old.now c.args.new.now _ _ (search rules) c.is_annotated.ensures
