use Rattle.std.proofs.Common.{sym, ◌∙◌}
use Rattle.field_rules.proofs.Names.{label_is}
use Rattle.field_rules.proofs.faults.is_label.Goals as goal

pub returns : goal.returns
returns c = c.reads_as_label.ensures ∙ sym (label_is c.args.bytes.now)
