use Rattle.std.proofs.Common.{sym}
use Rattle.script_text.proofs.Indexes.{other_kept, drain_kept}
use Rattle.script_text.proofs.index.note_line.Goals as goal

pub returns-in-None : goal.returns-in-None
returns-in-None c = other_kept c.args.imports.now c.args.index.now c.args.before.now c.args.line.now c.in-Call.user c.in-Call.request c.requires c.in-Call.is (sym c.in-None.ensures)

pub returns-in-Drain : goal.returns-in-Drain
returns-in-Drain c = drain_kept c.args.imports.now c.args.index.now c.args.before.now c.args.line.now c.requires c.in-Drain.is
