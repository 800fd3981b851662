use Rattle.script_text.proofs.Indexes.{turn_kept}
use Rattle.script_text.proofs.index.note_turn.Goals as goal

pub returns-else-all-gt-MOST_CALLS : goal.returns-else-all-gt-MOST_CALLS
returns-else-all-gt-MOST_CALLS c = turn_kept c.args._imports.now c.args.index.now c.args._before.now c.args.actor.now c.args.calls c.in-Some.all
    c.requires c.in-Some.ensures.1 c.if-all-gt-MOST_CALLS.false
