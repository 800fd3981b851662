use Rattle.script_text.specs.Steps.Indexed.{said_by}
use Rattle.script_text.proofs.Meanings.{can_take}
use Rattle.script_text.proofs.reading.take_filled.Goals as goal

pub take-requires-clause-early : goal.take-requires-clause-early
take-requires-clause-early c = can_take _ (said_by c.args.progress.now) _ _ c.in_ok-meaning.ensures.gives
