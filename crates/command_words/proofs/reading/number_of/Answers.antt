use Rattle.command_words.proofs.Numbers.{always_read}
use Rattle.command_words.proofs.reading.number_of.Goals as goal

pub returns-in-Err : goal.returns-in-Err
returns-in-Err c = absurd (always_read c.args.word.now c.in-Err.ensures.value.0 c.requires.digits c.requires.some c.requires.few)
