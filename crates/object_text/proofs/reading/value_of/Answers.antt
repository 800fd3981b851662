use Rattle.object_text.proofs.Utf8Texts.{value_of_text, value_of_bytes}
use Rattle.object_text.proofs.reading.value_of.Goals as goal

pub returns-in-Ok-read : goal.returns-in-Ok-read
returns-in-Ok-read c = value_of_text _ _ _ c.in-Ok.ensures.cases.0 c.in-Ok.ensures.cases.1 c.in-Ok-read.ensures.ok

pub returns-in-Err : goal.returns-in-Err
returns-in-Err c = value_of_bytes _ c.in-Err.ensures.cases.0
