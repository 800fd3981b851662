use Rattle.object_text.proofs.Versions.{version_unread}
use Rattle.object_text.proofs.member_readers.number_of.Goals as goal

pub returns-in-Err : goal.returns-in-Err
returns-in-Err c = version_unread _ c.in-Err.ensures.value.0 c.requires.digits c.requires.some
