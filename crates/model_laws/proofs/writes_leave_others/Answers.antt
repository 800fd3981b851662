use Rattle.model_laws.proofs.Replies.{writes_leave_others}
use Rattle.model_laws.proofs.writes_leave_others.Goals as goal

pub returns : goal.returns
returns c = writes_leave_others
