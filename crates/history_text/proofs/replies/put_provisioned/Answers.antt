use Rattle.history_text.proofs.Puts.{text_put}
use Rattle.history_text.proofs.replies.put_provisioned.Goals as goal

pub returns : goal.returns
returns c = record { ok = text_put _ _ _ _ _ c.write_provisioned.ensures.ok }
