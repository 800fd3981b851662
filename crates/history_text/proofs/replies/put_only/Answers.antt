use Rattle.history_text.proofs.Puts.{text_put}
use Rattle.history_text.proofs.replies.put_only.Goals as goal

pub returns : goal.returns
returns g c = record { ok = text_put _ _ _ _ _ c.write_only.ensures.ok }
