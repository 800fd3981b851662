use Rattle.history_text.proofs.replies.put_refusal.Goals as goal

pub returns-in-NotFound : goal.returns-in-NotFound
returns-in-NotFound c = rw c.in-NotFound.is (record { ok = c.put_refused.ensures.ok })

pub returns-in-AlreadyExists : goal.returns-in-AlreadyExists
returns-in-AlreadyExists c = rw c.in-AlreadyExists.is (record { ok = c.put_refused-in-AlreadyExists.ensures.ok })

pub returns-in-Conflict : goal.returns-in-Conflict
returns-in-Conflict c = rw c.in-Conflict.is (record { ok = c.put_refused_number.ensures.ok })

pub returns-in-Exhausted : goal.returns-in-Exhausted
returns-in-Exhausted c = rw c.in-Exhausted.is (record { ok = c.put_refused_number-in-Exhausted.ensures.ok })

pub returns-in-StaleEpoch : goal.returns-in-StaleEpoch
returns-in-StaleEpoch c = rw c.in-StaleEpoch.is (record { ok = c.put_refused_number-in-StaleEpoch.ensures.ok })
