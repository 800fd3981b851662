use Rattle.side_text.proofs.entries.put_quota.Goals as goal

pub returns-in-OverBytes : goal.returns-in-OverBytes
returns-in-OverBytes c = rw c.in-OverBytes.is (record { ok = c.put_over.ensures.ok })
