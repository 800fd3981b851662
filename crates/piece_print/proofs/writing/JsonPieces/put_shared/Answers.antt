use Rattle.piece_print.proofs.Behind.{shared_behind}
use Rattle.piece_print.proofs.writing.JsonPieces.put_shared.Goals as goal

pub returns : goal.returns
returns c = record { ok = shared_behind _ _ _ _ _ _ c.in_ok-raw.ensures.ok (rw c.as_slice.ensures at c.in_ok-push_shared.ensures.ok) c.in_ok-next.ensures }
