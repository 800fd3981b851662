use Rattle.std.proofs.Common.{rules, arith}
use Rattle.seat_lock.proofs.Turns.{advances_at}
use Rattle.seat_lock.proofs.Bells.{rings}
use Rattle.seat_lock.proofs.table.SeatLock.advance.Goals as goal

pub fetch_add-next-requires : goal.fetch_add-next-requires
fetch_add-next-requires g c = let holds = c.requires.turn in (
  search rules,
  search rules,
  advances_at g.V.Keeps.history g.V.Keeps.base _ _ _ _ holds.0 holds.1 holds.2 holds.3,
)

pub fetch_add-requires : goal.fetch_add-requires
fetch_add-requires g c = let bell = c.bell_of-bell.ensures in (
  search rules,
  omega arith,
  rings g.V.Keeps.history g.V.Keeps.base _ _ _ _ _ (omega arith),
)
