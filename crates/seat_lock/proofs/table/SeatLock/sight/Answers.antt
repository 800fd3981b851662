use Rattle.std.proofs.Common.{rules}
use Rattle.seat_lock.proofs.Showing.{sight_splits}
use Rattle.seat_lock.proofs.table.SeatLock.sight.Goals as goal

pub split_seat-seat-requires : goal.split_seat-seat-requires
split_seat-seat-requires g c = (search rules, search rules, sight_splits g.V.Keeps.history g.V.Keeps.base _ _ _ c.args.pass.now.idle)
