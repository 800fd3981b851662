use Rattle.std.proofs.Common.{refl}
use Rattle.actor_turns.proofs.Lived.{next_lives}
use Rattle.actor_turns.proofs.Stepping.{next_life}
use Rattle.actor_turns.proofs.player.begin_life.Goals as goal

pub returns-then-seat-player-clause-plays : goal.returns-then-seat-player-clause-plays
returns-then-seat-player-clause-plays c = λ past idle named plays.
    let old = c.args.player.now in
    next_life old (record old { seat = c.seat_at-seat.result; began = old.made; actor = c.restart.new.self }) past idle named refl refl refl
    c.seat_at-seat.ensures c.if-seat-player.true c.restart.ensures.is c.restart.ensures.stands plays

pub returns-then-seat-player-clause-lives : goal.returns-then-seat-player-clause-lives
returns-then-seat-player-clause-lives c = λ role past told idle named plays lives.
    let old = c.args.player.now in
    next_lives role old c.seat_at-seat.result old.made c.restart.new.self past told idle named c.seat_at-seat.ensures c.if-seat-player.true c.restart.ensures.is c.restart.ensures.stands plays lives
