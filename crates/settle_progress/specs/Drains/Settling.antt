-- When a drain ends settled, over any choice of which requests reach the world.
-- A choice of this project.
use Rattle.std.specs.Prelude.{ℕ, true, List}
use Rattle.call_types.specs.declared.entry.Entry.{Entry}
use Rattle.call_types.specs.declared.setup.Setup.{Setup}
use Rattle.binder_model.specs.Promises.{IsRunOf}
use Rattle.binder_model.specs.World.{world}
use Rattle.actor_rounds.specs.declared.drainers.Drainer.{Drainer}
use Rattle.actor_rounds.specs.Drainers.{AreAtRest, AreSeats, AreStanding, seats_of}
use Rattle.actor_rounds.specs.Rounds.{IsRound, Lets}

-- a drain of these may begin here
pub record MayDrain (setup : Setup) (past : List Entry) (ds : List Drainer) : Type 0 where
  pub run : IsRunOf setup past
  pub seats : AreSeats (seats_of ds)
  pub stand : AreStanding ds past

-- a whole round leaves its drainers so that the next may begin with them
abbrev pub RoundsLeaveDrainers : Type 0
RoundsLeaveDrainers = (setup : Setup) (lets : Lets) (ds after : List Drainer) (h past : List Entry) (b left : ℕ) → MayDrain setup h ds
    → IsRunOf setup past → IsRound lets past left ds h b after true → MayDrain setup past after × AreAtRest after
