-- All actors of a drain pay, in every setup whose imports allow it.
-- A choice of this project.
use Rattle.std.specs.Prelude.{ℕ, List}
use Rattle.call_types.specs.declared.entry.Entry.{Entry}
use Rattle.call_types.specs.declared.setup.Setup.{Setup}
use Rattle.binder_model.specs.Promises.{IsRunOf}
use Rattle.worker_core.specs.declared.role.Role.{Role}
use Rattle.worker_core.specs.Roles.{IsBuiltKind}
use Rattle.actor_rounds.specs.declared.drainers.Drainer.{Drainer}
use Rattle.actor_rounds.specs.Drainers.{AreAtRest, AreRoles, roles_of}
use Rattle.actor_rounds.specs.Rounds.{Drains, Lets, RoundOf}
use Rattle.settle_pays.specs.Pays.Pays.{DecisionsPay, HasFallen, HavePaid}
use Rattle.settle_pays.specs.Actors.Reclaiming.{UidsFit}
use Rattle.settle_progress.specs.Drains.Settling.{MayDrain}

-- each import has a UID of 128 bits
pub record ImportsAllow (setup : Setup) : Type 0 where
  pub uids : UidsFit setup

-- each of the entries that came since pays, so what the world has still to do never rose, and fell where one of them lasts that is
-- worth something
pub record PaysOff (setup : Setup) (earlier past : List Entry) : Type 0 where
  pub paid : HavePaid setup earlier past
  pub fallen : HasFallen setup earlier past

-- each actor that is built pays
abbrev pub ActorsPay : Type 0
ActorsPay = (setup : Setup) (seat : ℕ) (role : Role) → IsBuiltKind role.kind → ImportsAllow setup → DecisionsPay setup seat role

-- a round of the actors of a drain, with nothing under way, pays off, be it whole or not
abbrev pub RoundsOfActorsPay : Type 0
RoundsOfActorsPay =
    (setup : Setup) (lets : Lets) (round : RoundOf lets) → ImportsAllow setup → AreRoles (roles_of round.drainers) → AreAtRest round.drainers
    → IsRunOf setup round.past → PaysOff setup round.start round.past

-- so does a drain from end to end, which leaves nothing under way between its rounds
abbrev pub DrainsPay : Type 0
DrainsPay =
    (setup : Setup) (lets : Lets) (ds after : List Drainer) (h past : List Entry) (b left : ℕ) → ImportsAllow setup → MayDrain setup h ds
    → AreAtRest ds → IsRunOf setup past → Drains lets setup after past left ds h b
    → PaysOff setup h past
