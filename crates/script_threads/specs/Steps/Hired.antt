-- The crew of a run: the four users, and then the actors, each with a seat for each of its lives.
-- A choice of this project.
use Rattle.std.specs.Prelude.{ℕ, ◌≡◌, List, [], ◌∷◌, ◌++◌}
use Rattle.script_lines.specs.declared.actors.Actor.{Actor}
use Rattle.script_text.specs.declared.script.Line.{Line}
use Rattle.script_text.specs.declared.script.Script.{Script}
use Rattle.actor_turns.specs.declared.part.Part.{Part}
use Rattle.actor_turns.specs.Parts.{lives_of}
use Rattle.shared_work.specs.declared.crew.Hired.{Hired}
use Rattle.shared_work.specs.declared.lines.UserLines.{UserLines}
use Rattle.shared_work.specs.declared.worker.OneOf.{OneOf}
use Rattle.shared_work.specs.declared.worker.OneOf.TheVariants.{First, Second}
use Rattle.shared_work.specs.Seats.{seats_at}
use Rattle.actor_work.specs.declared.members.actor.ActorCalls.{ActorCalls}
use Rattle.actor_work.specs.Crew.Acting.{MayAct, seats_of_lives}
use Rattle.script_runs.specs.Parts.{first_actor_seat, role_of}
use Rattle.script_threads.specs.Started.{after_lives, seat_after, started, started_part}

module _ {L : Type 0} where
  -- a user of this script: it has one seat
  pub record IsUserHired (script : Script) (h : Hired (OneOf (UserLines L) (ActorCalls L))) : Type 0 where
    pub user : UserLines L
    pub is : h.worker ≡ First user
    pub of : user.script.now ≡ script
    pub seats : h.seats ≡ 1

  -- this actor before its first call, with this part, is to make so many calls, and has a seat for each of its lives
  pub record IsHiredFor (actor : Actor) (part : Part) (calls : ℕ) (h : Hired (ActorCalls L)) : Type 0 where
    pub part_is : h.worker.player.part ≡ part
    pub role : h.worker.player.actor.role ≡ role_of actor
    pub calls_are : h.worker.calls ≡ calls
    pub seats : h.seats ≡ lives_of part
    pub may : MayAct h.worker.player h.worker.calls (seats_at [] (seats_of_lives part))

  -- one of a run, whose first life has this seat
  pub record IsActorHired (lines : List Line) (calls : ℕ) (actor : Actor) (first : ℕ) (h : Hired (OneOf (UserLines L) (ActorCalls L))) : Type 0 where
    pub worker : ActorCalls L
    pub is : h.worker ≡ Second worker
    pub hired : IsHiredFor actor (started_part lines actor first) calls (record { worker = worker; seats = h.seats })

  -- these are these actors: each one's first life comes after the lives of the one before it
  abbrev pub AreHired : List Line → ℕ → ℕ → List Actor → List (Hired (OneOf (UserLines L) (ActorCalls L))) → Type 0
  AreHired lines calls first [] crew = crew ≡ []
  AreHired lines calls first (actor ∷ actors) [] = ⊥
  AreHired lines calls first (actor ∷ actors) (h ∷ crew) = IsActorHired lines calls actor first h × AreHired lines calls (after_lives (started_part lines actor first)) actors crew

  -- such actors stand behind those before, and this seat is the one after those of their lives
  pub record HaveJoined (lines : List Line) (calls first next : ℕ) (actors : List Actor) (before after : List (Hired (OneOf (UserLines L) (ActorCalls L)))) : Type 0 where
    pub joined : List (Hired (OneOf (UserLines L) (ActorCalls L)))
    pub are : after ≡ before ++ joined
    pub hired : AreHired lines calls first actors joined
    pub seat : next ≡ seat_after lines first actors

  pub record IsCrew (script : Script) (workers calls : ℕ) (crew : List (Hired (OneOf (UserLines L) (ActorCalls L)))) : Type 0 where
    pub one : Hired (OneOf (UserLines L) (ActorCalls L))
    pub two : Hired (OneOf (UserLines L) (ActorCalls L))
    pub three : Hired (OneOf (UserLines L) (ActorCalls L))
    pub four : Hired (OneOf (UserLines L) (ActorCalls L))
    pub actors : List (Hired (OneOf (UserLines L) (ActorCalls L)))
    pub are : crew ≡ one ∷ two ∷ three ∷ four ∷ actors
    pub one_is : IsUserHired script one
    pub two_is : IsUserHired script two
    pub three_is : IsUserHired script three
    pub four_is : IsUserHired script four
    pub hired : AreHired script.lines calls first_actor_seat (started workers script) actors
