-- What an actor asks, as a request of its seat.
-- A choice of this project.
use Rattle.std.specs.Prelude.{◌≡◌, Option, Some, None}
use Rattle.call_types.specs.declared.ask.Ask.{Ask}
use Rattle.call_types.specs.declared.request.SeatKind.{SeatKind}
use Rattle.worker_core.specs.declared.turn.Next.{Next}
use Rattle.worker_core.specs.declared.turn.Next.TheVariants as nexts

-- the call that the actor gave, with the kind of its seat; none where it is idle
abbrev pub IsAskOf : SeatKind → Next → Option Ask → Type 0
IsAskOf kind next (Some ask) = (next ≡ nexts.Call ask.request) × (ask.kind ≡ kind)
IsAskOf kind next None = next ≡ nexts.Idle
