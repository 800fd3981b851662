-- A drain of the side: one worker runs again and again, until a run of it made no write.
-- A choice of this project.
use Rattle.std.specs.Prelude.{ℕ, zero, suc, ◌+◌, ◌*◌, ◌≡◌, Bool, true, false, List, Option, Some, None, is_some, length, if◌then◌else◌}
use Rattle.kube_objects.specs.declared.objects.Object.{Object}
use Rattle.snapshot_bind.specs.declared.calls.SnapAsk.{SnapAsk}
use Rattle.snapshot_bind.specs.declared.effect.Effect.{Effect}
use Rattle.snapshot_bind.specs.declared.effect.Effect.TheVariants.{Answers}
use Rattle.snapshot_bind.specs.Rules.{EachOf, IsSideRun, SideCall, own, side_after}
use Rattle.snapshot_bind.specs.SideStore.{Side, effect_of}
use Rattle.snapshot_worker.specs.Workers.{Lives, Worker, next_of}
use Rattle.snapshot_drain.specs.Alone.{side_by, worker_by}
use Rattle.snapshot_drain.specs.Drains.{NamesContent, weight}

-- where a run ended: the side, the worker, and how many writes it made
pub record Ended : Type 0 where
  pub side : Side
  pub worker : Worker
  pub writes : ℕ

-- 1 for a write
abbrev pub writes_of : Effect → ℕ
writes_of (Answers reply) = 0
writes_of effect = 1

-- with so many writes more
abbrev pub with_writes : ℕ → Option Ended → Option Ended
with_writes n None = None
with_writes n (Some ended) = Some (record ended { writes = n + ended.writes })

-- it ends where the worker has no ask, and else goes on after the side's answer
abbrev pub go_on : List Object → (Side → Worker → Option Ended) → Side → Worker → Option SnapAsk → Option Ended
go_on world rest σ w None = Some (record { side = σ; worker = w; writes = 0 })
go_on world rest σ w (Some ask) = with_writes (writes_of (effect_of world σ ask)) (rest (side_by world σ ask) (worker_by world σ w ask))

-- the asks of a worker up to where it has none; nothing where it has fewer than so many turns for it
abbrev pub asks_of : List Object → ℕ → Side → Worker → Option Ended
asks_of world zero σ w = None
asks_of world (suc n) σ w = go_on world (asks_of world n) σ w (next_of w)

-- so many turns are enough for a run: one for its list, one for each ask that the rows may give, and one to find that it has none
abbrev pub turns_for : Side → ℕ
turns_for σ = 3 * weight σ + length σ.snapshots + 2 * length σ.contents + 2

-- a run: the worker is woken, so that it begins with a list
abbrev pub run_of : List Object → Side → Worker → Option Ended
run_of world σ w = asks_of world (turns_for σ) σ (record w { listed = false })

-- no write was made
abbrev pub is_still : ℕ → Bool
is_still zero = true
is_still (suc n) = false

-- after a run without a write the drain is at its end
abbrev pub unless_still : (Side → Worker → Option Ended) → Option Ended → Option Ended
unless_still rest None = None
unless_still rest (Some ended) = if is_still ended.writes then Some ended else rest ended.side ended.worker

-- a drain of at most so many runs; nothing where these are too few
abbrev pub drain_of : List Object → ℕ → Side → Worker → Option Ended
drain_of world zero σ w = None
drain_of world (suc runs) σ w = unless_still (drain_of world runs) (run_of world σ w)

-- whatever users and workers did before, if no content was handed in with the empty name, a drain by a worker whose calls were all
-- made by one seat is at its end after at most one run more than the rows weigh
abbrev pub EachDrainEnds : Type 0
EachDrainEnds = (world : List Object) (seat : ℕ) (past : List SideCall) → IsSideRun past → EachOf (λ (c : SideCall). NamesContent c.entry.ask) past
    → (w : Worker) → Lives (own seat past) w → is_some (drain_of world (weight (side_after past) + 1) (side_after past) w) ≡ true
