-- Why a run of a worker that is alone with the side comes to an end: each of its asks after its list lowers a measure.
-- A choice of this project.
use Rattle.std.specs.Prelude.{ℕ, ◌+◌, ◌*◌, ◌<◌, ◌≡◌, true, false, List, Some, map, if◌then◌else◌}
use Rattle.kube_objects.specs.declared.objects.Object.{Object}
use Rattle.snapshot_bind.specs.declared.calls.SnapAsk.{SnapAsk}
use Rattle.snapshot_bind.specs.declared.calls.SnapAsk.TheVariants as asks
use Rattle.snapshot_bind.specs.Rules.{IsSideRun, SideCall, side_after}
use Rattle.snapshot_bind.specs.SideStore.{Side, after, effect_of, reply_of}
use Rattle.snapshot_worker.specs.declared.seen.SeenSnapshot.{SeenSnapshot}
use Rattle.snapshot_worker.specs.declared.seen.SeenContent.{SeenContent}
use Rattle.snapshot_worker.specs.Workers.{Worker, absorb_of, next_of}
use Rattle.snapshot_drain.specs.Drains.{HaveNames, total, weight}

-- the worker was told a list, and the rows that it keeps are those that stand
pub record IsAlone (σ : Side) (w : Worker) : Type 0 where
  pub listed : w.listed ≡ true
  pub snapshots : map (λ (x : SeenSnapshot). x.row) w.snapshots ≡ σ.snapshots
  pub contents : map (λ (x : SeenContent). x.row) w.contents ≡ σ.contents

-- a snapshot that was not dropped may be
abbrev pub snapshot_load : SeenSnapshot → ℕ
snapshot_load x = if x.dropped then 0 else 1

-- a content may be dropped, and its snapshot told gone
abbrev pub content_load : SeenContent → ℕ
content_load x = (if x.dropped then 0 else 1) + (if x.gone then 0 else 1)

-- how many asks may come of the rows without a write
abbrev pub load : Worker → ℕ
load w = total snapshot_load w.snapshots + total content_load w.contents

-- what a run may still ask for: a write adds a load of 2 at most
abbrev pub measure : Side → Worker → ℕ
measure σ w = 3 * weight σ + load w

-- the worker is alone still, and the measure fell
pub record IsLowered (σ τ : Side) (w v : Worker) : Type 0 where
  pub alone : IsAlone τ v
  pub lower : measure τ v < measure σ w

-- the side after an ask
abbrev pub side_by : List Object → Side → SnapAsk → Side
side_by world σ ask = after σ (effect_of world σ ask)

-- the worker after the side's answer to its ask
abbrev pub worker_by : List Object → Side → Worker → SnapAsk → Worker
worker_by world σ w ask = absorb_of w ask (reply_of (effect_of world σ ask))

-- of a worker that is alone each ask leaves it so and lowers the measure
abbrev pub EachStepLowers : Type 0
EachStepLowers = (past : List SideCall) → IsSideRun past → HaveNames (side_after past) → (w : Worker) → IsAlone (side_after past) w
    → (world : List Object) (ask : SnapAsk) → next_of w ≡ Some ask → IsLowered (side_after past) (side_by world (side_after past) ask) w (worker_by world (side_after past) w ask)

-- after its list a worker is alone, if nobody else asks
abbrev pub ListsMakeAlone : Type 0
ListsMakeAlone = (σ : Side) (world : List Object) (w : Worker) → w.listed ≡ false → IsAlone σ (worker_by world σ w asks.SnapList)
