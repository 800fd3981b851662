-- What a worker needs of a list that it is told: that the rows stand in order, no key twice.
-- A choice of this project.
use Rattle.std.specs.Prelude.{List}
use Rattle.kube_objects.specs.declared.objects.Object.{Object}
use Rattle.snapshot_bind.specs.declared.calls.SnapAsk.{SnapAsk}
use Rattle.snapshot_bind.specs.Rules.{IsSideRun, SideCall, side_after}
use Rattle.snapshot_bind.specs.SideStore.{effect_of, reply_of}
use Rattle.snapshot_worker.specs.Workers.{ListsInOrder}

-- whatever was done before, what the side answers is such a list, or none
abbrev pub EachListIsInOrder : Type 0
EachListIsInOrder = (past : List SideCall) → IsSideRun past → (world : List Object) (ask : SnapAsk) → ListsInOrder (reply_of (effect_of world (side_after past) ask))
