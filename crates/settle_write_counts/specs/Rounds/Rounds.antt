-- How many writes and calls a round makes, by what its world has and has still to do.
-- A choice of this project.
use Rattle.std.specs.Prelude.{ℕ, ◌+◌, length}
use Rattle.kube_objects.specs.declared.objects.Object.{Object}
use Rattle.kube_objects.specs.declared.objects.Object.TheVariants.{Pod}
use Rattle.binder_model.specs.World.{World}
use Rattle.settle_measure.specs.Left.Measure.{claims_in, total}
use Rattle.settle_calls.specs.Slots.Rounds.{size_of_world}

-- ---- objects

-- the objects and the names of claims, with the volumes that may be made
abbrev pub most_size : World → ℕ
most_size w = size_of_world w + claims_in w.store.rows

-- the pods, and the claims that they name
abbrev pub pod_size : Object → ℕ
pod_size (Pod p) = 1 + length p.claims
pod_size o = 0

-- summed over all rows
abbrev pub pods_size : World → ℕ
pods_size w = total pod_size w.store.rows
