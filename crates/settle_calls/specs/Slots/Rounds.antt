-- The size of a world: its objects, and the claims that its pods name.
-- A choice of this project.
use Rattle.std.specs.Prelude.{ℕ, ◌+◌, length}
use Rattle.kube_objects.specs.declared.objects.Object.{Object}
use Rattle.kube_objects.specs.declared.objects.Object.TheVariants.{Pod}
use Rattle.binder_model.specs.World.{World}
use Rattle.settle_measure.specs.Left.Measure.{total}

-- the claims that an object names: each of a pod
abbrev pub names_in : Object → ℕ
names_in (Pod p) = length p.claims
names_in o = 0

-- how many objects there are, and how many claims the pods name, each pod's counted by itself
abbrev pub size_of_world : World → ℕ
size_of_world w = total (λ o. 1 + names_in o) w.store.rows
