-- How many calls all drains together may make.
-- A choice of this project: a practical amount, of which no law says that it is enough.
use Rattle.std.specs.Prelude.{ℕ, ◌+◌, ◌*◌, nat_lt, List, [], ◌∷◌, Option, Some, None, length, if◌then◌else◌}
use Rattle.kube_objects.specs.declared.objects.Object.{Object}
use Rattle.kube_objects.specs.declared.objects.Object.TheVariants.{Pod}
use Rattle.call_types.specs.declared.entry.Entry.{Entry}
use Rattle.call_types.specs.declared.setup.Setup.{Setup}
use Rattle.binder_model.specs.World.{world}

-- an object, and the claims that it names if it is a pod
abbrev pub size_of_object : Object → ℕ
size_of_object (Pod p) = 1 + length p.claims
size_of_object object = 1

-- the objects, and the claims that pods name, each pod's counted by itself
abbrev pub size_of_all : List Object → ℕ
size_of_all [] = 0
size_of_all (object ∷ objects) = size_of_object object + size_of_all objects

-- the planned faults whose number the devices have not reached
abbrev pub faults_ahead : ℕ → List ℕ → ℕ
faults_ahead calls [] = 0
faults_ahead calls (fault ∷ faults) = if nat_lt calls fault then 1 + faults_ahead calls faults else faults_ahead calls faults

-- the most calls that drains may make where no budget is given: 133,120
abbrev pub most_budget : ℕ
most_budget = 133120

-- the number, or the most where it is greater
abbrev pub at_most : ℕ → ℕ → ℕ
at_most most n = if nat_lt most n then most else n

-- by how much the budget is raised
abbrev pub raise_for : ℕ → ℕ → ℕ
raise_for size faults = 128 * ((size + 16) * (faults + 1))

-- as each drain begins the budget is raised, but never above the most; a budget that was given stays
abbrev pub raised : Option ℕ → Setup → List Entry → ℕ → ℕ
raised (Some given) setup past budget = given
raised None setup past budget = at_most most_budget (budget + raise_for (size_of_all (world setup past).store.rows) (faults_ahead (world setup past).devices.calls setup.faults))

-- the budget before the first drain
abbrev pub first_budget : Option ℕ → ℕ
first_budget (Some given) = given
first_budget None = 0
