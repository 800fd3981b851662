-- What a read of an object by itself told, if it was made. A choice of this project.
use Rattle.std.specs.Prelude.{Bool, true, false}
use Rattle.kube_types.specs.declared.lookup.Live.{Live}
use Rattle.kube_types.specs.declared.lookup.Live.TheVariants.{NotAsked, Absent, Present}

-- the read was made
abbrev pub is_asked : Live → Bool
is_asked NotAsked = false
is_asked Absent = true
is_asked (Present o) = true

-- it found an object
abbrev pub is_present : Live → Bool
is_present NotAsked = false
is_present Absent = false
is_present (Present o) = true
