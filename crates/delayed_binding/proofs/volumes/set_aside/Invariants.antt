use Rattle.std.proofs.Common.{◌++◌, drop}
use Rattle.kube_parts.specs.declared.parts.Kind.TheVariants as kinds
use Rattle.kube_objects.specs.Keys.{rows_of}
use Rattle.delayed_binding.specs.Choices.{places_from, set_aside}
use Rattle.delayed_binding.specs.Steps.Sharing.{AreSame}
use Rattle.delayed_binding.proofs.volumes.set_aside.Given as goal

-- the places so far, and those that are still ahead
abbrev pub invariant-loop-place : goal.invariant-loop-place
invariant-loop-place g l = AreSame (l.places ++ places_from l.place (drop l.place (rows_of kinds.PersistentVolume (g.L.Lookup.rows l.lookup)))) (set_aside (g.L.Lookup.rows l.lookup))
