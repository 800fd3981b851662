use Rattle.std.proofs.Common.{◌≡◌, ◌+◌, drop}
use Rattle.kube_parts.specs.declared.parts.Kind.TheVariants as kinds
use Rattle.kube_objects.specs.Keys.{rows_of}
use Rattle.delayed_binding.specs.Steps.Counts.{count_given}
use Rattle.delayed_binding.proofs.counts.are_fewer.Given as goal

-- those from the place on are still to be counted
abbrev pub invariant-loop-place : goal.invariant-loop-place
invariant-loop-place g l = count_given l.one l.node (rows_of kinds.PersistentVolume (g.L.Lookup.rows l.lookup)) + l.left ≡ l.wanted + count_given
    l.one l.node (drop l.place (rows_of kinds.PersistentVolume (g.L.Lookup.rows l.lookup)))
