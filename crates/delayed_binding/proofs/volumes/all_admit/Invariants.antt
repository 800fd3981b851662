use Rattle.std.proofs.Common.{◌≡◌, drop}
use Rattle.std.specs.List.{list_all}
use Rattle.kube_parts.specs.declared.parts.Kind.TheVariants as kinds
use Rattle.kube_objects.specs.Keys.{rows_of}
use Rattle.binder_model.specs.Choice.{admits_if_carrying}
use Rattle.delayed_binding.proofs.volumes.all_admit.Given as goal

-- what may fail is still ahead
abbrev pub invariant-loop-place : goal.invariant-loop-place
invariant-loop-place g l = list_all (admits_if_carrying l.node l.claim) (drop l.place (rows_of kinds.PersistentVolume (g.L.Lookup.rows l.lookup))) ≡
    list_all (admits_if_carrying l.node l.claim) (g.L.Lookup.rows l.lookup)
