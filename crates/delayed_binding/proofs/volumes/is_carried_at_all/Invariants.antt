use Rattle.std.proofs.Common.{◌≡◌, drop}
use Rattle.std.specs.List.{list_any}
use Rattle.kube_parts.specs.declared.parts.Kind.TheVariants as kinds
use Rattle.kube_objects.specs.Keys.{rows_of}
use Rattle.binder_model.specs.Choice.{carries_claim}
use Rattle.delayed_binding.proofs.volumes.is_carried_at_all.Given as goal

-- what is to be found is still ahead
abbrev pub invariant-loop-place : goal.invariant-loop-place
invariant-loop-place g l = list_any (carries_claim l.claim) (drop l.place (rows_of kinds.PersistentVolume (g.L.Lookup.rows l.lookup))) ≡ list_any (carries_claim l.claim) (g.L.Lookup.rows l.lookup)
