use Rattle.std.proofs.Common.{◌≡◌, drop}
use Rattle.std.specs.List.{list_any}
use Rattle.kube_parts.specs.declared.parts.Kind.TheVariants as kinds
use Rattle.kube_objects.specs.Keys.{rows_of}
use Rattle.kube_objects.specs.Bindings.{uses}
use Rattle.protect_sync.proofs.uses.is_used.Given as goal

-- what is to be found is still ahead
abbrev pub invariant-loop-place : goal.invariant-loop-place
invariant-loop-place g l = list_any (uses l.claim) (drop l.place (rows_of kinds.Pod (g.L.Lookup.rows l.lookup))) ≡ list_any (uses l.claim) (g.L.Lookup.rows l.lookup)
