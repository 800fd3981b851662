use Rattle.std.proofs.Common.{◌-◌}
use Rattle.plain_data.proofs.RowFacts.{Parted}
use Rattle.kube_objects.specs.Keys.{key_cmp, key_of, rows_of}
use Rattle.volume_match.specs.Named.{key_with_parts}
use Rattle.volume_match.proofs.named.place_named.Given as goal

-- what stands below low is before the key, and what stands from high on is after it
abbrev pub invariant-loop-low : goal.invariant-loop-low
invariant-loop-low g l = Parted (λ o. key_cmp (key_of o) (key_with_parts l.kind l.namespace l.name)) (rows_of l.kind (g.L.Lookup.rows l.lookup)) l.low l.high

abbrev pub decreases-loop-low : goal.decreases-loop-low
decreases-loop-low g l = l.high - l.low
