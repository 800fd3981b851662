use Rattle.std.proofs.Common.{◌≡◌, drop}
use Rattle.field_rules.specs.Faults.{ends_well}
use Rattle.field_rules.proofs.faults.ends_well.Given as goal

abbrev pub invariant-loop-byte : goal.invariant-loop-byte
invariant-loop-byte l = ends_well l.first l.bytes ≡ ends_well l.last (drop l.byte-index l.bytes)
