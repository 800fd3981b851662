use Rattle.std.proofs.Common.{◌≡◌, drop}
use Rattle.std.specs.Prelude.{◌==◌}
use Rattle.std.specs.List.{list_all, slice_split}
use Rattle.binder_model.specs.Fields.{is_label}
use Rattle.field_rules.proofs.Names.{goes_well}
use Rattle.field_rules.proofs.faults.are_labels.Given as goal

abbrev pub invariant-loop-byte : goal.invariant-loop-byte
invariant-loop-byte l = list_all is_label (slice_split (λ c. c == 46) l.bytes) ≡ goes_well l.last (drop l.byte-index l.bytes)
