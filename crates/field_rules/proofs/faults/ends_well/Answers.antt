use Rattle.std.proofs.Common.{sym, ◌∙◌}
use Rattle.field_rules.proofs.Names.{ends_well-drop, stops}
use Rattle.field_rules.proofs.faults.ends_well.Goals as goal

pub returns-then-not-is_name_byte : goal.returns-then-not-is_name_byte
returns-then-not-is_name_byte c =
    stops _ _ _ _ c.loop-byte.invariant (ends_well-drop c.loop-byte.last c.args.bytes.now c.loop-byte.byte-index c.loop-byte-test.true) (sym c.is_name_byte.ensures ∙ c.if-not-is_name_byte.true)
