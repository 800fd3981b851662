use Rattle.std.proofs.Common.{sym, ◌∙◌}
use Rattle.field_rules.proofs.Names.{goes_well-drop, goes}
use Rattle.field_rules.proofs.faults.are_labels.Goals as goal

pub loop-byte-preserved : goal.loop-byte-preserved
loop-byte-preserved c =
    rw c.after_byte-last.ensures
    (goes _ _ _ _ c.loop-byte.invariant (goes_well-drop c.loop-byte.last c.args.bytes.now c.loop-byte.byte-index c.loop-byte-test.true) (sym c.byte_fits.ensures ∙ c.if-not-byte_fits.false))
