use Rattle.settle_calls.proofs.Slots.Slots.{slots_are_short}
use Rattle.settle_calls.proofs.slots_laws.slots_are_short.Goals as goal

-- the first pass, and what comes after it
pub returns : goal.returns
returns c = slots_are_short
