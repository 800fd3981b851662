use Rattle.settle_slot.proofs.Slot.Slots.{slots_last}
use Rattle.settle_slot.proofs.slot_laws.slots_last.Goals as goal

-- a slot that acts has an entry that lasts
pub returns : goal.returns
returns c = slots_last
