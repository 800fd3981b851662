use Rattle.settle_slot.proofs.Slot.Slots.{others_stay_awake}
use Rattle.settle_slot.proofs.slot_laws.others_stay_awake.Goals as goal

-- no actor but an agent is silent
pub returns : goal.returns
returns c = others_stay_awake
