use Rattle.settle_slot.proofs.Slot.Slots.{passed_see_the_store}
use Rattle.settle_slot.proofs.slot_laws.passed_see_the_store.Goals as goal

-- past its pass an actor sees the store
pub returns : goal.returns
returns c = passed_see_the_store
