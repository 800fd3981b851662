use Rattle.settle_slot.proofs.Slot.Would.{would_act_where_calls_pass}
use Rattle.settle_slot.proofs.slot_laws.would_act_where_calls_pass.Goals as goal

-- each call of it is one that passes
pub returns : goal.returns
returns c = would_act_where_calls_pass
