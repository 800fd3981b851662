use Rattle.attention_law.proofs.Ordered.{played_in_order}
use Rattle.attention_law.proofs.played_is_diligent_in_order.Goals as goal

pub returns : goal.returns
returns c = played_in_order
