use Rattle.attention_law.proofs.Ordered.{rows_in_order}
use Rattle.attention_law.proofs.rows_in_order_are_enough.Goals as goal

pub returns : goal.returns
returns c = rows_in_order
