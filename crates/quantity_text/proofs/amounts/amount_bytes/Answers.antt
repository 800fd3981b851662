use Rattle.std.proofs.Common.{sym, ◌∙◌}
use Rattle.quantity_text.proofs.Refusals.{unsigned_known}
use Rattle.quantity_text.proofs.amounts.amount_bytes.Goals as goal

pub returns-in-43-clause-no_memory : goal.returns-in-43-clause-no_memory
returns-in-43-clause-no_memory c = λ is. unsigned_known _ _ (sym c.unsigned_amount.ensures ∙ is)

pub returns-in_default-clause-no_memory : goal.returns-in_default-clause-no_memory
returns-in_default-clause-no_memory c = λ is. unsigned_known _ _ (sym c.unsigned_amount-in_default.ensures ∙ is)
