use Rattle.std.proofs.Common.{refl}
use Rattle.std.proofs.lemmas.Bool.{false≢true}
use Rattle.case_table.proofs.Counting.{exact_rows, no_fault}
use Rattle.case_table.proofs.table.CaseTable.new.Goals as goal

pub returns-in-Some-clause-ok : goal.returns-in-Some-clause-ok
returns-in-Some-clause-ok g c = (λ e cs whole. absurd (false≢true e), λ exact. absurd (no_fault _ _ c.in-Some.ensures.fault exact))

pub invariant_of-result : goal.invariant_of-result
invariant_of-result g c = exact_rows _ c.in-None.ensures.total c.in-None.ensures.exclusive

pub returns-in-None-clause-ok : goal.returns-in-None-clause-ok
returns-in-None-clause-ok g c = (λ e. exact_rows _ c.in-None.ensures.total c.in-None.ensures.exclusive, λ exact. refl)
