use Rattle.std.proofs.Common.{List, refl, subst, sym}
use Rattle.case_table.specs.declared.rows.CaseRow.{CaseRow}
use Rattle.case_table.specs.Cases.{IsExact}
use Rattle.claim_sync.specs.ClaimTable.{claim_rows, completed_rows, unbound_rows}
use Rattle.claim_sync.proofs.Rows.{rows_exact}
use Rattle.claim_sync.proofs.table.claim_rows.Goals as goal

pub returns-clause-rows : goal.returns-clause-rows
unfolding claim_rows unbound_rows completed_rows
returns-clause-rows c = rw (c.unbound_rows-unbound.ensures, c.completed_rows-completed.ensures) refl

pub returns-clause-exact : goal.returns-clause-exact
returns-clause-exact c = subst (λ (rows : List (CaseRow 12)). IsExact rows) (sym (returns-clause-rows c)) rows_exact
