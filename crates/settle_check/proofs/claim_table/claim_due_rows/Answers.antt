use Rattle.std.proofs.Common.{List, refl, subst, sym}
use Rattle.case_table.specs.declared.rows.CaseRow.{CaseRow}
use Rattle.case_table.specs.Cases.{IsExact}
use Rattle.claim_sync.specs.ClaimTable.{claim_rows, completed_rows, unbound_rows}
use Rattle.settle_check.specs.ClaimDues.{claim_due_rows}
use Rattle.settle_check.proofs.ClaimRows.{rows_exact}
use Rattle.settle_check.proofs.claim_table.claim_due_rows.Goals as goal

pub returns-clause-rows : goal.returns-clause-rows
unfolding claim_due_rows claim_rows completed_rows unbound_rows
returns-clause-rows c =
    rw (
      c.guard_row.ensures,
      c.guard_row-2.ensures,
      c.binder_row.ensures,
      c.binder_row-2.ensures,
      c.binder_row-3.ensures,
      c.binder_row-4.ensures,
      c.binder_row-5.ensures,
      c.binder_row-6.ensures,
      c.binder_row-7.ensures,
      c.binder_row-8.ensures,
      c.binder_row-9.ensures,
      c.binder_row-10.ensures,
      c.binder_row-11.ensures,
      c.binder_row-12.ensures,
      c.binder_row-13.ensures,
      c.binder_row-14.ensures,
      c.binder_row-15.ensures,
      c.binder_row-16.ensures,
      c.claim_rows-rows.ensures.rows,
    ) refl

pub returns-clause-exact : goal.returns-clause-exact
returns-clause-exact c = subst (λ (rows : List (CaseRow 12)). IsExact rows) (sym (returns-clause-rows c)) rows_exact
