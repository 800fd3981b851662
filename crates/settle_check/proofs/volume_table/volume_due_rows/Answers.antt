use Rattle.std.proofs.Common.{List, refl, subst, sym}
use Rattle.case_table.specs.declared.rows.CaseRow.{CaseRow}
use Rattle.case_table.specs.Cases.{IsExact}
use Rattle.volume_sync.specs.VolumeTable.{free_rows, referred_rows, volume_rows}
use Rattle.settle_check.specs.VolumeDues.{ended_rows, idle_rows, settled_rows, volume_due_rows}
use Rattle.settle_check.proofs.VolumeRows.{rows_exact}
use Rattle.settle_check.proofs.volume_table.volume_due_rows.Goals as goal

pub returns-clause-rows : goal.returns-clause-rows
unfolding volume_due_rows volume_rows free_rows referred_rows idle_rows ended_rows settled_rows
returns-clause-rows c =
    rw (
      c.binder_row.ensures,
      c.binder_row-2.ensures,
      c.binder_row-3.ensures,
      c.binder_row-4.ensures,
      c.binder_row-5.ensures,
      c.idle_rows-free.ensures,
      c.ended_rows-ended.ensures,
      c.idle_rows-awaited.ensures,
      c.settled_rows-settled.ensures,
      c.volume_rows-rows.ensures.rows,
    ) refl

pub returns-clause-exact : goal.returns-clause-exact
returns-clause-exact c = subst (λ (rows : List (CaseRow 11)). IsExact rows) (sym (returns-clause-rows c)) rows_exact
