use Rattle.std.proofs.Common.{List, refl, subst, sym}
use Rattle.case_table.specs.declared.rows.CaseRow.{CaseRow}
use Rattle.case_table.specs.Cases.{IsExact}
use Rattle.volume_sync.specs.VolumeTable.{free_rows, referred_rows, volume_rows}
use Rattle.volume_sync.proofs.Rows.{rows_exact}
use Rattle.volume_sync.proofs.table.volume_rows.Goals as goal

pub returns-clause-rows : goal.returns-clause-rows
unfolding volume_rows free_rows referred_rows
returns-clause-rows c = rw (c.free_rows-free.ensures, c.referred_rows-referred.ensures) refl

pub returns-clause-exact : goal.returns-clause-exact
returns-clause-exact c = subst (λ (rows : List (CaseRow 9)). IsExact rows) (sym (returns-clause-rows c)) rows_exact
