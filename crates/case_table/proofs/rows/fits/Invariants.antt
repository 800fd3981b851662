use Rattle.std.proofs.Common.{◌≡◌, drop}
use Rattle.case_table.specs.Cases.{fits}
use Rattle.case_table.proofs.rows.fits.Given as goal

-- the conditions so far are as needed
abbrev pub invariant-loop-i : goal.invariant-loop-i
invariant-loop-i g l = fits (drop l.i l.needs) (drop l.i l.conditions) ≡ fits l.needs l.conditions
