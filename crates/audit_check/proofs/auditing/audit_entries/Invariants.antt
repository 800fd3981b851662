use Rattle.std.proofs.Common.{reverse, take}
use Rattle.audit_check.specs.Steps.Judged.{AuditorStands}
use Rattle.audit_check.proofs.auditing.audit_entries.Given as goal

abbrev pub invariant-loop-i : goal.invariant-loop-i
invariant-loop-i l = AuditorStands l.auditor l.setup (reverse (take l.i l.entries))
