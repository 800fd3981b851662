-- What all faults of a history say of its audit. A choice of this project.
use Rattle.std.specs.Prelude.{List, [], ◌∷◌, reverse}
use Rattle.call_types.specs.declared.entry.Entry.{Entry}
use Rattle.call_types.specs.declared.setup.Setup.{Setup}
use Rattle.audit_check.specs.declared.verdict.Verdict.{Verdict}
use Rattle.audit_check.specs.declared.verdict.Verdict.TheVariants.{Yes, No}
use Rattle.audit_check.specs.Verdicts.{IsVerdict}
use Rattle.store_judge.specs.declared.faults.EntryFault.{EntryFault}
use Rattle.store_judge.specs.Faults.{FaultsIn}

-- the verdict of the first fault; yes where there is none
abbrev pub verdict_of : List EntryFault → Verdict
verdict_of [] = Yes
verdict_of (fault ∷ faults) = No fault.entry fault.rule

-- it is the audit's
abbrev pub FirstIsAudits : Type 0
FirstIsAudits = (setup : Setup) (entries : List Entry) (faults : List EntryFault) → FaultsIn setup (reverse entries) faults → IsVerdict setup entries (verdict_of faults)
