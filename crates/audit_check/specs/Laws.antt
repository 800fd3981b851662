-- What verdicts say. A choice of this project.
use Rattle.std.specs.Prelude.{◌≡◌, ◌<◌, ◌↔◌, List, length, reverse}
use Rattle.call_types.specs.declared.entry.Entry.{Entry}
use Rattle.call_types.specs.declared.setup.Setup.{Setup}
use Rattle.binder_model.specs.Imports.{ImportsPass}
use Rattle.binder_model.specs.Promises.{most_entries}
use Rattle.binder_model.specs.Run.{Run}
use Rattle.binder_model.specs.Safe.{Safe}
use Rattle.audit_check.specs.declared.verdict.Verdict.{Verdict}
use Rattle.audit_check.specs.declared.verdict.Verdict.TheVariants.{Yes}
use Rattle.audit_check.specs.Verdicts.{IsVerdict}

-- a history has one verdict
abbrev pub OneVerdict : Type 0
OneVerdict = (setup : Setup) (entries : List Entry) (v w : Verdict) → IsVerdict setup entries v → IsVerdict setup entries w → v ≡ w

-- its verdict is Yes exactly where it is a run
abbrev pub YesIsRun : Type 0
YesIsRun = (setup : Setup) (entries : List Entry) (v : Verdict) → IsVerdict setup entries v → (v ≡ Yes) ↔ Run setup (reverse entries)

-- where it is Yes, the history is safe at every point, if the imports pass and it has fewer entries than any memory holds
abbrev pub YesIsSafe : Type 0
YesIsSafe =
    (setup : Setup) (entries : List Entry)
    → ImportsPass setup.imports → length entries < most_entries → IsVerdict setup entries Yes → Safe setup (reverse entries)
