-- What the licence comes to: a run keeps the invariant.
-- A choice of this project, as the definitions are; their sources stand in `binder_model`.
use Rattle.std.specs.Prelude.{◌+◌, ◌<◌, List, [], length}
use Rattle.call_types.specs.declared.entry.Entry.{Entry}
use Rattle.call_types.specs.declared.setup.Setup.{Setup}
use Rattle.binder_model.specs.Imports.{most_serials}
use Rattle.binder_model.specs.World.{base}
use Rattle.binder_model.specs.Run.{Run}
use Rattle.safety_law.specs.Invariant.Invariant.{Invariant}
use Rattle.safety_law.specs.Invariant.Good.{Good}

-- a run whose first world meets the invariant, and that has a serial for each entry, meets it throughout, and its store
-- moves as it may
abbrev pub RunsAreGood : Type 0
RunsAreGood = (setup : Setup) → Invariant setup [] → (past : List Entry) → base setup + length past < most_serials → Run setup past → Good setup past
