-- The law, of a list whose oldest entry stands first, and what it asks of the first world.
-- A choice of this project, as the definitions are; their sources stand in `binder_model`.
use Rattle.std.specs.Prelude.{◌<◌, ◌≤◌, List, [], reverse, length}
use Rattle.call_types.specs.declared.entry.Entry.{Entry}
use Rattle.call_types.specs.declared.setup.Setup.{Setup}
use Rattle.binder_model.specs.Imports.{most_imported, ImportsPass}
use Rattle.binder_model.specs.World.{base}
use Rattle.binder_model.specs.Run.{Run}
use Rattle.binder_model.specs.Safe.{Safe}
use Rattle.binder_model.specs.Promises.{most_entries}
use Rattle.safety_law.specs.Invariant.Invariant.{Invariant}
use Rattle.safety_law.specs.Mounts.Mounts.{Mountless, LooseMayGo}

-- a first world from which each run is safe
pub record IsGoodStart (setup : Setup) : Type 0 where
  -- serials for as many entries as a history may have are left
  pub low : base setup ≤ most_imported
  pub invariant : Invariant setup []
  pub mountless : Mountless setup
  pub loose : LooseMayGo setup []

-- imports that pass make such a world
abbrev pub ImportsStartWell : Type 0
ImportsStartWell = (setup : Setup) → ImportsPass setup.imports → IsGoodStart setup

-- the safety law: for every setup whose imports pass, each after those before it, and every list of fewer entries than
-- 2^60, each run is safe
abbrev pub EachRunIsSafe : Type 0
EachRunIsSafe =
    (setup : Setup) (entries : List Entry)
    → ImportsPass setup.imports → length entries < most_entries → Run setup (reverse entries) → Safe setup (reverse entries)
