-- The older part of a run is a run.
use Rattle.std.proofs.Common.{◌+◌, List, [], ◌∷◌, ◌++◌}
use Rattle.call_types.specs.declared.entry.Entry.{Entry}
use Rattle.call_types.specs.declared.setup.Setup.{Setup}
use Rattle.binder_model.specs.Run.{Run}

pub run_back : (setup : Setup) (newer past : List Entry) → Run setup (newer ++ past) → Run setup past
run_back setup [] past run = run
run_back setup (e ∷ newer) past run = run_back setup newer past run.0
