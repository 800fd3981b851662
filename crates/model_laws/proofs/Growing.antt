-- Older parts of runs, and what stays told.
use Rattle.std.proofs.Common.{inr}
use Rattle.std.specs.Prelude.{◌≡◌, true, List, [], ◌∷◌, ◌++◌}
use Rattle.call_types.specs.declared.entry.Entry.{Entry}
use Rattle.binder_model.specs.Told.{TellsObject, After}
use Rattle.model_laws.specs.Tellings.{OlderPartsAreRuns, RunsAreHistories, ToldStays, AfterStays}
use Rattle.model_laws.proofs.Lists.{some_right}

pub older_parts_are_runs : OlderPartsAreRuns
older_parts_are_runs setup [] past run = run
older_parts_are_runs setup (e ∷ newer) past run = older_parts_are_runs setup newer past run.0

pub runs_are_histories : RunsAreHistories
runs_are_histories setup [] run = tt
runs_are_histories setup (e ∷ past) run = (runs_are_histories setup past run.0, run.1)

pub told_stays : ToldStays
told_stays test newer mine told = some_right (TellsObject (λ o. test o ≡ true)) newer mine told

-- of any two properties
pub after_grows : (P : List Entry → Type 0) (Q : Entry → Type 0) (newer mine : List Entry) → After P Q mine → After P Q (newer ++ mine)
after_grows P Q [] mine h = h
after_grows P Q (e ∷ newer) mine h = inr (after_grows P Q newer mine h)

pub after_stays : AfterStays
after_stays before at newer mine h = after_grows (λ m. before m ≡ true) (λ e. at e ≡ true) newer mine h
