-- What a seat was told stays told, and what is newest was told. Objects and entries are picked by tests.
-- A choice of this project, as the definitions are; their sources stand in `binder_model`.
use Rattle.std.specs.Prelude.{◌≡◌, Bool, true, List, ◌++◌}
use Rattle.kube_objects.specs.declared.key.Key.{Key}
use Rattle.kube_objects.specs.declared.objects.Object.{Object}
use Rattle.call_types.specs.declared.entry.Entry.{Entry}
use Rattle.call_types.specs.declared.setup.Setup.{Setup}
use Rattle.binder_model.specs.Told.{ToldObject, After, IsNewest}
use Rattle.binder_model.specs.World.{IsHistory}
use Rattle.binder_model.specs.Run.{Run}

-- an older part of a run is a run
abbrev pub OlderPartsAreRuns : Type 0
OlderPartsAreRuns = (setup : Setup) (newer past : List Entry) → Run setup (newer ++ past) → Run setup past

-- an older part of a history is one, and a run is a history
abbrev pub RunsAreHistories : Type 0
RunsAreHistories = (setup : Setup) (past : List Entry) → Run setup past → IsHistory setup past

-- told stays true as the list grows
abbrev pub ToldStays : Type 0
ToldStays =
    (test : Object → Bool) (newer mine : List Entry)
    → ToldObject (λ o. test o ≡ true) mine → ToldObject (λ o. test o ≡ true) (newer ++ mine)

-- and so does after
abbrev pub AfterStays : Type 0
AfterStays =
    (before : List Entry → Bool) (at : Entry → Bool) (newer mine : List Entry)
    → After (λ m. before m ≡ true) (λ e. at e ≡ true) mine → After (λ m. before m ≡ true) (λ e. at e ≡ true) (newer ++ mine)

-- what is the newest told of its key was told
abbrev pub NewestWasTold : Type 0
NewestWasTold = (mine : List Entry) (key : Key) (o : Object) → IsNewest mine key o → ToldObject (λ x. x ≡ o) mine
