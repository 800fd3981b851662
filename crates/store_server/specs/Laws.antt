-- What the fence promises, whatever program sends whatever lines.
-- A choice of this project: no controller is trusted.
use Rattle.std.specs.Prelude.{ℕ, ◌<◌, List, Bool, true, IfSome, None, length}
use Rattle.binder_model.specs.Promises.{most_entries}
use Rattle.binder_model.specs.Run.{Run}
use Rattle.binder_model.specs.Safe.{Safe}
use Rattle.binder_model.specs.World.{IsHistory}
use Rattle.store_server.specs.Answers.{StepAnswer}
use Rattle.store_server.specs.Serving.{Served, AreAnswered}

-- whatever lines are read with the fence, the history is a run
abbrev pub FencedIsRun : Type 0
FencedIsRun =
    (lines : List (List ℕ)) (answers : List StepAnswer) (s : Served)
    → AreAnswered (record { fenced = true; lines = 0; opened = None }) lines answers s → IfSome s.opened (λ o. Run o.setup o.past)

-- and it is safe at every point, if it has fewer entries than any memory holds
abbrev pub FencedIsSafe : Type 0
FencedIsSafe =
    (lines : List (List ℕ)) (answers : List StepAnswer) (s : Served)
    → AreAnswered (record { fenced = true; lines = 0; opened = None }) lines answers s
    → IfSome s.opened (λ o. length o.past < most_entries → Safe o.setup o.past)

-- with the fence or without it, each reply is the world's
abbrev pub ServedIsHistory : Type 0
ServedIsHistory =
    (fenced : Bool) (lines : List (List ℕ)) (answers : List StepAnswer) (s : Served)
    → AreAnswered (record { fenced = fenced; lines = 0; opened = None }) lines answers s → IfSome s.opened (λ o. IsHistory o.setup o.past)
