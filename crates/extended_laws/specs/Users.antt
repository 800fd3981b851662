-- What users ask, of the world and of its side together, in the order in which it is asked.
-- A choice of this project.
use Rattle.std.specs.Prelude.{Bool, true, false, List, [], ◌∷◌, filter}
use Rattle.call_types.specs.declared.entry.Entry.{Entry}
use Rattle.binder_model.specs.Answers.{is_user}
use Rattle.call_types.specs.declared.request.Request.TheVariants as asks
use Rattle.script_text.specs.declared.script.Line.{Line}
use Rattle.script_text.specs.declared.script.Line.TheVariants.{Call}
use Rattle.side_calls.specs.declared.asks.SideAsk.{SideAsk}
use Rattle.side_calls.specs.declared.asks.SideAsk.TheVariants.{Create, Grow, Step as StepAsk}
use Rattle.side_model.specs.Merged.{OfSide, OfWorld, Step}
use Rattle.extended_runs.specs.Works.{OfGrowth, OfScript, Work}

-- a user's call of the world
abbrev pub is_users_line : Line → Bool
is_users_line (Call user request) = true
is_users_line line = false

-- a user's call, of the world or of the side
abbrev pub is_users : Work → Bool
is_users (OfScript line) = is_users_line line
is_users (OfGrowth user key bytes) = true

-- what an entry of the world asks, where it is a user's
abbrev pub asked_there : Bool → Entry → List Work → List Work
asked_there true e works = OfScript (Call e.seat e.request) ∷ works
asked_there false e works = works

-- what a user asks of the side: a create that was held back, or growth; a step is asked by nobody
abbrev pub asked_beside : SideAsk → List Work → List Work
asked_beside (Create user object) works = OfScript (Call user (asks.Create object)) ∷ works
asked_beside (Grow user key bytes) works = OfGrowth user key bytes ∷ works
asked_beside (StepAsk kind key) works = works

-- what users ask in these steps, the newest first
abbrev pub asked_in : List Step → List Work
asked_in [] = []
asked_in (OfWorld e ∷ m) = asked_there (is_user e.kind) e (asked_in m)
asked_in (OfSide s ∷ m) = asked_beside s.ask (asked_in m)

-- the works that are users' calls
abbrev pub users_works : List Work → List Work
users_works works = filter is_users works
