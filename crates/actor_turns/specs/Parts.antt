-- How many lives an actor has.
-- A choice of this project, after what a controller of Kubernetes meets: it is restarted.
use Rattle.std.specs.Prelude.{ℕ, ◌+◌, Bool, true, false, length}
use Rattle.actor_turns.specs.declared.part.Part.{Part}

-- one, and one more for each restart; none where no turn names it
abbrev pub lives_by : Bool → ℕ → ℕ
lives_by true restarts = 1 + restarts
lives_by false restarts = 0

-- the lives of a part
abbrev pub lives_of : Part → ℕ
lives_of part = lives_by part.named (length part.restarts)
