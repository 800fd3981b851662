-- What becomes of the calls of an actor: an answer is told, or the call is lost before its effect or after it.
-- A choice of this project.
use Rattle.std.specs.Prelude.{ℕ, ◌==◌, Bool, true, false, List, [], ◌∷◌, if◌then◌else◌}
use Rattle.actor_turns.specs.declared.loss.Fate.{Fate}
use Rattle.actor_turns.specs.declared.loss.Fate.TheVariants.{Told, LostBefore, LostAfter}
use Rattle.actor_turns.specs.declared.loss.Loss.{Loss}

-- the fate of a call that is lost: after its effect, or before
abbrev pub fate_by : Bool → Fate
fate_by true = LostAfter
fate_by false = LostBefore

-- what becomes of the call of this number
abbrev pub fate_of : List Loss → ℕ → Fate
fate_of [] number = Told
fate_of (l ∷ losses) number = if l.call == number then fate_by l.after else fate_of losses number
