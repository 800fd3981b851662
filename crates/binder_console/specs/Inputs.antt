-- The input of a task. The limits are a choice of this project.
use Rattle.std.specs.Prelude.{ℕ, ◌≡◌, ◌<◌, ◌≤◌, ◌^◌, ⊤, List, [], length, Option, Some, None}
use Rattle.fault_io.specs.Reading.{IsLeft, IsLongerThan, TakesPast}
use Rattle.binder_console.specs.declared.commands.Task.{Task}
use Rattle.binder_console.specs.declared.commands.Task.TheVariants.{Replay, Run, Check, Audit, Gen, Extend}

-- how many bytes the task takes: 1 MiB of a script or of manifests, 256 MiB of a history; `None` where it reads no input
abbrev pub most_input : Task → Option ℕ
most_input (Replay budget) = Some (2 ^ 20)
most_input (Run workers calls budget) = Some (2 ^ 20)
most_input Check = Some (2 ^ 20)
most_input Audit = Some (2 ^ 28)
most_input (Gen seed budget) = None
most_input (Extend budget) = Some (2 ^ 20)

-- the bytes are all that the source has left, and they are not too many
pub record IsWhole (most : ℕ) (left : Option (List ℕ)) (input : List ℕ) : Type 0 where
  pub whole : IsLeft left input
  pub short : length input ≤ most

-- the input was read to its end, within the limit
abbrev pub IsInputOf : Option ℕ → Option (List ℕ) → List ℕ → Type 0
IsInputOf (Some most) left input = IsWhole most left input
IsInputOf None left input = input ≡ []

-- the bytes are the input of the task
abbrev pub IsInput : Task → Option (List ℕ) → List ℕ → Type 0
IsInput task left input = IsInputOf (most_input task) left input

-- the input was read to its end or past the limit
abbrev pub IsReadThroughOf : Option ℕ → Option (List ℕ) → Type 0
IsReadThroughOf (Some most) left = IsLeft left []
IsReadThroughOf None left = ⊤

-- nothing is left of the input
abbrev pub IsReadThrough : Task → Option (List ℕ) → Type 0
IsReadThrough task left = IsReadThroughOf (most_input task) left

-- the input is longer than the limit
abbrev pub IsTooLongOf : Option ℕ → Option (List ℕ) → Type 0
IsTooLongOf (Some most) left = IsLongerThan most left
IsTooLongOf None left = ⊥

-- more is left than the task takes
abbrev pub IsTooLong : Task → Option (List ℕ) → Type 0
IsTooLong task left = IsTooLongOf (most_input task) left

-- a front of the input that is longer than the limit was read
abbrev pub IsReadPastOf : Option ℕ → Option (List ℕ) → Option (List ℕ) → Type 0
IsReadPastOf (Some most) before after = TakesPast most before after
IsReadPastOf None before after = ⊥

-- more was read than the task takes
abbrev pub IsReadPast : Task → Option (List ℕ) → Option (List ℕ) → Type 0
IsReadPast task before after = IsReadPastOf (most_input task) before after

-- what was read is longer than the limit
abbrev pub IsTooMuchOf : Option ℕ → List ℕ → Type 0
IsTooMuchOf (Some most) bytes = most < length bytes
IsTooMuchOf None bytes = ⊥

-- the bytes are more than the task takes
abbrev pub IsTooMuch : Task → List ℕ → Type 0
IsTooMuch task bytes = IsTooMuchOf (most_input task) bytes

-- the command reads no input
abbrev pub ReadsNothing : Task → Type 0
ReadsNothing task = most_input task ≡ None

-- the words ask for nothing, or for a task that reads no input
abbrev pub AsksForNoInput : Option Task → Type 0
AsksForNoInput None = ⊤
AsksForNoInput (Some task) = ReadsNothing task
