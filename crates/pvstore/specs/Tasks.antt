-- What the words ask for, and the statuses. A choice of this project.
use Rattle.std.specs.Prelude.{ℕ, List, [], ◌∷◌, Bool, true, false, ◌&&◌, if◌then◌else◌, Ok, Err, Option, Some, None, codes, bytes_eq}
use Rattle.std.specs.declared.result.Result.{Result}
use Rattle.store_serving.specs.declared.stops.ServeStop.{ServeStop}
use Rattle.store_serving.specs.declared.stops.ServeStop.TheVariants as stops
use Rattle.store_judge.specs.declared.answering.JudgeAnswer.{JudgeAnswer}
use Rattle.store_judge.specs.declared.answering.JudgeAnswer.TheVariants.{Judged, NoHistory}
use Rattle.store_judge.specs.declared.printing.JudgeOptions.{JudgeOptions}
use Rattle.pvstore.specs.Options.{options_of}
use Rattle.pvstore.specs.declared.tasks.StoreStatus.{StoreStatus}
use Rattle.pvstore.specs.declared.tasks.StoreStatus.TheVariants.{Done, Usage, Refused, ReadFault, WriteFault, Memory, Faulty}
use Rattle.pvstore.specs.declared.tasks.StoreTask.{StoreTask}
use Rattle.pvstore.specs.declared.tasks.StoreTask.TheVariants.{Serve, Judge}

-- whether there is a fence: `serve` or `serve --fence`
abbrev pub fence_of : List (List ℕ) → Option Bool
fence_of [] = None
fence_of (word ∷ []) = if bytes_eq word (codes "serve") then Some false else None
fence_of (word ∷ option ∷ []) = if bytes_eq word (codes "serve") && bytes_eq option (codes "--fence") then Some true else None
fence_of (word ∷ option ∷ more ∷ rest) = None

-- the options behind `judge`
abbrev pub judge_of : List (List ℕ) → Option JudgeOptions
judge_of [] = None
judge_of (word ∷ rest) = if bytes_eq word (codes "judge") then options_of rest else None

-- to serve, or to judge
abbrev pub task_from : Option Bool → Option JudgeOptions → Option StoreTask
task_from (Some fenced) options = Some (Serve fenced)
task_from None (Some options) = Some (Judge options)
task_from None None = None

-- what the words ask for
abbrev pub task_of : List (List ℕ) → Option StoreTask
task_of words = task_from (fence_of words) (judge_of words)

-- the exit status
abbrev pub status_number : StoreStatus → ℕ
status_number Done = 0
status_number Usage = 1
status_number Refused = 2
status_number ReadFault = 4
status_number WriteFault = 5
status_number Memory = 6
status_number Faulty = 7

-- the status with which serving ends: refused where no setup was read, or no line feed in 4 MiB
abbrev pub status_of : Result Bool ServeStop → StoreStatus
status_of (Ok true) = Done
status_of (Ok false) = Refused
status_of (Err stops.TooLong) = Refused
status_of (Err stops.ReadFault) = ReadFault
status_of (Err stops.WriteFault) = WriteFault
status_of (Err stops.OutOfMemory) = Memory

-- the status of a judgement: whether a fault was named, or that there is no history
abbrev pub judged_status : JudgeAnswer → StoreStatus
judged_status (Judged text true) = Faulty
judged_status (Judged text false) = Done
judged_status (NoHistory text) = Refused
