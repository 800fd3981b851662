-- How the program ends, and what it writes. The words, lines and limits are a choice of this project.
use Rattle.std.specs.Prelude.{ℕ, ◌≡◌, List, [], ◌∷◌, ◌++◌, codes, Option, Some, None, String}
use Rattle.std.specs.declared.alloc.Global.{Global}
use Rattle.fault_io.specs.Faults.{Rose}
use Rattle.fault_io.specs.Writing.{Appends, WritesFront}
use Rattle.audit_check.specs.declared.verdict.Verdict.{Verdict}
use Rattle.audit_check.specs.declared.verdict.Verdict.TheVariants.{Yes, No}
use Rattle.world_core.specs.declared.drained.Drained.{Drained}
use Rattle.world_core.specs.declared.drained.Drained.TheVariants.{Settled, Spent}
use Rattle.binder_console.specs.declared.status.Status.{Status}
use Rattle.binder_console.specs.declared.status.Status.TheVariants.{Done, Usage, Refused, Unsettled, ReadFault, WriteFault, Memory, AuditNo}
use Rattle.binder_console.specs.declared.answers.Answer.{Answer}
use Rattle.binder_console.specs.declared.answers.Answer.TheVariants as answers
use Rattle.binder_console.specs.declared.commands.Task.{Task}
use Rattle.binder_console.specs.declared.commands.Task.TheVariants.{Replay, Run, Check, Audit, Gen, Extend}
use Rattle.binder_console.specs.Audits.{Audits, RefusesHistory}
use Rattle.binder_console.specs.Checks.{ChecksList, RefusesList}
use Rattle.binder_console.specs.Commands.{task_of}
use Rattle.binder_console.specs.Extends.{Extends, RefusesExtended}
use Rattle.binder_console.specs.Inputs.{IsInput, IsTooLong}
use Rattle.binder_console.specs.Replays.{Generates, Replays, RunsOnThreads}
use Rattle.binder_console.specs.Scripts.{RefusesScript}

-- the exit status
abbrev pub status_number : Status → ℕ
status_number Done = 0
status_number Usage = 1
status_number Refused = 2
status_number Unsettled = 3
status_number ReadFault = 4
status_number WriteFault = 5
status_number Memory = 6
status_number AuditNo = 7

-- ---- what is written

-- the text as a line
abbrev pub line : List ℕ → List ℕ
line text = text ++ 10 ∷ []

-- what is printed where the words are wrong
abbrev pub usage_text : List ℕ
usage_text = line (codes "usage: pvbind replay|run|audit|check|gen|extend [--workers N] [--seed N] [--calls N] [--budget N]")

-- what is printed where the input is too long
abbrev pub too_long_text : List ℕ
too_long_text = line (codes "input: TooLong")

-- the task is done of the input with this status, and this is what is written
abbrev pub Answers : Task → Status → List ℕ → List ℕ → Type 0
Answers (Replay budget) status input text = Replays budget status input text
Answers (Run workers calls budget) status input text = RunsOnThreads workers calls budget status input text
Answers Check status input text = (status ≡ Done) × ChecksList input text
Answers Audit status input text = Audits status input text
Answers (Gen seed budget) status input text = Generates seed budget status text
Answers (Extend budget) status input text = Extends budget status input text

-- the task is not done of the input, and this is what is written
abbrev pub Refuses : Task → List ℕ → List ℕ → Type 0
Refuses (Replay budget) input text = RefusesScript input text
Refuses (Run workers calls budget) input text = RefusesScript input text
Refuses Check input text = RefusesList input text
Refuses Audit input text = RefusesHistory input text
Refuses (Gen seed budget) input text = ⊥
Refuses (Extend budget) input text = RefusesExtended input text

-- the input is refused, with this text: more is left than the task takes, or it is not done of it
pub data RefusedWith (task : Task) (left : Option (List ℕ)) (text : List ℕ) : Type 0 where
  TooLong : IsTooLong task left → text ≡ too_long_text → RefusedWith task left text
  OfInput : (input : List ℕ) → IsInput task left input → Refuses task input text → RefusedWith task left text

-- the task is done of the whole input with this status, and this is what is written
pub record AnsweredWith (task : Task) (status : Status) (left : Option (List ℕ)) (text : List ℕ) : Type 0 where
  pub input : List ℕ
  pub read : IsInput task left input
  pub answered : Answers task status input text

-- the text that is due: the usage line exactly where the words ask for nothing, else a refusal or what the task writes
pub data IsDueText (words : List (String Global)) (left : Option (List ℕ)) (text : List ℕ) : Type 0 where
  OfUsage : task_of words ≡ None → text ≡ usage_text → IsDueText words left text
  OfRefusal : (task : Task) → task_of words ≡ Some task → RefusedWith task left text → IsDueText words left text
  OfTask : (task : Task) (status : Status) → task_of words ≡ Some task → AnsweredWith task status left text → IsDueText words left text

-- ---- steps

-- the status with which an answer is written
abbrev pub answer_status : Answer → Status
answer_status (answers.Output text) = Done
answer_status (answers.Unsettled text) = Unsettled
answer_status (answers.No text) = AuditNo
answer_status (answers.Refusal text) = Refused

-- what is written
abbrev pub answer_text : Answer → List ℕ
answer_text (answers.Output text) = text
answer_text (answers.Unsettled text) = text
answer_text (answers.No text) = text
answer_text (answers.Refusal text) = text

-- what came of an input that was read whole
abbrev pub IsAnswer : Task → List ℕ → Answer → Type 0
IsAnswer task input (answers.Output text) = Answers task Done input text
IsAnswer task input (answers.Unsettled text) = Answers task Unsettled input text
IsAnswer task input (answers.No text) = Answers task AuditNo input text
IsAnswer task input (answers.Refusal text) = Refuses task input text

-- the text of an audit, told apart by its verdict
abbrev pub answer_judged : Verdict → List ℕ → Answer
answer_judged Yes text = answers.Output text
answer_judged (No number rule) text = answers.No text

-- the text of a replay, told apart by how its last drain ended
abbrev pub answer_ended : Drained → List ℕ → Answer
answer_ended (Settled made) text = answers.Output text
answer_ended (Spent made key due) text = answers.Unsettled text

-- the text was written, and the status is this one; or a front of it, and a write failed
pub data Written (old new : Option (List ℕ)) (faults now : ℕ) (text : List ℕ) (want status : Status) : Type 0 where
  Whole : status ≡ want → Appends old new text → Written old new faults now text want status
  Front : status ≡ WriteFault → Rose faults now → WritesFront old new text → Written old new faults now text want status
