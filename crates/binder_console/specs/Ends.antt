-- How the program ends: one record, and in it what each status says.
-- The statuses are a choice of this project.
use Rattle.std.specs.Prelude.{ℕ, ◌≡◌, ◌⊎◌, ◌≤◌, ⊤, List, Option, Some, None, String}
use Rattle.std.specs.declared.alloc.Global.{Global}
use Rattle.fault_io.specs.Faults.{Rose}
use Rattle.fault_io.specs.Reading.{TakesFront}
use Rattle.fault_io.specs.Writing.{Appends, WritesFront}
use Rattle.binder_console.specs.declared.status.Status.{Status}
use Rattle.binder_console.specs.declared.status.Status.TheVariants.{Done, Usage, Refused, Unsettled, ReadFault, WriteFault, Memory, AuditNo}
use Rattle.binder_console.specs.declared.commands.Task.{Task}
use Rattle.binder_console.specs.Commands.{task_of}
use Rattle.binder_console.specs.Inputs.{IsReadThrough, IsReadPast, IsTooLong, ReadsNothing}
use Rattle.binder_console.specs.Outcomes.{AnsweredWith, IsDueText, RefusedWith, usage_text}

-- what a source and a sink tell at one point: what reads will give from here on and what was written so far, where they
-- tell it, and how many reads and writes have failed
pub record Outside : Type 0 where
  pub left : Option (List ℕ)
  pub read_faults : ℕ
  pub written : Option (List ℕ)
  pub write_faults : ℕ

-- ---- what a status says

-- the words ask for a task, it was done of the whole input, with this status, and all that it writes of it was written
pub record EndsAnswered (status : Status) (words : List (String Global)) (before after : Outside) : Type 0 where
  pub task : Task
  pub text : List ℕ
  pub asked : task_of words ≡ Some task
  pub answered : AnsweredWith task status before.left text
  pub read_through : IsReadThrough task after.left
  pub appended : Appends before.written after.written text

-- the words ask for nothing, and the usage line was written
pub record EndsMisused (words : List (String Global)) (before after : Outside) : Type 0 where
  pub asked : task_of words ≡ None
  pub appended : Appends before.written after.written usage_text

-- the words ask for a task that is not done of the input, and the line that says why was written
pub record EndsRefused (words : List (String Global)) (before after : Outside) : Type 0 where
  pub task : Task
  pub text : List ℕ
  pub asked : task_of words ≡ Some task
  pub refused : RefusedWith task before.left text
  -- the input was read whole; or it is too long, and was read past the limit
  pub taken : IsReadThrough task after.left ⊎ (IsTooLong task before.left × IsReadPast task before.left after.left)
  pub appended : Appends before.written after.written text

-- the words ask for a task that reads, a front of the input was taken, and then a read failed
pub record EndsUnread (words : List (String Global)) (before after : Outside) : Type 0 where
  pub task : Task
  pub asked : task_of words ≡ Some task
  pub reads : ReadsNothing task → ⊥
  pub front : TakesFront before.left after.left
  pub failed : Rose before.read_faults after.read_faults

-- a front of the text that was due was written, and not all of it: a write failed
pub record EndsCut (words : List (String Global)) (before after : Outside) : Type 0 where
  pub text : List ℕ
  pub due : IsDueText words before.left text
  pub front : WritesFront before.written after.written text
  pub failed : Rose before.write_faults after.write_faults

-- what each status says; that memory is wanting says nothing of the words and the input
abbrev pub EndsBy : Status → List (String Global) → Outside → Outside → Type 0
EndsBy Done words before after = EndsAnswered Done words before after
EndsBy Unsettled words before after = EndsAnswered Unsettled words before after
EndsBy AuditNo words before after = EndsAnswered AuditNo words before after
EndsBy Usage words before after = EndsMisused words before after
EndsBy Refused words before after = EndsRefused words before after
EndsBy ReadFault words before after = EndsUnread words before after
EndsBy WriteFault words before after = EndsCut words before after
EndsBy Memory words before after = ⊤

-- ---- the whole

-- how the program ends with this status
pub record Ends (status : Status) (words : List (String Global)) (before after : Outside) : Type 0 where
  pub by : EndsBy status words before after
  -- with any status but ReadFault no read failed
  pub unfailed : (status ≡ ReadFault → ⊥) → after.read_faults ≡ before.read_faults
  -- the counts of failed reads and writes never fall
  pub reads_later : before.read_faults ≤ after.read_faults
  pub writes_later : before.write_faults ≤ after.write_faults

-- with these statuses nothing was written
abbrev pub WritesNothing : Status → Type 0
WritesNothing ReadFault = ⊤
WritesNothing Memory = ⊤
WritesNothing status = ⊥
