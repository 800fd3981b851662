-- What stands beside what was said, so that it is found at once.
use Rattle.std.specs.Prelude.{ℕ, ◌≡◌, List, false, Option, Some, None, Ok, Err, ⊤}
use Rattle.std.specs.declared.result.Result.{Result}
use Rattle.std.specs.Ordering.{nat_cmp}
use Rattle.plain_data.specs.Rows.{IsRising}
use Rattle.script_lines.specs.declared.errors.Reason.{Reason}
use Rattle.script_lines.specs.declared.errors.LineError.{LineError}
use Rattle.script_lines.specs.declared.errors.LineError.TheVariants.{OutOfMemory, Refused}
use Rattle.script_text.specs.declared.numbers.NumberRow.{NumberRow}
use Rattle.kube_objects.specs.declared.objects.Object.{Object}
use Rattle.script_text.specs.declared.script.Line.{Line}
use Rattle.script_text.specs.declared.script.Meaning.{Meaning}
use Rattle.script_text.specs.declared.script.Meaning.TheVariants as meanings
use Rattle.script_text.specs.declared.index.Index.{Index}
use Rattle.script_text.specs.declared.progress.Progress.{Progress}
use Rattle.script_lines.specs.Answers.{MemberFails}
use Rattle.script_text.specs.Said.{Said, has_begun, agents_of, objects_of, losses_of, restarts_of, calls_of}
use Rattle.script_text.specs.Steps.Numbers.{numbers_at}

-- the rows have, for each name, the numbers that the lines give it
abbrev pub HasNumbers : (List ℕ → List Line → List ℕ) → List NumberRow → List Line → Type 0
HasNumbers numbers_of rows lines = (name : List ℕ) → numbers_at name rows ≡ numbers_of name lines

-- of imported objects and lines
pub record IsIndex (index : Index) (imports : List Object) (lines : List Line) : Type 0 where
  pub agents : index.agents ≡ agents_of imports lines
  pub losses : HasNumbers losses_of index.losses lines
  pub restarts : HasNumbers restarts_of index.restarts lines
  pub objects : index.objects ≡ objects_of imports lines
  pub calls : index.calls ≡ calls_of lines

-- the index has the line or the object too, unless that passes this limit
abbrev pub NoteFails : LineError → Option Reason → Type 0
NoteFails OutOfMemory limit = ⊤
NoteFails (Refused reason) limit = limit ≡ Some reason

-- the index has the line or the object and no limit is passed, or the result names the limit
abbrev pub Notes : Result Unit LineError → Index → List Object → List Line → Option Reason → Type 0
Notes (Ok u) index imports lines limit = IsIndex index imports lines × (limit ≡ None)
Notes (Err e) index imports lines limit = NoteFails e limit

-- ---- progress

-- the numbers of planned faults rise, each once
abbrev pub AreFaults : List ℕ → Type 0
AreFaults ns = IsRising nat_cmp (λ n. n) ns

-- what was said so far
abbrev pub said_by : Progress → Said
said_by p = record { pools = p.pools; sizes = p.sizes; faults = p.faults.items; imports = p.imports; lines = p.lines; numbers = p.numbers }

-- the faults are in order, and the index is that of what was said
pub record ProgressStands (p : Progress) : Type 0 where
  pub faults : AreFaults p.faults.items
  pub index : IsIndex p.index p.imports p.lines

-- objects are imported before any call
abbrev pub CanTake : List Line → Meaning → Type 0
CanTake lines (meanings.Pool pool size) = ⊤
CanTake lines (meanings.Fault call) = ⊤
CanTake lines (meanings.Import object) = has_begun lines ≡ false
CanTake lines (meanings.Line line) = ⊤

-- the progress is this, unless the line is refused
abbrev pub Takes : Result Unit LineError → Progress → Result Said Reason → Type 0
Takes (Ok u) p answer = ProgressStands p × (answer ≡ Ok (said_by p))
Takes (Err e) p answer = MemberFails e answer
