-- What a reader of lines answers, as what a line means.
use Rattle.std.proofs.Common.{Result, Ok, Err, ap}
use Rattle.script_lines.specs.declared.errors.Reason.{Reason}
use Rattle.script_lines.specs.declared.errors.LineError.{LineError}
use Rattle.script_lines.specs.declared.errors.LineError.TheVariants as lines
use Rattle.script_lines.specs.Answers.{MemberGives}
use Rattle.kube_objects.specs.declared.objects.Object.{Object}
use Rattle.script_text.specs.declared.script.Line.{Line}
use Rattle.script_text.specs.LineReaders.{as_import, as_line}
use Rattle.script_text.specs.Steps.Results.{import_result, line_result}

pub line_gives : (read : Result Line LineError) (answer : Result Line Reason) → MemberGives read answer → MemberGives (line_result read) (as_line answer)
line_gives (Ok line) answer h = ap as_line h
line_gives (Err lines.OutOfMemory) answer h = tt
line_gives (Err (lines.Refused reason)) answer h = ap as_line h

pub import_gives : (read : Result Object LineError) (answer : Result Object Reason) → MemberGives read answer → MemberGives (import_result read) (as_import answer)
import_gives (Ok object) answer h = ap as_import h
import_gives (Err lines.OutOfMemory) answer h = tt
import_gives (Err (lines.Refused reason)) answer h = ap as_import h
