-- Results of readers, one made of another.
use Rattle.std.specs.Prelude.{Ok, Err}
use Rattle.std.specs.declared.result.Result.{Result}
use Rattle.script_lines.specs.declared.errors.LineError.{LineError}
use Rattle.kube_objects.specs.declared.objects.Object.{Object}
use Rattle.script_text.specs.declared.script.Line.{Line}
use Rattle.script_text.specs.declared.script.Meaning.{Meaning}
use Rattle.script_text.specs.declared.script.Meaning.TheVariants as meanings

-- what a reader of lines answers, as what a line means
abbrev pub line_result : Result Line LineError → Result Meaning LineError
line_result (Ok line) = Ok (meanings.Line line)
line_result (Err e) = Err e

-- what a reader of an imported object answers, as what a line means
abbrev pub import_result : Result Object LineError → Result Meaning LineError
import_result (Ok object) = Ok (meanings.Import object)
import_result (Err e) = Err e
