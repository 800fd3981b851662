-- Refusals of manifests, as those of a line.
use Rattle.object_text.specs.declared.errors.ObjectError.{ObjectError}
use Rattle.object_text.specs.declared.errors.ObjectError.TheVariants as refusals
use Rattle.script_lines.specs.declared.line_member.LineMember.TheVariants as members
use Rattle.script_lines.specs.declared.errors.Reason.TheVariants.{Missing, WrongType, BadQuantity, BadValue}
use Rattle.script_lines.specs.declared.errors.LineError.{LineError}
use Rattle.script_lines.specs.declared.errors.LineError.TheVariants as lines
use Rattle.script_lines.specs.Answers.{line_error}

-- the refusals of a manifest in a line, or that memory ran out
abbrev pub object_line_error : ObjectError → LineError
object_line_error refusals.TooLong = lines.Refused (BadValue members.Object)
object_line_error refusals.NotObject = lines.Refused (WrongType members.Object)
object_line_error refusals.OutOfMemory = line_error refusals.OutOfMemory
object_line_error refusals.NotJson = line_error refusals.NotJson
object_line_error refusals.NotWhole = line_error refusals.NotWhole
object_line_error refusals.UnknownKind = line_error refusals.UnknownKind
object_line_error (refusals.Missing m) = line_error (refusals.Missing m)
object_line_error (refusals.WrongType m) = line_error (refusals.WrongType m)
object_line_error (refusals.BadQuantity m) = line_error (refusals.BadQuantity m)

-- the refusals of the size of a pool, or that memory ran out
abbrev pub size_line_error : ObjectError → LineError
size_line_error (refusals.Missing m) = lines.Refused (Missing members.Bytes)
size_line_error (refusals.WrongType m) = lines.Refused (WrongType members.Bytes)
size_line_error (refusals.BadQuantity m) = lines.Refused (BadQuantity members.Bytes)
size_line_error refusals.OutOfMemory = line_error refusals.OutOfMemory
size_line_error refusals.TooLong = line_error refusals.TooLong
size_line_error refusals.NotJson = line_error refusals.NotJson
size_line_error refusals.NotObject = line_error refusals.NotObject
size_line_error refusals.NotWhole = line_error refusals.NotWhole
size_line_error refusals.UnknownKind = line_error refusals.UnknownKind
