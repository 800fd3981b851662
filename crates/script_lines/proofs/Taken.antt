-- What a reader of manifests says of a refusal, in a line.
use Rattle.std.proofs.Common.{Result, ap}
use Rattle.object_text.specs.declared.errors.ObjectError.{ObjectError}
use Rattle.object_text.specs.declared.errors.ObjectError.TheVariants as objects
use Rattle.object_text.specs.Answers as manifests
use Rattle.script_lines.specs.Answers.{taken_in_line, line_error, MemberFails}
use Rattle.kube_objects.specs.declared.objects.Object.{Object}
use Rattle.kube_objects.specs.declared.objects.Amount.{Amount}
use Rattle.script_lines.specs.Members.{object_taken, size_taken}
use Rattle.script_lines.specs.Steps.Results.{object_line_error, size_line_error}

pub taken_fails : {X : Type 0} (e : ObjectError) (answer : Result X ObjectError) → manifests.Fails e answer → MemberFails (line_error e) (taken_in_line answer)
taken_fails objects.OutOfMemory answer h = tt
taken_fails objects.NotJson answer h = ap taken_in_line h
taken_fails objects.NotObject answer h = ap taken_in_line h
taken_fails objects.UnknownKind answer h = ap taken_in_line h
taken_fails (objects.Missing m) answer h = ap taken_in_line h
taken_fails (objects.WrongType m) answer h = ap taken_in_line h
taken_fails (objects.BadQuantity m) answer h = ap taken_in_line h
taken_fails objects.NotWhole answer h = ap taken_in_line h
taken_fails objects.TooLong answer h = ap taken_in_line h

pub object_fails : (e : ObjectError) (answer : Result Object ObjectError) → manifests.Fails e answer → MemberFails (object_line_error e) (object_taken answer)
object_fails objects.OutOfMemory answer h = tt
object_fails objects.NotJson answer h = ap object_taken h
object_fails objects.NotObject answer h = ap object_taken h
object_fails objects.UnknownKind answer h = ap object_taken h
object_fails (objects.Missing m) answer h = ap object_taken h
object_fails (objects.WrongType m) answer h = ap object_taken h
object_fails (objects.BadQuantity m) answer h = ap object_taken h
object_fails objects.NotWhole answer h = ap object_taken h
object_fails objects.TooLong answer h = ap object_taken h

pub size_fails : (e : ObjectError) (answer : Result Amount ObjectError) → manifests.Fails e answer → MemberFails (size_line_error e) (size_taken answer)
size_fails objects.OutOfMemory answer h = tt
size_fails objects.NotJson answer h = ap size_taken h
size_fails objects.NotObject answer h = ap size_taken h
size_fails objects.UnknownKind answer h = ap size_taken h
size_fails (objects.Missing m) answer h = ap size_taken h
size_fails (objects.WrongType m) answer h = ap size_taken h
size_fails (objects.BadQuantity m) answer h = ap size_taken h
size_fails objects.NotWhole answer h = ap size_taken h
size_fails objects.TooLong answer h = ap size_taken h
