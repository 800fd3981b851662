-- What a reader of manifests refuses is not canonical.
use Rattle.std.proofs.Common.{Result, ap}
use Rattle.object_text.specs.declared.errors.ObjectError.{ObjectError}
use Rattle.object_text.specs.declared.errors.ObjectError.TheVariants as objects
use Rattle.object_text.specs.Answers as manifests
use Rattle.history_lines.specs.Answers.{taken, unread_of, PartFails}

pub taken_fails : {X : Type 0} (e : ObjectError) (answer : Result X ObjectError) → manifests.Fails e answer → PartFails (unread_of e) (taken answer)
taken_fails objects.OutOfMemory answer h = tt
taken_fails objects.NotJson answer h = ap taken h
taken_fails objects.NotObject answer h = ap taken h
taken_fails objects.UnknownKind answer h = ap taken h
taken_fails (objects.Missing m) answer h = ap taken h
taken_fails (objects.WrongType m) answer h = ap taken h
taken_fails (objects.BadQuantity m) answer h = ap taken h
taken_fails objects.NotWhole answer h = ap taken h
taken_fails objects.TooLong answer h = ap taken h
