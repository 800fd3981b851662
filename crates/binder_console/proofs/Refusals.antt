-- What a reader of lists says of a refusal.
use Rattle.std.proofs.Common.{◌≡◌, Err, refl}
use Rattle.std.specs.declared.result.Result.{Result}
use Rattle.object_text.specs.declared.errors.ObjectError.{ObjectError}
use Rattle.object_text.specs.declared.errors.ObjectError.TheVariants as reasons
use Rattle.object_text.specs.declared.errors.ListError.{ListError}
use Rattle.object_text.specs.Answers.{ItemFails}

-- for another reason than want of memory it is the answer
pub refused_is : {X : Type 0} (reason : ObjectError) (e : ListError) (answer : Result X ListError) → (reason ≡ reasons.OutOfMemory → ⊥) → ItemFails reason e answer → answer ≡ Err e
refused_is reasons.OutOfMemory e answer other h = absurd (other refl)
refused_is reasons.NotJson e answer other h = h
refused_is reasons.NotObject e answer other h = h
refused_is reasons.UnknownKind e answer other h = h
refused_is (reasons.Missing m) e answer other h = h
refused_is (reasons.WrongType m) e answer other h = h
refused_is (reasons.BadQuantity m) e answer other h = h
refused_is reasons.NotWhole e answer other h = h
refused_is reasons.TooLong e answer other h = h
