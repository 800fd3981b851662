-- What a call that may want memory answers, against what it would answer otherwise. A choice of this project.
use Rattle.std.specs.Prelude.{◌≡◌, Ok, Err, ⊤}
use Rattle.std.specs.declared.result.Result.{Result}
use Rattle.object_text.specs.declared.errors.ObjectError.{ObjectError}
use Rattle.object_text.specs.declared.errors.ObjectError.TheVariants.{OutOfMemory, NotJson, NotObject, UnknownKind, Missing, WrongType, BadQuantity, NotWhole, TooLong}
use Rattle.object_text.specs.declared.errors.ListError.{ListError}

-- a call that ends with this refusal is right: the refusal is the answer; of a call that ran out of memory nothing is said
abbrev pub Fails : {X : Type 0} → ObjectError → Result X ObjectError → Type 0
Fails OutOfMemory answer = ⊤
Fails NotJson answer = answer ≡ Err NotJson
Fails NotObject answer = answer ≡ Err NotObject
Fails UnknownKind answer = answer ≡ Err UnknownKind
Fails (Missing m) answer = answer ≡ Err (Missing m)
Fails (WrongType m) answer = answer ≡ Err (WrongType m)
Fails (BadQuantity m) answer = answer ≡ Err (BadQuantity m)
Fails NotWhole answer = answer ≡ Err NotWhole
Fails TooLong answer = answer ≡ Err TooLong

-- the result is this answer, unless memory was wanting
abbrev pub Gives : {X : Type 0} → Result X ObjectError → Result X ObjectError → Type 0
Gives (Ok x) answer = answer ≡ Ok x
Gives (Err e) answer = Fails e answer

-- the same, where the result is seen by a view
abbrev pub GivesBy : {X Y : Type 0} → (X → Y) → Result X ObjectError → Result Y ObjectError → Type 0
GivesBy view (Ok x) answer = answer ≡ Ok (view x)
GivesBy view (Err e) answer = Fails e answer

infixl 10 ◌>>=◌
-- the first refusal, else what the next step makes of the value
abbrev pub ◌>>=◌ : {A B : Type 0} → Result A ObjectError → (A → Result B ObjectError) → Result B ObjectError
(Ok x) >>= f = f x
(Err e) >>= f = Err e

-- ---- of a list, where a refusal has the number of the item

-- the same of a list: the refusal, which has this reason, names the item
abbrev pub ItemFails : {X : Type 0} → ObjectError → ListError → Result X ListError → Type 0
ItemFails OutOfMemory e answer = ⊤
ItemFails NotJson e answer = answer ≡ Err e
ItemFails NotObject e answer = answer ≡ Err e
ItemFails UnknownKind e answer = answer ≡ Err e
ItemFails (Missing m) e answer = answer ≡ Err e
ItemFails (WrongType m) e answer = answer ≡ Err e
ItemFails (BadQuantity m) e answer = answer ≡ Err e
ItemFails NotWhole e answer = answer ≡ Err e
ItemFails TooLong e answer = answer ≡ Err e

-- the result of reading a list is this answer, unless memory was wanting
abbrev pub ListGives : {X : Type 0} → Result X ListError → Result X ListError → Type 0
ListGives (Ok x) answer = answer ≡ Ok x
ListGives (Err e) answer = ItemFails e.reason e answer
