-- What a call that may want memory answers, against what it would answer otherwise. A choice of this project.
use Rattle.std.specs.Prelude.{◌≡◌, Ok, Err, Option, Some, None, ⊤}
use Rattle.std.specs.declared.result.Result.{Result}
use Rattle.object_text.specs.declared.errors.ObjectError.{ObjectError}
use Rattle.object_text.specs.declared.errors.ObjectError.TheVariants as objects
use Rattle.history_lines.specs.declared.errors.Unread.{Unread}
use Rattle.history_lines.specs.declared.errors.Unread.TheVariants.{OutOfMemory, NotCanonical}

infixl 10 ◌>>=◌
-- nothing, or what the next step makes of the value
abbrev pub ◌>>=◌ : {A B : Type 0} → Option A → (A → Option B) → Option B
None >>= f = None
(Some x) >>= f = f x

-- what a reader of manifests gives, whatever it refuses
abbrev pub taken : {X : Type 0} → Result X ObjectError → Option X
taken (Ok x) = Some x
taken (Err e) = None

-- why a part could not be read: memory ran out, or it is not the canonical text of anything
abbrev pub unread_of : ObjectError → Unread
unread_of objects.OutOfMemory = OutOfMemory
unread_of objects.TooLong = NotCanonical
unread_of objects.NotJson = NotCanonical
unread_of objects.NotObject = NotCanonical
unread_of objects.NotWhole = NotCanonical
unread_of objects.UnknownKind = NotCanonical
unread_of (objects.Missing m) = NotCanonical
unread_of (objects.WrongType m) = NotCanonical
unread_of (objects.BadQuantity m) = NotCanonical

-- ---- answers

-- a call that ends so is right: there is no such part; of a call that ran out of memory nothing is said
abbrev pub PartFails : {X : Type 0} → Unread → Option X → Type 0
PartFails OutOfMemory answer = ⊤
PartFails NotCanonical answer = answer ≡ None

-- the result is this answer, unless memory was wanting
abbrev pub PartGives : {X : Type 0} → Result X Unread → Option X → Type 0
PartGives (Ok x) answer = answer ≡ Some x
PartGives (Err e) answer = PartFails e answer

-- the same, where the result is seen by a view
abbrev pub PartGivesBy : {X Y : Type 0} → (X → Y) → Result X Unread → Option Y → Type 0
PartGivesBy view (Ok x) answer = answer ≡ Some (view x)
PartGivesBy view (Err e) answer = PartFails e answer
