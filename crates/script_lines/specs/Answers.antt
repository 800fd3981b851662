-- What a call that may want memory answers, against what it would answer otherwise. A choice of this project.
use Rattle.std.specs.Prelude.{◌≡◌, Bool, if◌then◌else◌, Ok, Err, ⊤}
use Rattle.std.specs.declared.result.Result.{Result}
use Rattle.object_text.specs.declared.errors.ObjectError.{ObjectError}
use Rattle.object_text.specs.declared.errors.ObjectError.TheVariants as objects
use Rattle.script_lines.specs.declared.line_member.LineMember.TheVariants.{Of}
use Rattle.script_lines.specs.declared.errors.Reason.{Reason}
use Rattle.script_lines.specs.declared.errors.Reason.TheVariants.{TooLong, NotJson, NotObject, NotWhole, UnknownKind, Missing, WrongType, BadQuantity}
use Rattle.script_lines.specs.declared.errors.LineError.{LineError}
use Rattle.script_lines.specs.declared.errors.LineError.TheVariants as lines
use Rattle.script_lines.specs.declared.errors.BadLine.{BadLine}
use Rattle.script_lines.specs.declared.errors.ScriptError.{ScriptError}
use Rattle.script_lines.specs.declared.errors.ScriptError.TheVariants as scripts

infixl 10 ◌>>=◌
-- the first refusal, else what the next step makes of the value
abbrev pub ◌>>=◌ : {A B : Type 0} → Result A Reason → (A → Result B Reason) → Result B Reason
(Ok x) >>= f = f x
(Err e) >>= f = Err e

-- the value, unless this is so
abbrev pub unless : {X : Type 0} → Bool → Reason → X → Result X Reason
unless refused reason x = if refused then Err reason else Ok x

-- ---- the refusals of manifests, as reasons

-- no definition gives want of memory, so its reason is never given
abbrev pub reason_of : ObjectError → Reason
reason_of objects.OutOfMemory = NotJson
reason_of objects.TooLong = TooLong
reason_of objects.NotJson = NotJson
reason_of objects.NotObject = NotObject
reason_of objects.NotWhole = NotWhole
reason_of objects.UnknownKind = UnknownKind
reason_of (objects.Missing m) = Missing (Of m)
reason_of (objects.WrongType m) = WrongType (Of m)
reason_of (objects.BadQuantity m) = BadQuantity (Of m)

-- what a reader of manifests answers, in a line
abbrev pub taken_in_line : {X : Type 0} → Result X ObjectError → Result X Reason
taken_in_line (Ok x) = Ok x
taken_in_line (Err e) = Err (reason_of e)

-- the same of a call that may run out of memory
abbrev pub line_error : ObjectError → LineError
line_error objects.OutOfMemory = lines.OutOfMemory
line_error objects.TooLong = lines.Refused TooLong
line_error objects.NotJson = lines.Refused NotJson
line_error objects.NotObject = lines.Refused NotObject
line_error objects.NotWhole = lines.Refused NotWhole
line_error objects.UnknownKind = lines.Refused UnknownKind
line_error (objects.Missing m) = lines.Refused (Missing (Of m))
line_error (objects.WrongType m) = lines.Refused (WrongType (Of m))
line_error (objects.BadQuantity m) = lines.Refused (BadQuantity (Of m))

-- ---- answers

-- a call that ends with this error is right: the refusal is the answer; of a call that ran out of memory nothing is said
abbrev pub MemberFails : {X : Type 0} → LineError → Result X Reason → Type 0
MemberFails lines.OutOfMemory answer = ⊤
MemberFails (lines.Refused reason) answer = answer ≡ Err reason

-- the result is this answer, unless memory was wanting
abbrev pub MemberGives : {X : Type 0} → Result X LineError → Result X Reason → Type 0
MemberGives (Ok x) answer = answer ≡ Ok x
MemberGives (Err e) answer = MemberFails e answer

-- the same, where the result is seen by a view
abbrev pub MemberGivesBy : {X Y : Type 0} → (X → Y) → Result X LineError → Result Y Reason → Type 0
MemberGivesBy view (Ok x) answer = answer ≡ Ok (view x)
MemberGivesBy view (Err e) answer = MemberFails e answer

-- the same of a whole script, where the refusal names the line
abbrev pub ScriptFails : {X : Type 0} → ScriptError → Result X BadLine → Type 0
ScriptFails scripts.OutOfMemory answer = ⊤
ScriptFails (scripts.BadLine b) answer = answer ≡ Err b

-- the result of reading a script is this answer, unless memory ran out
abbrev pub ScriptGives : {X : Type 0} → Result X ScriptError → Result X BadLine → Type 0
ScriptGives (Ok x) answer = answer ≡ Ok x
ScriptGives (Err e) answer = ScriptFails e answer
