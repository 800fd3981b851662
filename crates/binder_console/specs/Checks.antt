-- What a check writes: the canonical line of each object, or the first item that was refused, and why.
-- The words and the form of the line are a choice of this project.
use Rattle.std.specs.Prelude.{ℕ, ◌≡◌, ⊤, List, [], ◌++◌, map, codes, decimal, Ok, Err}
use Rattle.std.specs.declared.result.Result.{Result}
use Rattle.kube_objects.specs.declared.objects.Object.{Object}
use Rattle.object_print.specs.Objects.{object_line}
use Rattle.history_text.specs.Output.{with_line, with_lines}
use Rattle.object_text.specs.declared.errors.Member.{Member}
use Rattle.object_text.specs.declared.errors.ObjectError.{ObjectError}
use Rattle.object_text.specs.declared.errors.ObjectError.TheVariants as reasons
use Rattle.object_text.specs.declared.errors.ListError.{ListError}
use Rattle.object_text.specs.MemberWords.{member_word}
use Rattle.object_text.specs.Listing.{list_of}
use Rattle.binder_console.specs.declared.errors.CheckError.{CheckError}
use Rattle.binder_console.specs.declared.errors.CheckError.TheVariants.{Refused, OutOfMemory}

-- the name of the reason, a blank and the member
abbrev pub with_member_word : List ℕ → Member → List ℕ
with_member_word word m = word ++ (codes " " ++ member_word m)

-- the reason; no text is refused for want of memory
unfoldable pub reason_text : ObjectError → List ℕ
reason_text reasons.OutOfMemory = codes "OutOfMemory"
reason_text reasons.TooLong = codes "TooLong"
reason_text reasons.NotJson = codes "NotJson"
reason_text reasons.NotObject = codes "NotObject"
reason_text reasons.NotWhole = codes "NotWhole"
reason_text reasons.UnknownKind = codes "UnknownKind"
reason_text (reasons.Missing m) = with_member_word (codes "Missing") m
reason_text (reasons.WrongType m) = with_member_word (codes "WrongType") m
reason_text (reasons.BadQuantity m) = with_member_word (codes "BadQuantity") m

-- the number of the item, from 1, in decimal digits, and the reason
unfoldable pub refusal_line : ListError → List ℕ
refusal_line e = codes "item " ++ (decimal e.item ++ (codes ": " ++ reason_text e.reason))

-- the line of each object, in order, each with a line feed at its end
abbrev pub check_text : List Object → List ℕ
check_text objects = with_lines [] (map object_line objects)

-- what is printed of manifests that are refused
abbrev pub refusal_text : ListError → List ℕ
refusal_text e = with_line [] (refusal_line e)

-- the input is a manifest or a list of manifests, and this is the text of its check
pub record ChecksList (input text : List ℕ) : Type 0 where
  pub objects : List Object
  pub read : list_of input ≡ Ok objects
  pub printed : text ≡ check_text objects

-- the input is neither, and this is the text of its first refusal
pub record RefusesList (input text : List ℕ) : Type 0 where
  pub error : ListError
  pub refused : list_of input ≡ Err error
  pub printed : text ≡ refusal_text error

-- where an item was refused, this holds of its number and reason
abbrev pub IfRefused : {X : Type 0} → Result X CheckError → (ListError → Type 0) → Type 0
IfRefused (Ok x) holds = ⊤
IfRefused (Err OutOfMemory) holds = ⊤
IfRefused (Err (Refused e)) holds = holds e
