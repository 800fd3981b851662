-- What is printed for a line at fault. The words and the form of the line are a choice of this project.
use Rattle.std.specs.Prelude.{ℕ, List, ◌++◌, Option, Some, None, codes, decimal}
use Rattle.script_lines.specs.declared.line_member.LineMember.{LineMember}
use Rattle.script_lines.specs.declared.errors.Reason.{Reason}
use Rattle.script_lines.specs.declared.errors.Reason.TheVariants as reasons
use Rattle.script_lines.specs.declared.errors.BadLine.{BadLine}
use Rattle.script_lines.specs.MemberWords.{line_word}

-- the word that is printed for a refusal
abbrev pub reason_word : Reason → List ℕ
reason_word reasons.TooLong = codes "TooLong"
reason_word reasons.NotJson = codes "NotJson"
reason_word reasons.NotObject = codes "NotObject"
reason_word (reasons.Missing m) = codes "Missing"
reason_word reasons.UnknownDo = codes "UnknownDo"
reason_word (reasons.WrongType m) = codes "WrongType"
reason_word reasons.UnknownKind = codes "UnknownKind"
reason_word (reasons.BadQuantity m) = codes "BadQuantity"
reason_word reasons.NotWhole = codes "NotWhole"
reason_word (reasons.BadValue m) = codes "BadValue"
reason_word reasons.TooManyLines = codes "TooManyLines"
reason_word reasons.TooManyObjects = codes "TooManyObjects"
reason_word reasons.TooManyNodes = codes "TooManyNodes"
reason_word reasons.TooManyPools = codes "TooManyPools"
reason_word reasons.TooManyFaults = codes "TooManyFaults"
reason_word reasons.TooManyRestarts = codes "TooManyRestarts"
reason_word reasons.TooManyLosses = codes "TooManyLosses"
reason_word reasons.TooManyTurns = codes "TooManyTurns"
reason_word reasons.TooManyQuotas = codes "TooManyQuotas"

-- the member that a refusal names, if it names one
abbrev pub reason_member : Reason → Option LineMember
reason_member (reasons.Missing m) = Some m
reason_member (reasons.WrongType m) = Some m
reason_member (reasons.BadQuantity m) = Some m
reason_member (reasons.BadValue m) = Some m
reason_member reason = None

-- the word, and the member behind it
abbrev pub with_line_member : List ℕ → Option LineMember → List ℕ
with_line_member word None = word
with_line_member word (Some m) = word ++ (codes " " ++ line_word m)

-- the name of the reason, and behind a blank the member, if it has one
unfoldable pub reason_text : Reason → List ℕ
reason_text reason = with_line_member (reason_word reason) (reason_member reason)

-- the number of the line in decimal digits, and the reason
unfoldable pub refusal_line : BadLine → List ℕ
refusal_line b = codes "line " ++ (decimal b.line ++ (codes ": " ++ reason_text b.reason))
