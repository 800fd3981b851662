-- The lines of the side in an extended script: which lines they are, what each means by its members, and what they say together.
-- Source for quotas: Kubernetes documentation, "Resource Quotas". The lines, their words and their limits are choices of this project.
use Rattle.std.specs.Prelude.{ℕ, List, [], ◌∷◌, ◌++◌, Bool, true, nat_lt, length, codes, bytes_eq, is_some, Ok, Err, Option, Some, None}
use Rattle.std.specs.List.{list_any}
use Rattle.std.specs.declared.result.Result.{Result}
use Rattle.serde_json.specs.Data.{Data}
use Rattle.kube_parts.specs.Named.{value_named}
use Rattle.kube_parts.specs.declared.parts.Kind.TheVariants.{PersistentVolumeClaim}
use Rattle.object_text.specs.declared.errors.Member.TheVariants as manifests
use Rattle.script_lines.specs.declared.line_member.LineMember.TheVariants as members
use Rattle.script_lines.specs.declared.errors.Reason.{Reason}
use Rattle.script_lines.specs.declared.errors.Reason.TheVariants.{TooLong, UnknownDo, BadValue, TooManyLines, TooManyQuotas}
use Rattle.script_lines.specs.Answers.{◌>>=◌, unless}
use Rattle.script_lines.specs.Members.{text_at, claims_at, namespace_at, size_at, user_at}
use Rattle.script_text.specs.Grammar.{line_value, most_line_bytes, most_lines}
use Rattle.side_calls.specs.declared.quotas.Quota.{Quota as QuotaData}
use Rattle.extended_text.specs.declared.progress.SideSaid.{SideSaid}
use Rattle.extended_text.specs.declared.sides.SideLine.{SideLine}
use Rattle.extended_text.specs.declared.sides.SideLine.TheVariants.{Quota, Reserve, Grow}
use Rattle.extended_text.specs.declared.sides.SideWord.{SideWord}
use Rattle.extended_text.specs.declared.sides.SideWord.TheVariants as words

-- ---- which lines are the side's

-- the word of a line of the side, as its `do` has it
abbrev pub side_word : SideWord → List ℕ
side_word words.Quota = codes "quota"
side_word words.Reserve = codes "reserve"
side_word words.Grow = codes "grow"

-- the three words
abbrev pub all_side_words : List SideWord
all_side_words = words.Quota ∷ words.Reserve ∷ words.Grow ∷ []

-- what a word says to do, if it is one of the side
abbrev pub side_named : List ℕ → Option SideWord
side_named word = value_named side_word all_side_words word

-- such a word, or that it is none
abbrev pub side_from : Option SideWord → Result SideWord Reason
side_from None = Err UnknownDo
side_from (Some word) = Ok word

-- what the `do` of an object says, where that is a word of the side
abbrev pub side_at : Data → Result SideWord Reason
side_at value = text_at members.Do value >>= λ word. side_from (side_named word)

-- the word and the object of a line of the side; else why the line is none: it is too long, no object, or of another word
unfoldable pub side_in : List ℕ → Result (SideWord × Data) Reason
side_in line = do
  short ← unless (nat_lt most_line_bytes (length line)) TooLong line
  value ← line_value short
  word ← side_at value
  Ok (word, value)

-- ---- what each means: its members in their turn, the first refusal answered; other members are not looked at

-- how many namespaces may have a quota
abbrev pub most_quotas : ℕ
most_quotas = 64

-- nothing was said
abbrev pub no_sides : SideSaid
no_sides = record { quotas = []; reserve = None; sides = [] }

-- a line gave this namespace a quota
abbrev pub has_quota : List ℕ → List QuotaData → Bool
has_quota namespace quotas = list_any (λ q. bytes_eq q.namespace namespace) quotas

-- a namespace has a quota, once: the bytes that its claims may ask for together, and how many claims may stand in it
unfoldable pub quota_line : List QuotaData → Data → Result SideLine Reason
quota_line before line = do
  namespace ← text_at (members.Of manifests.Namespace) line
  other ← unless (has_quota namespace before) (BadValue (members.Of manifests.Namespace)) namespace
  amount ← size_at line
  claims ← claims_at line
  Ok (Quota (record { namespace = other; bytes = amount.bytes; claims = claims }))

-- bytes for growth, said once
unfoldable pub reserve_line : Option ℕ → Data → Result SideLine Reason
reserve_line before line = do
  amount ← size_at line
  bytes ← unless (is_some before) (BadValue members.Do) amount.bytes
  Ok (Reserve bytes)

-- a user asks that a claim have so many bytes
unfoldable pub grow_line : Data → Result SideLine Reason
grow_line line = do
  namespace ← namespace_at true line
  name ← text_at (members.Of manifests.Name) line
  amount ← size_at line
  user ← user_at line
  Ok (Grow user (record { kind = PersistentVolumeClaim; namespace = namespace; name = name }) amount.bytes)

-- what a line with this word means, after what was said before
abbrev pub side_line : SideWord → SideSaid → Data → Result SideLine Reason
side_line words.Quota said line = quota_line said.quotas line
side_line words.Reserve said line = reserve_line said.reserve line
side_line words.Grow said line = grow_line line

-- ---- what they say together

-- the quotas, with what a line gives
abbrev pub quotas_with : SideLine → List QuotaData → List QuotaData
quotas_with (Quota quota) quotas = quotas ++ quota ∷ []
quotas_with (Reserve bytes) quotas = quotas
quotas_with (Grow user key bytes) quotas = quotas

-- the bytes for growth, with what a line gives
abbrev pub reserve_with : SideLine → Option ℕ → Option ℕ
reserve_with (Quota quota) reserve = reserve
reserve_with (Reserve bytes) reserve = Some bytes
reserve_with (Grow user key bytes) reserve = reserve

-- with a line of this number
abbrev pub and_side : SideSaid → ℕ → SideLine → SideSaid
and_side said n line = record {
  quotas = quotas_with line said.quotas;
  reserve = reserve_with line said.reserve;
  sides = said.sides ++ record { number = n; line = line } ∷ [];
}

-- with the side's line of this number. It counts among the lines of the text
unfoldable pub and_word : SideSaid → ℕ → SideWord → Data → Result SideSaid Reason
and_word said n word value = do
  line ← side_line word said value
  now ← unless (nat_lt most_lines n) TooManyLines (and_side said n line)
  unless (nat_lt most_quotas (length now.quotas)) TooManyQuotas now
