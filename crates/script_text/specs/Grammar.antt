-- The script that a text is, or its first line at fault and why.
-- A choice of this project: the script format, and its limits.
use Rattle.std.specs.Prelude.{ℕ, ◌+◌, ◌==◌, ◌||◌, nat_lt, List, [], ◌∷◌, Bool, true, false, length, is_some, if◌then◌else◌, Ok, Err, Option, Some, None}
use Rattle.std.specs.List.{list_all, slice_split}
use Rattle.std.specs.declared.result.Result.{Result}
use Rattle.serde_json.specs.Data.{Data}
use Rattle.plain_data.specs.Pairs.{Pair}
use Rattle.kube_objects.specs.declared.objects.Object.{Object}
use Rattle.object_text.specs.Reading.{is_object, value_of}
use Rattle.script_lines.specs.declared.errors.Reason.{Reason}
use Rattle.script_lines.specs.declared.errors.Reason.TheVariants.{
  TooLong,
  NotObject,
  UnknownDo,
  TooManyLines,
  TooManyObjects,
  TooManyNodes,
  TooManyPools,
  TooManyFaults,
  TooManyRestarts,
  TooManyLosses,
  TooManyTurns,
}
use Rattle.script_lines.specs.declared.errors.BadLine.{BadLine}
use Rattle.script_lines.specs.declared.verbs.Verb.{Verb}
use Rattle.script_lines.specs.declared.verbs.Verb.TheVariants as verbs
use Rattle.script_text.specs.declared.script.Line.{Line}
use Rattle.script_text.specs.declared.script.Line.TheVariants.{Call, Lose, Restart, Turn, Drain}
use Rattle.script_text.specs.declared.script.Meaning.{Meaning}
use Rattle.script_text.specs.declared.script.Meaning.TheVariants as meanings
use Rattle.script_text.specs.declared.script.Script.{Script}
use Rattle.script_text.specs.declared.script.Numbered.{Numbered}
use Rattle.script_lines.specs.Answers.{◌>>=◌, taken_in_line, unless}
use Rattle.script_lines.specs.Actors.{actor_word}
use Rattle.script_lines.specs.Members.{object_at}
use Rattle.script_text.specs.Said.{Said, nothing_said, and_said, created_by, meaning_node, and_node, agents_of, objects_of, losses_of, restarts_of, calls_of, numbered_of}
use Rattle.script_text.specs.LineReaders.{verb_at, create_line, as_line, as_import, meaning_of}

-- ---- limits

-- 16 KiB
abbrev pub most_line_bytes : ℕ
most_line_bytes = 16384

-- how many lines a script may have
abbrev pub most_lines : ℕ
most_lines = 4096

-- how many objects a script may import and create together
abbrev pub most_objects : ℕ
most_objects = 1024

-- how many nodes with an agent a script may name
abbrev pub most_nodes : ℕ
most_nodes = 8

-- how many pools a script may have
abbrev pub most_pools : ℕ
most_pools = 64

-- how many faults a script may plan
abbrev pub most_faults : ℕ
most_faults = 256

-- of one actor
abbrev pub most_restarts : ℕ
most_restarts = 3

-- of one actor
abbrev pub most_losses : ℕ
most_losses = 64

-- of all turns together
abbrev pub most_calls : ℕ
most_calls = 28000

-- the refusal, where the limit is passed
abbrev pub passed : Bool → Reason → Option Reason
passed true reason = Some reason
passed false reason = None

-- the first of two refusals, if there is one
abbrev pub first_of : Option Reason → Option Reason → Option Reason
first_of (Some reason) later = Some reason
first_of None later = later

-- the limit that imported and created objects pass together
abbrev pub object_limit : List Object → List Line → Option Reason
object_limit imports lines = first_of (passed (nat_lt most_objects (objects_of imports lines)) TooManyObjects) (passed (nat_lt most_nodes (length (agents_of imports lines))) TooManyNodes)

-- the limit that the last of these lines passes, where these objects were imported
abbrev pub create_limit : List Object → List Line → Bool → Option Reason
create_limit imports lines false = None
create_limit imports lines true = object_limit imports lines

-- the limit that the last of these lines passes, by its kind
abbrev pub line_limit : List Object → List Line → Line → Option Reason
line_limit imports lines (Call user request) = create_limit imports lines (is_some (created_by request))
line_limit imports lines (Lose actor call after) = passed (nat_lt most_losses (length (losses_of (actor_word actor) lines))) TooManyLosses
line_limit imports lines (Restart actor after) = passed (nat_lt most_restarts (length (restarts_of (actor_word actor) lines))) TooManyRestarts
line_limit imports lines (Turn actor calls) = passed (nat_lt most_calls (calls_of lines)) TooManyTurns
line_limit imports lines Drain = None

-- the limit that what a line means passes, with which this was said
abbrev pub limit_of : Said → Meaning → Option Reason
limit_of said (meanings.Pool pool size) = passed (nat_lt most_pools (length said.pools)) TooManyPools
limit_of said (meanings.Fault call) = passed (nat_lt most_faults (length said.faults)) TooManyFaults
limit_of said (meanings.Import object) = object_limit said.imports said.lines
limit_of said (meanings.Line line) = line_limit said.imports said.lines line

-- what is said, unless a limit is passed
abbrev pub unless_passed : Option Reason → Said → Result Said Reason
unless_passed None said = Ok said
unless_passed (Some reason) said = Err reason

-- ---- one line

-- a space or a tab
abbrev pub is_blank : ℕ → Bool
is_blank b = b == 32 || b == 9

-- the value of a line, which has to be an object
abbrev pub object_value : Data → Result Data Reason
object_value d = if is_object d then Ok d else Err NotObject

-- the JSON object that a line is
abbrev pub line_value : List ℕ → Result Data Reason
line_value line = taken_in_line (value_of line) >>= λ d. object_value d

-- with the line of this number, which is not of blanks alone
unfoldable pub and_filled : List Pair → Said → ℕ → List ℕ → Result Said Reason
and_filled agents said n line = do
  value ← line_value line
  meaning ← meaning_of agents said value
  now ← unless (nat_lt most_lines n) TooManyLines (and_said said n meaning)
  unless_passed (limit_of now meaning) now

-- with the line of this number; one of blanks alone says nothing
unfoldable pub and_line : List Pair → Said → ℕ → List ℕ → Result Said Reason
and_line agents said n line =
    if nat_lt most_line_bytes (length line) then Err TooLong else (if list_all is_blank line then Ok said else and_filled agents said n line)

-- ---- the agents of the whole text

-- the object that a line creates or imports
abbrev pub object_by : Verb → Data → Result Meaning Reason
object_by verbs.Create value = as_line (create_line value)
object_by verbs.Import value = as_import (object_at value)
object_by verb value = Err UnknownDo

-- what a line creates or imports, by its own members alone
unfoldable pub own_object : List ℕ → Result Meaning Reason
own_object line = do
  short ← unless (nat_lt most_line_bytes (length line)) TooLong line
  value ← line_value short
  verb ← verb_at value
  object_by verb value

-- the node that a line names which was read; none where it was refused
abbrev pub node_from : Result Meaning Reason → Option (List ℕ)
node_from (Ok meaning) = meaning_node meaning
node_from (Err reason) = None

-- the agents of the nodes that create and import lines name, beside others
abbrev pub agents_beside : List Pair → List (List ℕ) → List Pair
agents_beside agents [] = agents
agents_beside agents (line ∷ lines) = agents_beside (and_node agents (node_from (own_object line))) lines

-- the agents of the nodes that the create and import lines of a text name
abbrev pub agents_in : List (List ℕ) → List Pair
agents_in lines = agents_beside [] lines

-- ---- the text

-- the parts between line feeds
abbrev pub lines_of : List ℕ → List (List ℕ)
lines_of text = slice_split (λ b. b == 10) text

-- the first refusal with the number of its line, else what the next step makes of what was said
abbrev pub at_line : ℕ → Result Said Reason → (Said → Result Said BadLine) → Result Said BadLine
at_line n (Ok said) next = next said
at_line n (Err reason) next = Err (record { line = n; reason = reason })

-- what lines say, the first of which has this number, after what was said before
abbrev pub said_from : List Pair → ℕ → List (List ℕ) → Said → Result Said BadLine
said_from agents n [] said = Ok said
said_from agents n (line ∷ lines) said = at_line n (and_line agents said n line) (λ now. said_from agents (n + 1) lines now)

-- what the lines of a text say, or the first that is refused
abbrev pub said_in : List (List ℕ) → Result Said BadLine
said_in lines = said_from (agents_in lines) 1 lines nothing_said

-- the script of what was said, with the numbers of its lines
abbrev pub numbered_from : Result Said BadLine → Result Numbered BadLine
numbered_from (Ok said) = Ok (numbered_of said)
numbered_from (Err b) = Err b

-- the script of these lines, and their numbers; or the first line at fault and the first of its reasons
abbrev pub read_lines_of : List (List ℕ) → Result Numbered BadLine
read_lines_of lines = numbered_from (said_in lines)

-- the same of a text, which is lines between line feeds
unfoldable pub read_numbered_of : List ℕ → Result Numbered BadLine
read_numbered_of text = read_lines_of (lines_of text)

-- the script without the numbers of its lines
abbrev pub script_from : Result Numbered BadLine → Result Script BadLine
script_from (Ok n) = Ok n.script
script_from (Err b) = Err b

-- the script of a text; or the first line at fault and the first of its reasons
abbrev pub script_of : List ℕ → Result Script BadLine
script_of text = script_from (read_numbered_of text)
