-- A line of a create, an update or an import is short where its object is; lines of faults and drains are short.
use Rattle.std.proofs.Common.{ℕ, ◌≤◌, ◌==◌, nat_le, List, [], ◌∷◌, ◌++◌, length, map, Bool, true, false, if◌then◌else◌, Option, Some, None, codes, decimal, arith, length-append}
use Rattle.std.specs.List.{All}
use Rattle.std.proofs.lemmas.Bool.{and_parts, leb-true}
use Rattle.std.proofs.lemmas.Fmt.{length-decimal-le}
use Rattle.std.proofs.lemmas.List.Elements.{All-nil, All-cons, All-head, All-tail, All-append}
use Rattle.serde_json.specs.Data.{Data, string}
use Rattle.serde_json.specs.Written.{compact_text}
use Rattle.serde_json.proofs.OnLiterals.{serde_json_on_literals}
use Rattle.json_text.specs.Build.{put_some}
use Rattle.json_text.specs.Members.{text, whole, object_of}
use Rattle.plain_data.specs.Pairs.{Pair}
use Rattle.kube_objects.specs.declared.objects.Object.{Object}
use Rattle.call_types.specs.declared.request.Request.{Request}
use Rattle.call_types.specs.declared.request.Request.TheVariants as asks
use Rattle.object_print.specs.Objects.{object_data, object_line}
use Rattle.object_text.specs.Reading.{most_bytes}
use Rattle.script_lines.specs.Members.{most_call}
use Rattle.script_text.specs.declared.script.Line.{Line}
use Rattle.script_text.specs.declared.script.Line.TheVariants.{Call, Lose, Restart, Turn, Drain}
use Rattle.script_text.specs.declared.script.Script.{Script}
use Rattle.script_text.specs.Grammar.{most_line_bytes}
use Rattle.script_print.specs.Printing.{line_data, line_text, pool_lines, fault_data, fault_text, import_data, import_text, script_lines}
use Rattle.script_laws.specs.Read.Given.{IsCount, IsLineAfter}
use Rattle.script_laws.specs.Read.Limits.{IsShort, IsShortObject, LineHasShortObject, CallFits, LineFits, ScriptFits}
use Rattle.script_laws.specs.Read.Scripts.{AreLinesAfter}

pub count_small : (most n : ℕ) → IsCount most n → n ≤ most
count_small most n is = leb-true n most (and_parts (nat_le 1 n) (nat_le n most) is).1

-- ---- objects

alone_short : (word d : Data) → length (compact_text word) ≤ 16 → length (compact_text d) ≤ most_bytes
    → length (compact_text (object_of ((codes "do", Some word) ∷ (codes "object", Some d) ∷ (codes "user", None) ∷ []))) ≤ most_line_bytes
unfolding put_some serde_json_on_literals
alone_short word d w h =
    omega (arith, length-append (compact_text word) (44 ∷ 34 ∷ 111 ∷ 98 ∷ 106 ∷ 101 ∷ 99 ∷ 116 ∷ 34 ∷ 58 ∷ (compact_text d ++ 125 ∷ [])), length-append (compact_text d) (125 ∷ []))

user_short : (word d : Data) (n : ℕ) → n ≤ 4 → length (compact_text word) ≤ 16 → length (compact_text d) ≤ most_bytes
    → length (compact_text (object_of ((codes "do", Some word) ∷ (codes "object", Some d) ∷ (codes "user", whole n) ∷ []))) ≤ most_line_bytes
unfolding put_some serde_json_on_literals
user_short word d n small w h =
    let digits = length-decimal-le 1 n (omega arith) (omega arith) (omega arith) in
    let last = length-append (decimal n) (125 ∷ []) in
    let user : List ℕ = 44 ∷ 34 ∷ 117 ∷ 115 ∷ 101 ∷ 114 ∷ 34 ∷ 58 ∷ (decimal n ++ 125 ∷ []) in
    omega (arith, length-append (compact_text word) (44 ∷ 34 ∷ 111 ∷ 98 ∷ 106 ∷ 101 ∷ 99 ∷ 116 ∷ 34 ∷ 58 ∷ (compact_text d ++ user)), length-append (compact_text d) user)

object_short : (word d : Data) (user : ℕ) → IsCount 4 user → length (compact_text word) ≤ 16 → length (compact_text d) ≤ most_bytes
    → length (compact_text (object_of ((codes "do", Some word) ∷ (codes "object", Some d) ∷ (codes "user", if user == 1 then None else whole user) ∷ []))) ≤ most_line_bytes
object_short word d user is w h = by (user == 1)
  where
    by : (b : Bool) → length (compact_text (object_of ((codes "do", Some word) ∷ (codes "object", Some d) ∷ (codes "user", if b then None else whole user) ∷ []))) ≤ most_line_bytes
    by true = alone_short word d w h
    by false = user_short word d user (count_small 4 user is) w h

create_word : length (compact_text (string (codes "create"))) ≤ 16
unfolding serde_json_on_literals
create_word = omega arith

update_word : length (compact_text (string (codes "update"))) ≤ 16
unfolding serde_json_on_literals
update_word = omega arith

create_short : (user : ℕ) (o : Object) → IsCount 4 user → IsShortObject o → IsShort (line_text (Call user (asks.Create o)))
unfolding line_text line_data object_line
create_short user o is h = object_short (string (codes "create")) (object_data o) user is create_word h

update_short : (user : ℕ) (o : Object) (version : Option ℕ) → IsCount 4 user → IsShortObject o → IsShort (line_text (Call user (asks.Update o version)))
unfolding line_text line_data object_line
update_short user o version is h = object_short (string (codes "update")) (object_data o) user is update_word h

-- ---- lines

call_short : (user : ℕ) (request : Request) → IsCount 4 user → CallFits user request → IsShort (line_text (Call user request))
call_short user (asks.Create o) is h = create_short user o is h
call_short user (asks.Update o version) is h = update_short user o version is h
call_short user (asks.UpdateStatus key status version) is h = h
call_short user (asks.Edit key edit) is h = h
call_short user (asks.Delete key uid) is h = h
call_short user (asks.Get key) is h = h
call_short user (asks.List kind namespace) is h = h
call_short user (asks.Watch kind from) is h = h
call_short user (asks.BindPod key uid node) is h = h
call_short user (asks.FinishPod key uid node epoch) is h = h
call_short user (asks.Provision name provisioner bytes labels) is h = h
call_short user (asks.Erase id) is h = h
call_short user (asks.TakeNode node) is h = h
call_short user (asks.Mounts node epoch) is h = h
call_short user (asks.Mount node epoch pod claims) is h = h
call_short user (asks.Unmount node epoch pod) is h = h
call_short user (asks.SetTime moment) is h = h

drain_short : IsShort (line_text Drain)
unfolding line_text line_data put_some serde_json_on_literals
drain_short = omega arith

line_short : (agents : List Pair) (before : List Line) (line : Line) → IsLineAfter agents before line → LineFits line → IsShort (line_text line)
line_short agents before (Call user request) is h = call_short user request is.0 h
line_short agents before (Lose actor call after) is h = h
line_short agents before (Restart actor after) is h = h
line_short agents before (Turn actor calls) is h = h
line_short agents before Drain is h = drain_short

call_object : (user : ℕ) (request : Request) → CallFits user request → LineHasShortObject (Call user request)
call_object user (asks.Create o) h = h
call_object user (asks.Update o version) h = h
call_object user (asks.UpdateStatus key status version) h = tt
call_object user (asks.Edit key edit) h = tt
call_object user (asks.Delete key uid) h = tt
call_object user (asks.Get key) h = tt
call_object user (asks.List kind namespace) h = tt
call_object user (asks.Watch kind from) h = tt
call_object user (asks.BindPod key uid node) h = tt
call_object user (asks.FinishPod key uid node epoch) h = tt
call_object user (asks.Provision name provisioner bytes labels) h = tt
call_object user (asks.Erase id) h = tt
call_object user (asks.TakeNode node) h = tt
call_object user (asks.Mounts node epoch) h = tt
call_object user (asks.Mount node epoch pod claims) h = tt
call_object user (asks.Unmount node epoch pod) h = tt
call_object user (asks.SetTime moment) h = tt

line_object : (line : Line) → LineFits line → LineHasShortObject line
line_object (Call user request) h = call_object user request h
line_object (Lose actor call after) h = tt
line_object (Restart actor after) h = tt
line_object (Turn actor calls) h = tt
line_object Drain h = tt

pub lines_objects : (lines : List Line) → All LineFits lines → All LineHasShortObject lines
lines_objects [] h = All-nil LineHasShortObject
lines_objects (line ∷ lines) h = All-cons LineHasShortObject line lines (line_object line (All-head LineFits line lines h)) (lines_objects lines (All-tail LineFits line lines h))

lines_short : (imports : List Object) (agents : List Pair) (before lines : List Line) → AreLinesAfter imports agents before lines → All LineFits lines → All IsShort (map line_text lines)
lines_short imports agents before [] is h = All-nil IsShort
lines_short imports agents before (line ∷ lines) is h =
    All-cons IsShort (line_text line) (map line_text lines) (line_short agents before line is.0 (All-head LineFits line lines h))
    (lines_short imports agents (before ++ line ∷ []) lines is.2 (All-tail LineFits line lines h))

-- ---- faults

number_short : (n : ℕ) → n ≤ 999999999 → length (compact_text (object_of ((codes "call", whole n) ∷ (codes "do", text (codes "fault")) ∷ []))) ≤ most_line_bytes
unfolding put_some serde_json_on_literals
number_short n small =
    let digits = length-decimal-le 9 n (omega arith) (omega arith) (omega arith) in
    omega (arith, length-append (decimal n) (44 ∷ 34 ∷ 100 ∷ 111 ∷ 34 ∷ 58 ∷ 34 ∷ 102 ∷ 97 ∷ 117 ∷ 108 ∷ 116 ∷ 34 ∷ 125 ∷ []))

fault_short : (call : ℕ) → IsCount most_call call → IsShort (fault_text call)
unfolding fault_text fault_data
fault_short call is = number_short call (count_small most_call call is)

faults_short : (calls : List ℕ) → All (IsCount most_call) calls → All IsShort (map fault_text calls)
faults_short [] h = All-nil IsShort
faults_short (call ∷ calls) h = All-cons IsShort (fault_text call) (map fault_text calls) (fault_short call
    (All-head (IsCount most_call) call calls h)) (faults_short calls (All-tail (IsCount most_call) call calls h))

-- ---- imported objects

import_alone : (word d : Data) → length (compact_text word) ≤ 16 → length (compact_text d) ≤ most_bytes
    → length (compact_text (object_of ((codes "do", Some word) ∷ (codes "object", Some d) ∷ []))) ≤ most_line_bytes
unfolding put_some serde_json_on_literals
import_alone word d w h =
    omega (arith, length-append (compact_text word) (44 ∷ 34 ∷ 111 ∷ 98 ∷ 106 ∷ 101 ∷ 99 ∷ 116 ∷ 34 ∷ 58 ∷ (compact_text d ++ 125 ∷ [])), length-append (compact_text d) (125 ∷ []))

import_word : length (compact_text (string (codes "import"))) ≤ 16
unfolding serde_json_on_literals
import_word = omega arith

import_short : (o : Object) → IsShortObject o → IsShort (import_text o)
unfolding import_text import_data object_line
import_short o h = import_alone (string (codes "import")) (object_data o) import_word h

imports_short : (imports : List Object) → All IsShortObject imports → All IsShort (map import_text imports)
imports_short [] h = All-nil IsShort
imports_short (o ∷ os) h = All-cons IsShort (import_text o) (map import_text os) (import_short o (All-head IsShortObject o os h)) (imports_short os (All-tail IsShortObject o os h))

-- ---- the script

pub script_short : (s : Script) (agents : List Pair) → AreLinesAfter s.setup.imports agents [] s.lines → All (IsCount most_call) s.setup.faults → ScriptFits s → All IsShort (script_lines s)
unfolding script_lines
script_short s agents lines faults h =
    All-append IsShort (pool_lines s.setup.pools s.sizes) (map fault_text s.setup.faults ++ (map import_text s.setup.imports ++ map line_text s.lines)) h.pools
    (All-append IsShort (map fault_text s.setup.faults) (map import_text s.setup.imports ++ map line_text s.lines) (faults_short s.setup.faults faults)
    (All-append IsShort (map import_text s.setup.imports) (map line_text s.lines) (imports_short s.setup.imports h.imports) (lines_short s.setup.imports agents [] s.lines lines h.lines)))
