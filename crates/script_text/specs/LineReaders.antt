-- What each line means, by its member `do`: its members in their turn, the first refusal answered; other members are not looked at.
-- A choice of this project: the script format.
use Rattle.std.specs.Prelude.{ℕ, ◌==◌, List, if◌then◌else◌, Ok, Err, Option, Some, None}
use Rattle.std.specs.declared.result.Result.{Result}
use Rattle.serde_json.specs.Data.{Data}
use Rattle.plain_data.specs.Pairs.{Pair}
use Rattle.kube_objects.specs.Keys.{meta_of}
use Rattle.kube_objects.specs.declared.objects.Object.{Object}
use Rattle.kube_parts.specs.declared.names.ImportFault.{ImportFault}
use Rattle.binder_model.specs.Imports.{import_fault}
use Rattle.call_types.specs.declared.request.Request.TheVariants as asks
use Rattle.object_text.specs.declared.errors.Member.TheVariants as manifests
use Rattle.script_lines.specs.declared.line_member.LineMember.TheVariants as members
use Rattle.script_lines.specs.declared.errors.Reason.{Reason}
use Rattle.script_lines.specs.declared.errors.Reason.TheVariants.{UnknownDo, BadValue}
use Rattle.script_lines.specs.declared.verbs.Verb.{Verb}
use Rattle.script_lines.specs.declared.verbs.Verb.TheVariants as verbs
use Rattle.script_text.specs.declared.script.Line.{Line}
use Rattle.script_text.specs.declared.script.Line.TheVariants.{Call, Lose, Restart, Turn, Drain}
use Rattle.script_text.specs.declared.script.Meaning.{Meaning}
use Rattle.script_text.specs.declared.script.Meaning.TheVariants as meanings
use Rattle.script_lines.specs.Answers.{◌>>=◌, unless}
use Rattle.script_lines.specs.Actors.{actor_word}
use Rattle.script_lines.specs.Members.{text_at, count_at, most_turn, new_call_at, user_at, kind_at, key_at, condition_at, object_at, actor_at, when_at, size_at, topology_at, edit_at}
use Rattle.script_lines.specs.Imports.{import_reason}
use Rattle.script_lines.specs.Verbs.{verb_named}
use Rattle.script_text.specs.Said.{Said, has_begun, losses_of, restarts_of}

-- ---- users' calls

-- a user creates an object
unfoldable pub create_line : Data → Result Line Reason
create_line line = do
  object ← object_at line
  user ← user_at line
  Ok (Call user (asks.Create object))

-- Kubernetes API conventions, "Concurrency Control and Consistency": an update is conditional where its manifest has a resource version
abbrev pub condition_of : Object → Option ℕ
condition_of o = if (meta_of o).version == 0 then None else Some (meta_of o).version

-- a user updates an object, on the condition of the resourceVersion that its manifest has, if any
unfoldable pub update_line : Data → Result Line Reason
update_line line = do
  object ← object_at line
  user ← user_at line
  Ok (Call user (asks.Update object (condition_of object)))

-- a user edits one member of an object
unfoldable pub edit_line : Data → Result Line Reason
edit_line line = do
  key ← key_at line
  edit ← edit_at line
  user ← user_at line
  Ok (Call user (asks.Edit key edit))

-- a user deletes an object, on the condition of its UID where one is named
unfoldable pub delete_line : Data → Result Line Reason
delete_line line = do
  key ← key_at line
  uid ← condition_at line
  user ← user_at line
  Ok (Call user (asks.Delete key uid))

-- a user reads an object
unfoldable pub get_line : Data → Result Line Reason
get_line line = do
  key ← key_at line
  user ← user_at line
  Ok (Call user (asks.Get key))

-- a user lists the objects of a kind
unfoldable pub list_line : Data → Result Line Reason
list_line line = do
  kind ← kind_at line
  user ← user_at line
  Ok (Call user (asks.List kind None))

-- a user sets the time
unfoldable pub time_line : Data → Result Line Reason
time_line line = do
  at ← text_at members.At line
  user ← user_at line
  Ok (Call user (asks.SetTime at))

-- ---- what is there from the start

-- a back end has a pool of storage: its name, provisioner and size, and where it can be reached
unfoldable pub pool_line : Data → Result Meaning Reason
pool_line line = do
  name ← text_at (members.Of manifests.Name) line
  provisioner ← text_at (members.Of manifests.Provisioner) line
  amount ← size_at line
  topology ← topology_at line
  Ok (meanings.Pool (record { name = name; provisioner = provisioner; bytes = amount.bytes; topology = topology }) amount.text)

-- no number of a call twice
unfoldable pub fault_line : List ℕ → Data → Result Meaning Reason
fault_line faults line = new_call_at members.Call faults line >>= λ call. Ok (meanings.Fault call)

-- the object, unless it is not imported
abbrev pub unless_fault : Option ImportFault → Object → Result Meaning Reason
unless_fault None object = Ok (meanings.Import object)
unless_fault (Some fault) object = Err (import_reason fault)

-- an object of an older store, before any call and after the objects that were imported before it
unfoldable pub import_line : List Line → List Object → Data → Result Meaning Reason
import_line lines before line = do
  object ← object_at line
  early ← unless (has_begun lines) (BadValue members.Do) object
  unless_fault (import_fault before early) early

-- ---- actors: those of these agents; no number of an actor's call twice

-- a call of an actor is lost, before its effect or after it; each number of a call at most once
unfoldable pub lose_line : List Pair → List Line → Data → Result Line Reason
lose_line agents before line = do
  actor ← actor_at agents line
  call ← new_call_at members.Call (losses_of (actor_word actor) before) line
  after ← when_at line
  Ok (Lose actor call after)

-- an actor restarts after a call; each number of a call at most once
unfoldable pub restart_line : List Pair → List Line → Data → Result Line Reason
restart_line agents before line = do
  actor ← actor_at agents line
  after ← new_call_at members.After (restarts_of (actor_word actor) before) line
  Ok (Restart actor after)

-- an actor has a turn of so many calls
unfoldable pub turn_line : List Pair → Data → Result Line Reason
turn_line agents line = do
  actor ← actor_at agents line
  calls ← count_at members.Calls most_turn line
  Ok (Turn actor calls)

-- ---- any line

-- the verb, or that the line's `do` is unknown
abbrev pub verb_from : Option Verb → Result Verb Reason
verb_from None = Err UnknownDo
verb_from (Some verb) = Ok verb

-- the verb of a line
abbrev pub verb_at : Data → Result Verb Reason
verb_at line = text_at members.Do line >>= λ word. verb_from (verb_named word)

-- a line that is carried out when its turn comes
abbrev pub as_line : Result Line Reason → Result Meaning Reason
as_line (Ok line) = Ok (meanings.Line line)
as_line (Err reason) = Err reason

-- a line that imports an object before all calls
abbrev pub as_import : Result Object Reason → Result Meaning Reason
as_import (Ok object) = Ok (meanings.Import object)
as_import (Err reason) = Err reason

-- what a line with this verb means
abbrev pub meaning_by : Verb → List Pair → Said → Data → Result Meaning Reason
meaning_by verbs.Create agents said line = as_line (create_line line)
meaning_by verbs.Update agents said line = as_line (update_line line)
meaning_by verbs.Edit agents said line = as_line (edit_line line)
meaning_by verbs.Delete agents said line = as_line (delete_line line)
meaning_by verbs.Get agents said line = as_line (get_line line)
meaning_by verbs.List agents said line = as_line (list_line line)
meaning_by verbs.Time agents said line = as_line (time_line line)
meaning_by verbs.Pool agents said line = pool_line line
meaning_by verbs.Fault agents said line = fault_line said.faults line
meaning_by verbs.Import agents said line = import_line said.lines said.imports line
meaning_by verbs.Lose agents said line = as_line (lose_line agents said.lines line)
meaning_by verbs.Restart agents said line = as_line (restart_line agents said.lines line)
meaning_by verbs.Turn agents said line = as_line (turn_line agents line)
meaning_by verbs.Drain agents said line = Ok (meanings.Line Drain)

-- what a line means, with the agents of the whole text and after what was said before
unfoldable pub meaning_of : List Pair → Said → Data → Result Meaning Reason
meaning_of agents said line = verb_at line >>= λ verb. meaning_by verb agents said line
