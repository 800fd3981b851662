-- What is printed for a script: the pools, the faults as they rise, the imported objects and the lines in their order, a line for each.
-- A choice of this project: the script format.
use Rattle.std.specs.Prelude.{ℕ, ◌==◌, List, [], ◌∷◌, ◌++◌, Bool, true, false, if◌then◌else◌, Some, None, codes, decimal, map, option_map}
use Rattle.serde_json.specs.Data.{Data}
use Rattle.serde_json.specs.Written.{compact_text}
use Rattle.json_text.specs.Members.{MemberList, text, whole, object_of}
use Rattle.kube_parts.specs.Words.{kind_word}
use Rattle.kube_objects.specs.declared.key.Key.{Key}
use Rattle.kube_objects.specs.declared.objects.Object.{Object}
use Rattle.call_types.specs.declared.request.Request.{Request}
use Rattle.call_types.specs.declared.request.Request.TheVariants as asks
use Rattle.call_types.specs.declared.setup.Pool.{Pool}
use Rattle.object_print.specs.Metadata.{uid_data}
use Rattle.object_print.specs.Objects.{object_data}
use Rattle.history_text.specs.Requests.{ask_word, argument_pairs, edit_pairs}
use Rattle.history_text.specs.Replies.{topology_pairs}
use Rattle.history_text.specs.Output.{with_lines}
use Rattle.script_lines.specs.declared.actors.Actor.{Actor}
use Rattle.script_text.specs.declared.script.Line.{Line}
use Rattle.script_text.specs.declared.script.Line.TheVariants.{Call, Lose, Restart, Turn, Drain}
use Rattle.script_text.specs.declared.script.Script.{Script}
use Rattle.script_lines.specs.Actors.{actor_word}
use Rattle.script_lines.specs.Members.{is_namespaced}

-- the first user is left out
abbrev pub user_pairs : ℕ → MemberList
user_pairs user = (codes "user", if user == 1 then None else whole user) ∷ []

-- the namespace of an object that has one always stands
abbrev pub line_key_pairs : Key → MemberList
line_key_pairs k = (codes "kind", text (kind_word k.kind)) ∷ (codes "name", text k.name) ∷ (codes "namespace", if is_namespaced k.kind then text k.namespace else None) ∷ []

-- the version of an update is that of its object; other requests, which no script has, as histories show them
abbrev pub call_pairs : Request → MemberList
call_pairs (asks.Create object) = (codes "object", Some (object_data object)) ∷ []
call_pairs (asks.Update object version) = (codes "object", Some (object_data object)) ∷ []
call_pairs (asks.Edit key edit) = line_key_pairs key ++ edit_pairs edit
call_pairs (asks.Delete key uid) = line_key_pairs key ++ (codes "uid", option_map uid_data uid) ∷ []
call_pairs (asks.Get key) = line_key_pairs key
call_pairs (asks.UpdateStatus key status version) = argument_pairs (asks.UpdateStatus key status version)
call_pairs (asks.List kind namespace) = argument_pairs (asks.List kind namespace)
call_pairs (asks.Watch kind from) = argument_pairs (asks.Watch kind from)
call_pairs (asks.BindPod key uid node) = argument_pairs (asks.BindPod key uid node)
call_pairs (asks.FinishPod key uid node epoch) = argument_pairs (asks.FinishPod key uid node epoch)
call_pairs (asks.Provision name provisioner bytes labels) = argument_pairs (asks.Provision name provisioner bytes labels)
call_pairs (asks.Erase id) = argument_pairs (asks.Erase id)
call_pairs (asks.TakeNode node) = argument_pairs (asks.TakeNode node)
call_pairs (asks.Mounts node epoch) = argument_pairs (asks.Mounts node epoch)
call_pairs (asks.Mount node epoch pod claims) = argument_pairs (asks.Mount node epoch pod claims)
call_pairs (asks.Unmount node epoch pod) = argument_pairs (asks.Unmount node epoch pod)
call_pairs (asks.SetTime at) = argument_pairs (asks.SetTime at)

-- the word that says whether a call is lost before its effect or after it
abbrev pub when_word : Bool → List ℕ
when_word false = codes "before"
when_word true = codes "after"

-- the member that names the actor of a line
abbrev pub actor_pairs : Actor → MemberList
actor_pairs actor = (codes "actor", text (actor_word actor)) ∷ []

-- the members of a line that is carried out when its turn comes
abbrev pub line_pairs : Line → MemberList
line_pairs (Call user request) = (codes "do", text (ask_word request)) ∷ (call_pairs request ++ user_pairs user)
line_pairs (Lose actor call after) = (codes "do", text (codes "lose")) ∷ (actor_pairs actor ++ (codes "call", whole call) ∷ (codes "when", text (when_word after)) ∷ [])
line_pairs (Restart actor after) = (codes "do", text (codes "restart")) ∷ (actor_pairs actor ++ (codes "after", whole after) ∷ [])
line_pairs (Turn actor calls) = (codes "do", text (codes "turn")) ∷ (actor_pairs actor ++ (codes "calls", whole calls) ∷ [])
line_pairs Drain = (codes "do", text (codes "drain")) ∷ []

-- the same as an object
unfoldable pub line_data : Line → Data
line_data line = object_of (line_pairs line)

-- the text of such a line
unfoldable pub line_text : Line → List ℕ
line_text line = compact_text (line_data line)

-- ---- what is there from the start

-- the members of a pool's line, with its size as it was written
abbrev pub pool_pairs : Pool → List ℕ → MemberList
pool_pairs pool size = (codes "do", text (codes "pool")) ∷ (codes "bytes", text size) ∷ (codes "name", text pool.name) ∷ (codes "provisioner", text pool.provisioner) ∷ topology_pairs pool.topology

-- the same as an object
unfoldable pub pool_data : Pool → List ℕ → Data
pool_data pool size = object_of (pool_pairs pool size)

-- the line of a pool
unfoldable pub pool_text : Pool → List ℕ → List ℕ
pool_text pool size = compact_text (pool_data pool size)

-- each with its size as it was written; one without, by its digits
abbrev pub pool_lines : List Pool → List (List ℕ) → List (List ℕ)
pool_lines [] sizes = []
pool_lines (pool ∷ pools) [] = pool_text pool (decimal pool.bytes) ∷ pool_lines pools []
pool_lines (pool ∷ pools) (size ∷ sizes) = pool_text pool size ∷ pool_lines pools sizes

-- the object of a fault's line: the number of the device call that is to fail
unfoldable pub fault_data : ℕ → Data
fault_data call = object_of ((codes "call", whole call) ∷ (codes "do", text (codes "fault")) ∷ [])

-- the line of a planned fault
unfoldable pub fault_text : ℕ → List ℕ
fault_text call = compact_text (fault_data call)

-- the members of an import line
abbrev pub import_pairs : Object → MemberList
import_pairs object = (codes "do", text (codes "import")) ∷ (codes "object", Some (object_data object)) ∷ []

-- the same as an object
unfoldable pub import_data : Object → Data
import_data object = object_of (import_pairs object)

-- the line of an imported object
unfoldable pub import_text : Object → List ℕ
import_text object = compact_text (import_data object)

-- the lines of a script: pools, faults and imports, and then what is carried out
unfoldable pub script_lines : Script → List (List ℕ)
script_lines s = pool_lines s.setup.pools s.sizes ++ (map fault_text s.setup.faults ++ (map import_text s.setup.imports ++ map line_text s.lines))

-- each line ends in a line feed
abbrev pub script_text : Script → List ℕ
script_text s = with_lines [] (script_lines s)
