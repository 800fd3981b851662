-- The agents of a printed script are those of the nodes that its lines create or import.
use Rattle.std.proofs.Common.{◌≡◌, ℕ, List, [], ◌∷◌, None, Result, Ok, codes, refl, ap, ◌∙◌}
use Rattle.serde_json.specs.Data.{Data}
use Rattle.json_text.specs.Members.{MemberList, text, whole, object_of}
use Rattle.plain_data.specs.Pairs.{Pair}
use Rattle.call_types.specs.declared.request.Request.{Request}
use Rattle.call_types.specs.declared.request.Request.TheVariants as asks
use Rattle.call_types.specs.declared.setup.Pool.{Pool}
use Rattle.script_lines.specs.declared.errors.Reason.{Reason}
use Rattle.script_lines.specs.declared.verbs.Verb.{Verb}
use Rattle.script_lines.specs.declared.verbs.Verb.TheVariants as verbs
use Rattle.script_lines.specs.Answers.{◌>>=◌}
use Rattle.kube_objects.specs.declared.objects.Object.{Object}
use Rattle.script_text.specs.declared.script.Line.{Line}
use Rattle.script_text.specs.declared.script.Line.TheVariants.{Call, Lose, Restart, Turn, Drain}
use Rattle.script_text.specs.declared.script.Meaning.{Meaning}
use Rattle.script_text.specs.Said.{created_node, imported_node}
use Rattle.script_text.specs.LineReaders.{verb_at, as_line, as_import}
use Rattle.script_text.specs.Grammar.{object_by, own_object, node_from}
use Rattle.script_print.specs.Printing.{line_pairs, line_data, line_text, pool_pairs, pool_data, pool_text, fault_data, fault_text, import_pairs, import_data, import_text}
use Rattle.script_laws.specs.Read.Given.{IsLineAfter, IsLineObject}
use Rattle.script_laws.specs.Read.Limits.{IsShortObject, LineHasShortObject}
use Rattle.script_laws.proofs.Read.MembersBack.{has, object_at_back, user_back}
use Rattle.script_laws.proofs.Read.EditsBack.{edit_line_pairs, no_edits, edit_has}
use Rattle.script_laws.proofs.Read.LinesBack.{verb_back, create_back, no_topology}
use Rattle.script_laws.proofs.Read.LinesRead.{IsRead, own_read}

-- what its own members say that a line creates or imports
abbrev own_of : Data → Result Meaning Reason
own_of d = verb_at d >>= λ verb. object_by verb d

-- a line with another verb creates nothing
not_create : (d : Data) (verb : Verb) → verb_at d ≡ Ok verb → node_from (object_by verb d) ≡ None → node_from (own_of d) ≡ None
not_create d verb e none = ap (λ r. node_from (r >>= λ v. object_by v d)) e ∙ none

call_node : (agents : List Pair) (before : List Line) (user : ℕ) (request : Request) → IsLineAfter agents before (Call user request)
    → LineHasShortObject (Call user request) → node_from (own_of (line_data (Call user request))) ≡ created_node (Call user request)
unfolding line_data
call_node agents before user (asks.Create o) is fits =
    let ps : MemberList = line_pairs (Call user (asks.Create o)) in
    let d : Data = object_of ps in
    ap (λ r. node_from (r >>= λ v. object_by v d)) (verb_back d (codes "create") verbs.Create (has (codes "do") ps) refl)
    ∙ ap (λ r. node_from (as_line r)) (create_back d user o (object_at_back d o is.1.given fits (has (codes "object") ps)) (user_back d user is.0 (has (codes "user") ps)))
call_node agents before user (asks.Update o version) is fits =
    let ps : MemberList = line_pairs (Call user (asks.Update o version)) in
    not_create (object_of ps) verbs.Update (verb_back (object_of ps) (codes "update") verbs.Update (has (codes "do") ps) refl) refl
call_node agents before user (asks.UpdateStatus key status version) is fits = absurd is.1
call_node agents before user (asks.Edit key edit) is fits =
    let d : Data = object_of (edit_line_pairs key edit user) in
    let no = no_edits edit in
    not_create d verbs.Edit (verb_back d (codes "edit") verbs.Edit (edit_has (codes "do") key edit user no.verb) refl) refl
call_node agents before user (asks.Delete key uid) is fits =
    let ps : MemberList = line_pairs (Call user (asks.Delete key uid)) in
    not_create (object_of ps) verbs.Delete (verb_back (object_of ps) (codes "delete") verbs.Delete (has (codes "do") ps) refl) refl
call_node agents before user (asks.Get key) is fits =
    let ps : MemberList = line_pairs (Call user (asks.Get key)) in
    not_create (object_of ps) verbs.Get (verb_back (object_of ps) (codes "get") verbs.Get (has (codes "do") ps) refl) refl
call_node agents before user (asks.List kind namespace) is fits =
    let ps : MemberList = line_pairs (Call user (asks.List kind namespace)) in
    not_create (object_of ps) verbs.List (verb_back (object_of ps) (codes "list") verbs.List (has (codes "do") ps) refl) refl
call_node agents before user (asks.Watch kind from) is fits = absurd is.1
call_node agents before user (asks.BindPod key uid node) is fits = absurd is.1
call_node agents before user (asks.FinishPod key uid node epoch) is fits = absurd is.1
call_node agents before user (asks.Provision name provisioner bytes labels) is fits = absurd is.1
call_node agents before user (asks.Erase id) is fits = absurd is.1
call_node agents before user (asks.TakeNode node) is fits = absurd is.1
call_node agents before user (asks.Mounts node epoch) is fits = absurd is.1
call_node agents before user (asks.Mount node epoch pod claims) is fits = absurd is.1
call_node agents before user (asks.Unmount node epoch pod) is fits = absurd is.1
call_node agents before user (asks.SetTime moment) is fits =
    let ps : MemberList = line_pairs (Call user (asks.SetTime moment)) in
    not_create (object_of ps) verbs.Time (verb_back (object_of ps) (codes "time") verbs.Time (has (codes "do") ps) refl) refl

line_node : (agents : List Pair) (before : List Line) (line : Line) → IsLineAfter agents before line → LineHasShortObject line → node_from (own_of (line_data line)) ≡ created_node line
unfolding line_data
line_node agents before (Call user request) is fits = call_node agents before user request is fits
line_node agents before (Lose actor call after) is fits =
    let ps : MemberList = line_pairs (Lose actor call after) in
    not_create (object_of ps) verbs.Lose (verb_back (object_of ps) (codes "lose") verbs.Lose (has (codes "do") ps) refl) refl
line_node agents before (Restart actor after) is fits =
    let ps : MemberList = line_pairs (Restart actor after) in
    not_create (object_of ps) verbs.Restart (verb_back (object_of ps) (codes "restart") verbs.Restart (has (codes "do") ps) refl) refl
line_node agents before (Turn actor calls) is fits =
    let ps : MemberList = line_pairs (Turn actor calls) in
    not_create (object_of ps) verbs.Turn (verb_back (object_of ps) (codes "turn") verbs.Turn (has (codes "do") ps) refl) refl
line_node agents before Drain is fits =
    let ps : MemberList = line_pairs Drain in
    not_create (object_of ps) verbs.Drain (verb_back (object_of ps) (codes "drain") verbs.Drain (has (codes "do") ps) refl) refl

-- with the node of a line that was read
pub own_node : (agents : List Pair) (before : List Line) (line : Line) → IsLineAfter agents before line → LineHasShortObject line
    → IsRead (line_data line) → node_from (own_object (line_text line)) ≡ created_node line
unfolding line_text
own_node agents before line is fits read = ap node_from (own_read (line_data line) read) ∙ line_node agents before line is fits

pub pool_node : (pool : Pool) (size : List ℕ) → IsRead (pool_data pool size) → node_from (own_object (pool_text pool size)) ≡ None
unfolding pool_text pool_data
pool_node pool size read =
    let ps : MemberList = pool_pairs pool size in
    ap node_from (own_read (object_of ps) read)
    ∙ not_create (object_of ps) verbs.Pool (verb_back (object_of ps) (codes "pool") verbs.Pool (has (codes "do") ps ∙ no_topology (codes "do") pool.topology _ (λ u. refl)) refl) refl

pub fault_node : (call : ℕ) → IsRead (fault_data call) → node_from (own_object (fault_text call)) ≡ None
unfolding fault_text fault_data
fault_node call read =
    let ps : MemberList = (codes "call", whole call) ∷ (codes "do", text (codes "fault")) ∷ [] in
    ap node_from (own_read (object_of ps) read) ∙ not_create (object_of ps) verbs.Fault (verb_back (object_of ps) (codes "fault") verbs.Fault (has (codes "do") ps) refl) refl

pub import_node : (o : Object) → IsLineObject o → IsShortObject o → IsRead (import_data o) → node_from (own_object (import_text o)) ≡ imported_node o
unfolding import_text import_data
import_node o is short read =
    let ps : MemberList = import_pairs o in
    let d : Data = object_of ps in
    ap node_from (own_read d read)
    ∙ ap (λ r. node_from (r >>= λ v. object_by v d)) (verb_back d (codes "import") verbs.Import (has (codes "do") ps) refl)
    ∙ ap (λ r. node_from (as_import r)) (object_at_back d o is.given short (has (codes "object") ps))
