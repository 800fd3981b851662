-- What is printed of a line is read as the line.
use Rattle.std.proofs.Common.{◌≡◌, ℕ, List, [], ◌∷◌, Bool, false, Option, Some, None, Ok, codes, refl, sym, ap, ◌∙◌}
use Rattle.serde_json.specs.Data.{Data}
use Rattle.json_text.specs.Build.{pick}
use Rattle.json_text.specs.Members.{MemberList, text, whole, object_of}
use Rattle.plain_data.specs.Pairs.{Pair}
use Rattle.quantity_text.specs.Quantity.{amount_of}
use Rattle.kube_parts.specs.declared.parts.Kind.{Kind}
use Rattle.kube_objects.specs.declared.key.Key.{Key}
use Rattle.kube_parts.specs.declared.uid.Uid.{Uid}
use Rattle.kube_objects.specs.declared.objects.Object.{Object}
use Rattle.binder_model.specs.Imports.{import_fault}
use Rattle.call_types.specs.declared.edit.Edit.{Edit}
use Rattle.call_types.specs.declared.request.Request.{Request}
use Rattle.call_types.specs.declared.request.Request.TheVariants as asks
use Rattle.call_types.specs.declared.setup.Pool.{Pool}
use Rattle.object_text.specs.declared.errors.Member.TheVariants as manifests
use Rattle.history_text.specs.Replies.{topology_pairs}
use Rattle.script_lines.specs.declared.actors.Actor.{Actor}
use Rattle.script_lines.specs.declared.line_member.LineMember.TheVariants as members
use Rattle.script_lines.specs.declared.verbs.Verb.{Verb}
use Rattle.script_lines.specs.declared.verbs.Verb.TheVariants as verbs
use Rattle.script_lines.specs.Answers.{◌>>=◌}
use Rattle.script_lines.specs.Actors.{actor_word}
use Rattle.script_lines.specs.Members.{at, most_turn, user_at, object_at, topology_at}
use Rattle.script_lines.specs.Verbs.{verb_named}
use Rattle.script_text.specs.declared.script.Line.{Line}
use Rattle.script_text.specs.declared.script.Line.TheVariants.{Call, Lose, Restart, Turn, Drain}
use Rattle.script_text.specs.declared.script.Meaning.TheVariants as meanings
use Rattle.script_text.specs.Said.{Said, has_begun, losses_of, restarts_of}
use Rattle.script_text.specs.LineReaders.{
  create_line,
  update_line,
  edit_line,
  delete_line,
  get_line,
  list_line,
  time_line,
  pool_line,
  fault_line,
  import_line,
  lose_line,
  restart_line,
  turn_line,
  verb_from,
  verb_at,
  as_line,
  meaning_by,
  meaning_of,
}
use Rattle.script_print.specs.Printing.{line_pairs, line_data, pool_pairs, pool_data, fault_data, import_pairs, import_data}
use Rattle.script_laws.specs.Read.Given.{IsCount, IsNewCall, IsLineObject, IsUsersCall, IsActor, IsLineAfter}
use Rattle.script_laws.specs.Read.Limits.{IsShortObject, HasShortObject, LineHasShortObject}
use Rattle.script_laws.proofs.Read.MembersBack.{has, text_back, count_back, new_call_back, user_back, key_back, kind_alone_back, condition_back, object_at_back, actor_back, when_back, size_back}
use Rattle.script_laws.proofs.Read.EditsBack.{edit_line_pairs, edit_back, no_edits, edit_has}

-- ---- the verb

pub verb_back : (line : Data) (word : List ℕ) (verb : Verb) → at members.Do line ≡ text word → verb_named word ≡ Some verb → verb_at line ≡ Ok verb
verb_back line word verb e named = ap (λ r. r >>= λ w. verb_from (verb_named w)) (text_back members.Do line word e) ∙ ap verb_from named

pub meaning_back : (agents : List Pair) (said : Said) (line : Data) (word : List ℕ) (verb : Verb) → at members.Do line ≡ text word
    → verb_named word ≡ Some verb → meaning_of agents said line ≡ meaning_by verb agents said line
unfolding meaning_of
meaning_back agents said line word verb e named = ap (λ r. r >>= λ v. meaning_by v agents said line) (verb_back line word verb e named)

abbrev Means : List Pair → Said → Line → Type 0
Means agents said line = meaning_of agents said (line_data line) ≡ Ok (meanings.Line line)

-- ---- users' calls

abbrev pairs_of : ℕ → Request → MemberList
pairs_of user request = line_pairs (Call user request)

pub create_back : (line : Data) (user : ℕ) (o : Object) → object_at line ≡ Ok o → user_at line ≡ Ok user → create_line line ≡ Ok (Call user (asks.Create o))
unfolding create_line
create_back line user o a b = rw (a, b) refl

means_create : (agents : List Pair) (said : Said) (user : ℕ) (o : Object) → IsCount 4 user → IsUsersCall (asks.Create o) → IsShortObject o → Means agents said (Call user (asks.Create o))
unfolding line_data
means_create agents said user o u is short =
    let ps : MemberList = pairs_of user (asks.Create o) in
    let line : Data = object_of ps in
    meaning_back agents said line (codes "create") verbs.Create (has (codes "do") ps) refl
    ∙ ap as_line (create_back line user o (object_at_back line o is.given short (has (codes "object") ps)) (user_back line user u (has (codes "user") ps)))

means_update : (agents : List Pair) (said : Said) (user : ℕ) (o : Object) (version : Option ℕ) → IsCount 4 user → IsUsersCall (asks.Update o version)
    → IsShortObject o → Means agents said (Call user (asks.Update o version))
unfolding line_data update_line
means_update agents said user o version u is short =
    let ps : MemberList = pairs_of user (asks.Update o version) in
    let line : Data = object_of ps in
    meaning_back agents said line (codes "update") verbs.Update (has (codes "do") ps) refl
    ∙ rw (object_at_back line o is.0.given short (has (codes "object") ps), user_back line user u (has (codes "user") ps)) (ap (λ v. Ok (meanings.Line (Call user (asks.Update o v)))) (sym is.1))

means_edit : (agents : List Pair) (said : Said) (user : ℕ) (key : Key) (edit : Edit) → IsCount 4 user → IsUsersCall (asks.Edit key edit) → Means agents said (Call user (asks.Edit key edit))
unfolding line_data edit_line
means_edit agents said user key edit u is =
    let line : Data = object_of (edit_line_pairs key edit user) in
    let no = no_edits edit in
    meaning_back agents said line (codes "edit") verbs.Edit (edit_has (codes "do") key edit user no.verb) refl
    ∙ rw (
      key_back line key is (edit_has (codes "kind") key edit user no.kind) (edit_has (codes "name") key edit user no.name)
          (edit_has (codes "namespace") key edit user no.namespace),
      edit_back key edit user,
      user_back line user u (edit_has (codes "user") key edit user no.user),
    ) refl

means_delete : (agents : List Pair) (said : Said) (user : ℕ) (key : Key) (uid : Option Uid) → IsCount 4 user → IsUsersCall (asks.Delete key uid) → Means agents said (Call user (asks.Delete key uid))
unfolding line_data delete_line
means_delete agents said user key uid u is =
    let ps : MemberList = pairs_of user (asks.Delete key uid) in
    let line : Data = object_of ps in
    meaning_back agents said line (codes "delete") verbs.Delete (has (codes "do") ps) refl
    ∙ rw (
      key_back line key is.0 (has (codes "kind") ps) (has (codes "name") ps) (has (codes "namespace") ps),
      condition_back line uid is.1 (has (codes "uid") ps),
      user_back line user u (has (codes "user") ps),
    ) refl

means_get : (agents : List Pair) (said : Said) (user : ℕ) (key : Key) → IsCount 4 user → IsUsersCall (asks.Get key) → Means agents said (Call user (asks.Get key))
unfolding line_data get_line
means_get agents said user key u is =
    let ps : MemberList = pairs_of user (asks.Get key) in
    let line : Data = object_of ps in
    meaning_back agents said line (codes "get") verbs.Get (has (codes "do") ps) refl
    ∙ rw (key_back line key is (has (codes "kind") ps) (has (codes "name") ps) (has (codes "namespace") ps), user_back line user u (has (codes "user") ps)) refl

means_list : (agents : List Pair) (said : Said) (user : ℕ) (kind : Kind) (namespace : Option (List ℕ)) → IsCount 4 user
    → IsUsersCall (asks.List kind namespace) → Means agents said (Call user (asks.List kind namespace))
unfolding line_data list_line
means_list agents said user kind namespace u is =
    let ps : MemberList = pairs_of user (asks.List kind namespace) in
    let line : Data = object_of ps in
    meaning_back agents said line (codes "list") verbs.List (has (codes "do") ps) refl
    ∙ rw (kind_alone_back line kind (has (codes "kind") ps), user_back line user u (has (codes "user") ps)) (ap (λ n. Ok (meanings.Line (Call user (asks.List kind n)))) (sym is))

means_time : (agents : List Pair) (said : Said) (user : ℕ) (moment : List ℕ) → IsCount 4 user → Means agents said (Call user (asks.SetTime moment))
unfolding line_data time_line
means_time agents said user moment u =
    let ps : MemberList = pairs_of user (asks.SetTime moment) in
    let line : Data = object_of ps in
    meaning_back agents said line (codes "time") verbs.Time (has (codes "do") ps) refl
    ∙ rw (text_back members.At line moment (has (codes "at") ps), user_back line user u (has (codes "user") ps)) refl

means_call : (agents : List Pair) (said : Said) (user : ℕ) (request : Request) → IsCount 4 user → IsUsersCall request → HasShortObject request → Means agents said (Call user request)
means_call agents said user (asks.Create o) u is short = means_create agents said user o u is short
means_call agents said user (asks.Update o version) u is short = means_update agents said user o version u is short
means_call agents said user (asks.UpdateStatus key status version) u is short = absurd is
means_call agents said user (asks.Edit key edit) u is short = means_edit agents said user key edit u is
means_call agents said user (asks.Delete key uid) u is short = means_delete agents said user key uid u is
means_call agents said user (asks.Get key) u is short = means_get agents said user key u is
means_call agents said user (asks.List kind namespace) u is short = means_list agents said user kind namespace u is
means_call agents said user (asks.Watch kind from) u is short = absurd is
means_call agents said user (asks.BindPod key uid node) u is short = absurd is
means_call agents said user (asks.FinishPod key uid node epoch) u is short = absurd is
means_call agents said user (asks.Provision name provisioner bytes labels) u is short = absurd is
means_call agents said user (asks.Erase id) u is short = absurd is
means_call agents said user (asks.TakeNode node) u is short = absurd is
means_call agents said user (asks.Mounts node epoch) u is short = absurd is
means_call agents said user (asks.Mount node epoch pod claims) u is short = absurd is
means_call agents said user (asks.Unmount node epoch pod) u is short = absurd is
means_call agents said user (asks.SetTime moment) u is short = means_time agents said user moment u

-- ---- actors

means_lose : (agents : List Pair) (said : Said) (actor : Actor) (call : ℕ) (after : Bool) → IsActor agents actor
    → IsNewCall (losses_of (actor_word actor) said.lines) call → Means agents said (Lose actor call after)
unfolding line_data lose_line
means_lose agents said actor call after a is =
    let ps : MemberList = line_pairs (Lose actor call after) in
    let line : Data = object_of ps in
    meaning_back agents said line (codes "lose") verbs.Lose (has (codes "do") ps) refl
    ∙ rw (
      actor_back agents line actor a (has (codes "actor") ps),
      new_call_back members.Call (losses_of (actor_word actor) said.lines) line call is (has (codes "call") ps),
      when_back line after (has (codes "when") ps),
    ) refl

means_restart : (agents : List Pair) (said : Said) (actor : Actor) (after : ℕ) → IsActor agents actor
    → IsNewCall (restarts_of (actor_word actor) said.lines) after → Means agents said (Restart actor after)
unfolding line_data restart_line
means_restart agents said actor after a is =
    let ps : MemberList = line_pairs (Restart actor after) in
    let line : Data = object_of ps in
    meaning_back agents said line (codes "restart") verbs.Restart (has (codes "do") ps) refl
    ∙ rw (actor_back agents line actor a (has (codes "actor") ps), new_call_back members.After (restarts_of (actor_word actor) said.lines) line after is (has (codes "after") ps)) refl

means_turn : (agents : List Pair) (said : Said) (actor : Actor) (calls : ℕ) → IsActor agents actor → IsCount most_turn calls → Means agents said (Turn actor calls)
unfolding line_data turn_line
means_turn agents said actor calls a is =
    let ps : MemberList = line_pairs (Turn actor calls) in
    let line : Data = object_of ps in
    meaning_back agents said line (codes "turn") verbs.Turn (has (codes "do") ps) refl
    ∙ rw (actor_back agents line actor a (has (codes "actor") ps), count_back members.Calls most_turn line calls is (has (codes "calls") ps)) refl

means_drain : (agents : List Pair) (said : Said) → Means agents said Drain
unfolding line_data
means_drain agents said = meaning_back agents said (object_of (line_pairs Drain)) (codes "drain") verbs.Drain (has (codes "do") (line_pairs Drain)) refl

-- the JSON of a line that a text can give means the line
pub line_means : (agents : List Pair) (said : Said) (line : Line) → IsLineAfter agents said.lines line → LineHasShortObject line → Means agents said line
line_means agents said (Call user request) is short = means_call agents said user request is.0 is.1 short
line_means agents said (Lose actor call after) is short = means_lose agents said actor call after is.0 is.1
line_means agents said (Restart actor after) is short = means_restart agents said actor after is.0 is.1
line_means agents said (Turn actor calls) is short = means_turn agents said actor calls is.0 is.1
line_means agents said Drain is short = means_drain agents said

-- ---- what is there from the start

topology_back : (pool : Pool) (size : List ℕ) → topology_at (object_of (pool_pairs pool size)) ≡ Ok pool.topology
topology_back pool size = by pool.topology
  where
    by : (t : Option (List ℕ × List ℕ)) → topology_at (object_of (pool_pairs (record pool { topology = t }) size)) ≡ Ok t
    by None = let ps : MemberList = pool_pairs (record pool { topology = None }) size in rw (has (codes "label") ps, has (codes "value") ps) refl
    by (Some t) = let ps : MemberList = pool_pairs (record pool { topology = Some t }) size in rw (has (codes "label") ps, has (codes "value") ps) refl

-- a name that a topology does not have
pub no_topology : (k : List ℕ) (t : Option (List ℕ × List ℕ)) (o : Option Data) → ((u : List ℕ × List ℕ) → pick k (topology_pairs (Some u)) o ≡ o) → pick k (topology_pairs t) o ≡ o
no_topology k None o h = refl
no_topology k (Some u) o h = h u

pub pool_means : (agents : List Pair) (said : Said) (pool : Pool) (size : List ℕ) → amount_of size ≡ Ok pool.bytes → meaning_of agents said (pool_data pool size) ≡ Ok (meanings.Pool pool size)
unfolding pool_data pool_line
pool_means agents said pool size is =
    let ps : MemberList = pool_pairs pool size in
    let line : Data = object_of ps in
    let t = pool.topology in
    meaning_back agents said line (codes "pool") verbs.Pool (has (codes "do") ps ∙ no_topology (codes "do") t _ (λ u. refl)) refl
    ∙ rw (
      text_back (members.Of manifests.Name) line pool.name (has (codes "name") ps ∙ no_topology (codes "name") t _ (λ u. refl)),
      text_back (members.Of manifests.Provisioner) line pool.provisioner
          (has (codes "provisioner") ps ∙ no_topology (codes "provisioner") t _ (λ u. refl)),
      size_back line size pool.bytes is (has (codes "bytes") ps ∙ no_topology (codes "bytes") t _ (λ u. refl)),
      topology_back pool size,
    ) refl

pub fault_means : (agents : List Pair) (said : Said) (call : ℕ) → IsNewCall said.faults call → meaning_of agents said (fault_data call) ≡ Ok (meanings.Fault call)
unfolding fault_data fault_line
fault_means agents said call is =
    let ps : MemberList = (codes "call", whole call) ∷ (codes "do", text (codes "fault")) ∷ [] in
    let line : Data = object_of ps in
    meaning_back agents said line (codes "fault") verbs.Fault (has (codes "do") ps) refl
    ∙ rw (new_call_back members.Call said.faults line call is (has (codes "call") ps)) refl

pub import_means : (agents : List Pair) (said : Said) (o : Object) → IsLineObject o → IsShortObject o → has_begun said.lines ≡ false
    → import_fault said.imports o ≡ None → meaning_of agents said (import_data o) ≡ Ok (meanings.Import o)
unfolding import_data import_line
import_means agents said o is short early passes =
    let ps : MemberList = import_pairs o in
    let line : Data = object_of ps in
    meaning_back agents said line (codes "import") verbs.Import (has (codes "do") ps) refl
    ∙ rw (object_at_back line o is.given short (has (codes "object") ps), early, passes) refl
