-- Lines that a text can give.
-- A choice of this project: the script format.
use Rattle.std.specs.Prelude.{◌≡◌, ℕ, ◌≤◌, ◌&&◌, nat_le, List, true, false, Some, None, IfSome, ⊤}
use Rattle.plain_data.specs.Pairs.{Pair}
use Rattle.serde_json.specs.Data.{depth}
use Rattle.kube_objects.specs.declared.key.Key.{Key}
use Rattle.kube_objects.specs.declared.objects.Object.{Object}
use Rattle.call_types.specs.declared.request.Request.{Request}
use Rattle.call_types.specs.declared.request.Request.TheVariants as asks
use Rattle.object_print.specs.Objects.{object_data}
use Rattle.object_laws.specs.Given.{IsGivenObject, IsNamespace, IsUid}
use Rattle.script_lines.specs.declared.actors.Actor.{Actor}
use Rattle.script_lines.specs.Actors.{actor_word, actor_named}
use Rattle.script_lines.specs.Members.{is_given, is_namespaced, most_call, most_turn}
use Rattle.script_text.specs.declared.script.Line.{Line}
use Rattle.script_text.specs.declared.script.Line.TheVariants.{Call, Lose, Restart, Turn, Drain}
use Rattle.script_text.specs.LineReaders.{condition_of}
use Rattle.script_text.specs.Said.{losses_of, restarts_of}

-- a whole number from 1 to the greatest
abbrev pub IsCount : ℕ → ℕ → Type 0
IsCount most n = (nat_le 1 n && nat_le n most) ≡ true

-- the number of a call that is none of those given before
pub record IsNewCall (given : List ℕ) (n : ℕ) : Type 0 where
  pub counted : IsCount most_call n
  pub fresh : is_given n given ≡ false

-- an object of a kind without namespaces is named without one
abbrev pub IsLineKey : Key → Type 0
IsLineKey k = IsNamespace (is_namespaced k.kind) k.namespace

-- an object that a line can give: in the line it stands one level deeper than in a manifest
pub record IsLineObject (o : Object) : Type 0 where
  pub given : IsGivenObject o
  pub levels : depth (object_data o) ≤ 126

-- the calls that a user has a line for
abbrev pub IsUsersCall : Request → Type 0
IsUsersCall (asks.Create object) = IsLineObject object
IsUsersCall (asks.Update object version) = IsLineObject object × (version ≡ condition_of object)
IsUsersCall (asks.UpdateStatus key status version) = ⊥
IsUsersCall (asks.Edit key edit) = IsLineKey key
IsUsersCall (asks.Delete key uid) = IsLineKey key × IfSome uid IsUid
IsUsersCall (asks.Get key) = IsLineKey key
IsUsersCall (asks.List kind namespace) = namespace ≡ None
IsUsersCall (asks.Watch kind from) = ⊥
IsUsersCall (asks.BindPod key uid node) = ⊥
IsUsersCall (asks.FinishPod key uid node epoch) = ⊥
IsUsersCall (asks.Provision name provisioner bytes labels) = ⊥
IsUsersCall (asks.Erase id) = ⊥
IsUsersCall (asks.TakeNode node) = ⊥
IsUsersCall (asks.Mounts node epoch) = ⊥
IsUsersCall (asks.Mount node epoch pod claims) = ⊥
IsUsersCall (asks.Unmount node epoch pod) = ⊥
IsUsersCall (asks.SetTime at) = ⊤

-- one that its name names among these agents
abbrev pub IsActor : List Pair → Actor → Type 0
IsActor agents actor = actor_named agents (actor_word actor) ≡ Some actor

-- a line that a text with these agents can give after these lines
abbrev pub IsLineAfter : List Pair → List Line → Line → Type 0
IsLineAfter agents before (Call user request) = IsCount 4 user × IsUsersCall request
IsLineAfter agents before (Lose actor call after) = IsActor agents actor × IsNewCall (losses_of (actor_word actor) before) call
IsLineAfter agents before (Restart actor after) = IsActor agents actor × IsNewCall (restarts_of (actor_word actor) before) after
IsLineAfter agents before (Turn actor calls) = IsActor agents actor × IsCount most_turn calls
IsLineAfter agents before Drain = ⊤
