-- A printed line is canonical, and nests one level deeper than its object.
use Rattle.std.proofs.Common.{ℕ, ◌<◌, ◌^◌, ◌==◌, List, [], ◌∷◌, Bool, true, false, if◌then◌else◌, None, option_map, codes, arith}
use Rattle.serde_json.specs.Data.{string}
use Rattle.json_text.specs.Build.{number_data, Good, GoodOption, GoodPairs}
use Rattle.json_text.specs.Members.{text, whole}
use Rattle.json_text.proofs.Good.{good_append, good_number, good_object_of, good_string}
use Rattle.plain_data.specs.Pairs.{Pair}
use Rattle.kube_objects.specs.declared.key.Key.{Key}
use Rattle.kube_objects.specs.declared.objects.Object.{Object}
use Rattle.call_types.specs.declared.request.Request.{Request}
use Rattle.call_types.specs.declared.request.Request.TheVariants as asks
use Rattle.call_types.specs.declared.setup.Pool.{Pool}
use Rattle.object_print.specs.Metadata.{uid_data}
use Rattle.object_print.specs.Objects.{object_data}
use Rattle.object_laws.proofs.Canonical.{object_good}
use Rattle.object_laws.proofs.CanonicalParts.{good_option, good_some_uid}
use Rattle.history_text.specs.Requests.{edit_pairs}
use Rattle.history_text.proofs.GoodPairs.{good_edit, good_topology}
use Rattle.script_lines.specs.Members.{is_namespaced, most_call, most_turn}
use Rattle.script_text.specs.declared.script.Line.{Line}
use Rattle.script_text.specs.declared.script.Line.TheVariants.{Call, Lose, Restart, Turn, Drain}
use Rattle.script_print.specs.Printing.{user_pairs, line_key_pairs, call_pairs, line_pairs, line_data, pool_pairs, pool_data, fault_data, import_pairs, import_data}
use Rattle.script_laws.specs.Read.Given.{IsCount, IsLineObject, IsUsersCall, IsLineAfter}
use Rattle.script_laws.proofs.Read.Lengths.{count_small}

-- ---- members

good_count : {n : ℕ} (most k : ℕ) → most < 2 ^ 64 → IsCount most k → Good n (number_data k)
good_count most k small is = let le = count_small most k is in good_number k (omega arith)

good_user : (n user : ℕ) → IsCount 4 user → GoodPairs n (user_pairs user)
good_user n user is = (by (user == 1), tt)
  where
    by : (b : Bool) → GoodOption n (if b then None else whole user)
    by true = tt
    by false = good_count 4 user (omega arith) is

good_namespace : (n : ℕ) (b : Bool) (s : List ℕ) → GoodOption n (if b then text s else None)
good_namespace n true s = good_string
good_namespace n false s = tt

good_key : (n : ℕ) (k : Key) → GoodPairs n (line_key_pairs k)
good_key n k = (good_string, (good_string, (good_namespace n (is_namespaced k.kind) k.namespace, tt)))

-- ---- lines

good_one : (o : Object) → IsLineObject o → Good 126 (object_data o)
good_one o is = record { canonical = (object_good o is.given).canonical; shallow = is.levels }

good_call : (request : Request) → IsUsersCall request → GoodPairs 126 (call_pairs request)
good_call (asks.Create o) is = (good_one o is, tt)
good_call (asks.Update o version) is = (good_one o is.0, tt)
good_call (asks.UpdateStatus key status version) is = absurd is
good_call (asks.Edit key edit) is = good_append 126 (line_key_pairs key) (edit_pairs edit) (good_key 126 key) (good_edit 125 edit)
good_call (asks.Delete key uid) is = good_append 126 (line_key_pairs key) ((codes "uid", option_map uid_data uid) ∷ []) (good_key 126 key) (good_some_uid 126 uid, tt)
good_call (asks.Get key) is = good_key 126 key
good_call (asks.List kind namespace) is = (good_string, (good_option 126 string namespace (λ s. good_string), tt))
good_call (asks.Watch kind from) is = absurd is
good_call (asks.BindPod key uid node) is = absurd is
good_call (asks.FinishPod key uid node epoch) is = absurd is
good_call (asks.Provision name provisioner bytes labels) is = absurd is
good_call (asks.Erase id) is = absurd is
good_call (asks.TakeNode node) is = absurd is
good_call (asks.Mounts node epoch) is = absurd is
good_call (asks.Mount node epoch pod claims) is = absurd is
good_call (asks.Unmount node epoch pod) is = absurd is
good_call (asks.SetTime moment) is = (good_string, tt)

pub line_good : (agents : List Pair) (before : List Line) (line : Line) → IsLineAfter agents before line → Good 127 (line_data line)
unfolding line_data
line_good agents before (Call user request) is =
    good_object_of 126 (line_pairs (Call user request)) (good_string, good_append 126 (call_pairs request) (user_pairs user) (good_call request is.1) (good_user 126 user is.0))
line_good agents before (Lose actor call after) is =
    good_object_of 126 (line_pairs (Lose actor call after)) (good_string, (good_string, (good_count most_call call (omega arith) is.1.counted, (good_string, tt))))
line_good agents before (Restart actor after) is = good_object_of 126 (line_pairs (Restart actor after)) (good_string, (good_string, (good_count most_call after (omega arith) is.1.counted, tt)))
line_good agents before (Turn actor calls) is = good_object_of 126 (line_pairs (Turn actor calls)) (good_string, (good_string, (good_count most_turn calls (omega arith) is.1, tt)))
line_good agents before Drain is = good_object_of 126 (line_pairs Drain) (good_string, tt)

pub pool_good : (pool : Pool) (size : List ℕ) → Good 127 (pool_data pool size)
unfolding pool_data
pool_good pool size = good_object_of 126 (pool_pairs pool size) (good_string, (good_string, (good_string, (good_string, good_topology 126 pool.topology))))

pub fault_good : (call : ℕ) → IsCount most_call call → Good 127 (fault_data call)
unfolding fault_data
fault_good call is = good_object_of 126 ((codes "call", whole call) ∷ (codes "do", text (codes "fault")) ∷ []) (good_count most_call call (omega arith) is, (good_string, tt))

pub import_good : (o : Object) → IsLineObject o → Good 127 (import_data o)
unfolding import_data
import_good o is = good_object_of 126 (import_pairs o) (good_string, (good_one o is, tt))
