-- What passes a limit, beside what just does not.
-- A choice of this project: the script format, and its limits.
use Rattle.std.specs.Prelude.{◌≡◌, ℕ, zero, suc, List, [], ◌∷◌, Option, Some, None, Ok, Err, codes, false}
use Rattle.kube_objects.specs.declared.objects.Object.{Object}
use Rattle.kube_objects.specs.declared.objects.Object.TheVariants as objects
use Rattle.call_types.specs.declared.request.Request.TheVariants.{Create, Get}
use Rattle.call_types.specs.declared.setup.Pool.{Pool}
use Rattle.kube_parts.specs.declared.parts.Kind.TheVariants as kinds
use Rattle.script_lines.specs.declared.errors.Reason.{Reason}
use Rattle.script_lines.specs.declared.errors.Reason.TheVariants.{TooLong, TooManyLines, TooManyObjects, TooManyNodes, TooManyPools, TooManyFaults, TooManyRestarts, TooManyLosses, TooManyTurns}
use Rattle.script_lines.specs.declared.actors.WorkerKind.TheVariants.{Binder, Ops}
use Rattle.script_lines.specs.declared.actors.WorkerNumber.TheVariants.{One}
use Rattle.script_text.specs.declared.script.Line.{Line}
use Rattle.script_text.specs.declared.script.Line.TheVariants.{Call, Lose, Restart, Turn, Drain}
use Rattle.script_text.specs.declared.script.Meaning.TheVariants as meanings
use Rattle.script_text.specs.Said.{nothing_said, and_said}
use Rattle.script_text.specs.Grammar.{limit_of, line_limit, and_line}
use Rattle.text_examples.specs.Script.Samples.{worker, node_n, key_of}

abbrev pub times : {X : Type 0} → ℕ → X → List X
times zero x = []
times (suc n) x = x ∷ times n x

abbrev pub pool_p : Pool
pool_p = record { name = codes "p"; provisioner = codes "x"; bytes = 5; topology = None }

abbrev pub node_named : List ℕ → Object
node_named name = objects.Node (record
    { meta = record { namespace = []; name = name; uid = None; version = 0; created = []; deleted = None; labels = []; annotations = []; finalizers = [] }; extra = [] })

abbrev pub creates_node : List ℕ → Line
creates_node name = Call 1 (Create (node_named name))

abbrev pub eight_nodes : List Line
eight_nodes = creates_node (codes "1") ∷ creates_node (codes "2") ∷ creates_node (codes "3") ∷ creates_node (codes "4") ∷ creates_node
    (codes "5") ∷ creates_node (codes "6") ∷ creates_node (codes "7") ∷ creates_node (codes "8") ∷ []

abbrev pub lost : Line
lost = Lose (worker Binder One) 3 false

abbrev pub restarted : Line
restarted = Restart (worker Binder One) 3

abbrev pub long_turn : Line
long_turn = Turn (worker Binder One) 1000

-- the last of these lines passes this limit, or none
abbrev pub Passes : Line → List Line → Option Reason → Type 0
Passes line before limit = line_limit [] (line ∷ before) line ≡ limit

-- the last of these imports passes this limit, or none; no line came before
abbrev pub ImportPasses : Object → List Object → Option Reason → Type 0
ImportPasses object before limit = limit_of (record nothing_said { imports = object ∷ before }) (meanings.Import object) ≡ limit

abbrev pub pod_on : List ℕ → Object
pod_on node = objects.Pod (record {
  meta = record {
    namespace = codes "default";
    name = codes "p";
    uid = None;
    version = 0;
    created = [];
    deleted = None;
    labels =
        [];
    annotations = [];
    finalizers = [];
  };
  claims = [];
  node = node;
  extra = [];
})

-- pods that are scheduled on eight nodes
abbrev pub eight_pods : List Object
eight_pods = pod_on (codes "1") ∷ pod_on (codes "2") ∷ pod_on (codes "3") ∷ pod_on (codes "4") ∷ pod_on (codes "5") ∷ pod_on (codes "6") ∷ pod_on (codes "7") ∷ pod_on (codes "8") ∷ []

pub record LimitExamples : Type 0 where
  pub pools : limit_of (record nothing_said { pools = times 64 pool_p }) (meanings.Pool pool_p (codes "5")) ≡ None
  pub too_many_pools : limit_of (record nothing_said { pools = times 65 pool_p }) (meanings.Pool pool_p (codes "5")) ≡ Some TooManyPools
  pub faults : limit_of (record nothing_said { faults = times 256 3 }) (meanings.Fault 3) ≡ None
  pub too_many_faults : limit_of (record nothing_said { faults = times 257 3 }) (meanings.Fault 3) ≡ Some TooManyFaults
  pub nodes : Passes (creates_node (codes "8")) eight_nodes None
  pub too_many_nodes : Passes (creates_node (codes "9")) eight_nodes (Some TooManyNodes)
  pub objects : Passes (Call 1 (Create node_n)) (times 1023 (Call 1 (Create node_n))) None
  pub too_many_objects : Passes (Call 1 (Create node_n)) (times 1024 (Call 1 (Create node_n))) (Some TooManyObjects)
  pub a_get_is_no_object : Passes (Call 1 (Get (key_of kinds.Node [] (codes "n")))) (times 1025 (Call 1 (Create node_n))) None
  pub imports : ImportPasses node_n (times 1023 node_n) None
  pub too_many_imports : ImportPasses node_n (times 1024 node_n) (Some TooManyObjects)
  pub a_create_after_imports : line_limit (times 1023 node_n) (Call 1 (Create node_n) ∷ []) (Call 1 (Create node_n)) ≡ None
  pub a_create_after_too_many : line_limit (times 1024 node_n) (Call 1 (Create node_n) ∷ []) (Call 1 (Create node_n)) ≡ Some TooManyObjects
  pub a_node_of_an_imported_pod : ImportPasses (node_named (codes "8")) eight_pods None
  pub too_many_nodes_of_imports : ImportPasses (node_named (codes "9")) eight_pods (Some TooManyNodes)
  pub a_pod_on_no_node : ImportPasses (pod_on []) eight_pods None
  pub a_created_pod_counts_for_no_node : line_limit eight_pods (Call 1 (Create (pod_on (codes "9"))) ∷ []) (Call 1 (Create (pod_on (codes "9")))) ≡ None
  pub too_many_nodes_with_a_created_one : line_limit eight_pods (creates_node (codes "9") ∷ []) (creates_node (codes "9")) ≡ Some TooManyNodes
  pub losses : Passes lost (times 63 lost) None
  pub too_many_losses : Passes lost (times 64 lost) (Some TooManyLosses)
  pub losses_of_another_actor : Passes (Lose (worker Ops One) 3 false) (times 64 lost) None
  pub restarts : Passes restarted (times 2 restarted) None
  pub too_many_restarts : Passes restarted (times 3 restarted) (Some TooManyRestarts)
  pub turns : Passes long_turn (times 27 long_turn) None
  pub too_many_turns : Passes (Turn (worker Ops One) 1) (times 28 long_turn) (Some TooManyTurns)
  pub the_last_line : and_line [] nothing_said 4096 (codes "{\"do\":\"drain\"}") ≡ Ok (and_said nothing_said 4096 (meanings.Line Drain))
  pub too_many_lines : and_line [] nothing_said 4097 (codes "{\"do\":\"drain\"}") ≡ Err TooManyLines
  pub a_later_blank_line : and_line [] nothing_said 4097 (codes " ") ≡ Ok nothing_said
  pub long_line : and_line [] nothing_said 1 (times 16384 32) ≡ Ok nothing_said
  pub too_long_line : and_line [] nothing_said 1 (times 16385 32) ≡ Err TooLong
