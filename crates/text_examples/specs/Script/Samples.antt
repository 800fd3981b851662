-- Lines and texts that the examples share, and what they are asked.
-- A choice of this project: the script format.
use Rattle.std.specs.Prelude.{ℕ, List, [], None, Ok, Err, codes}
use Rattle.std.specs.declared.result.Result.{Result}
use Rattle.kube_parts.specs.declared.parts.Kind.{Kind}
use Rattle.kube_objects.specs.declared.key.Key.{Key}
use Rattle.kube_objects.specs.declared.objects.Object.{Object}
use Rattle.kube_objects.specs.declared.objects.Object.TheVariants as objects
use Rattle.script_lines.specs.declared.errors.Reason.{Reason}
use Rattle.script_lines.specs.declared.errors.BadLine.{BadLine}
use Rattle.script_lines.specs.declared.actors.Actor.{Actor}
use Rattle.script_lines.specs.declared.actors.Actor.TheVariants as actors
use Rattle.script_lines.specs.declared.actors.WorkerKind.{WorkerKind}
use Rattle.script_lines.specs.declared.actors.WorkerNumber.{WorkerNumber}
use Rattle.script_lines.specs.Actors.{with_node}
use Rattle.script_lines.specs.Answers.{◌>>=◌}
use Rattle.script_text.specs.declared.script.Line.{Line}
use Rattle.script_text.specs.declared.script.Meaning.{Meaning}
use Rattle.script_text.specs.declared.script.Meaning.TheVariants as meanings
use Rattle.script_text.specs.declared.script.Script.{Script}
use Rattle.script_text.specs.Said.{Said, nothing_said}
use Rattle.script_text.specs.LineReaders.{meaning_of}
use Rattle.script_text.specs.Grammar.{line_value}

-- what a line means after what was said before, in a text that creates the node `n`
abbrev pub means_after : Said → List ℕ → Result Meaning Reason
means_after said text = line_value text >>= λ d. meaning_of (with_node (codes "n") []) said d

abbrev pub means : List ℕ → Result Meaning Reason
means text = means_after nothing_said text

-- such a line of the script
abbrev pub IsLine : Line → Result Meaning Reason
IsLine line = Ok (meanings.Line line)

abbrev pub refuses : Reason → Result Meaning Reason
refuses reason = Err reason

abbrev pub key_of : Kind → List ℕ → List ℕ → Key
key_of kind namespace name = record { kind = kind; namespace = namespace; name = name }

abbrev pub worker : WorkerKind → WorkerNumber → Actor
worker kind number = actors.Worker (record { kind = kind; number = number })

-- a node without more
abbrev pub node_n : Object
node_n = objects.Node (record { meta = record { namespace = []; name = codes "n"; uid = None; version = 0; created = []; deleted = None; labels = []; annotations = []; finalizers = [] }; extra = [] })

-- the same, at version 7
abbrev pub node_at_seven : Object
node_at_seven = objects.Node (record
    { meta = record { namespace = []; name = codes "n"; uid = None; version = 7; created = []; deleted = None; labels = []; annotations = []; finalizers = [] }; extra = [] })

-- a text is refused at this line for this reason
abbrev pub at_fault : ℕ → Reason → Result Script BadLine
at_fault n reason = Err (record { line = n; reason = reason })
