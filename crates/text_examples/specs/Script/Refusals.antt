-- Why lines are refused: each reason, and which comes first where several apply.
-- A choice of this project: the script format, and its limits.
use Rattle.std.specs.Prelude.{◌≡◌, ℕ, List, [], ◌∷◌, Some, None, Ok, codes, false}
use Rattle.kube_parts.specs.Uids.{uid_of_serial}
use Rattle.kube_parts.specs.declared.names.Field.TheVariants as fields
use Rattle.kube_objects.specs.declared.objects.Object.{Object}
use Rattle.kube_objects.specs.declared.objects.Object.TheVariants as objects
use Rattle.object_text.specs.declared.errors.Member.TheVariants as manifests
use Rattle.binder_model.specs.Imports.{import_fault}
use Rattle.script_lines.specs.declared.line_member.LineMember.TheVariants as members
use Rattle.script_lines.specs.declared.errors.Reason.TheVariants as reasons
use Rattle.script_lines.specs.Refusals.{refusal_line}
use Rattle.script_lines.specs.declared.actors.WorkerKind.TheVariants.{Binder}
use Rattle.script_lines.specs.declared.actors.WorkerNumber.TheVariants.{One}
use Rattle.script_text.specs.declared.script.Line.TheVariants.{Lose, Restart, Drain}
use Rattle.script_text.specs.declared.script.Meaning.TheVariants as meanings
use Rattle.script_text.specs.Said.{Said, nothing_said}
use Rattle.script_text.specs.LineReaders.{unless_fault}
use Rattle.script_text.specs.Grammar.{script_of}
use Rattle.text_examples.specs.Script.Samples.{means, means_after, IsLine, refuses, worker, at_fault}

-- ---- the reasons of one line

pub record ReasonExamples : Type 0 where
  pub no_json : means (codes "{\"do\"") ≡ refuses reasons.NotJson
  pub no_object : means (codes "[]") ≡ refuses reasons.NotObject
  pub no_verb : means (codes "{}") ≡ refuses (reasons.Missing members.Do)
  pub null_is_no_verb : means (codes "{\"do\":null}") ≡ refuses (reasons.Missing members.Do)
  pub verb_of_another_type : means (codes "{\"do\":5}") ≡ refuses (reasons.WrongType members.Do)
  pub another_verb : means (codes "{\"do\":\"run\"}") ≡ refuses reasons.UnknownDo
  pub object_that_is_a_text : means (codes "{\"do\":\"create\",\"object\":\"n\"}") ≡ refuses (reasons.WrongType members.Object)
  pub object_with_a_part_of_a_number : means
      (codes "{\"do\":\"create\",\"object\":{\"apiVersion\":\"v1\",\"kind\":\"Node\",\"metadata\":{\"name\":\"n\"},\"spec\":{\"x\":1.5}}}") ≡ refuses reasons.NotWhole
  pub manifest_of_another_kind : means (codes "{\"do\":\"create\",\"object\":{\"apiVersion\":\"v1\",\"kind\":\"Secret\"}}") ≡ refuses reasons.UnknownKind
  pub manifest_without_a_size : means (codes
      "{\"do\":\"create\",\"object\":{\"apiVersion\":\"v1\",\"kind\":\"PersistentVolume\",\"metadata\":{\"name\":\"a\"},\"spec\":{\"capacity\":{\"storage\":\"5x\"}}}}") ≡ refuses
      (reasons.BadQuantity (members.Of manifests.Storage))
  pub manifest_without_a_name : means (codes "{\"do\":\"create\",\"object\":{\"apiVersion\":\"v1\",\"kind\":\"Node\",\"metadata\":{}}}") ≡ refuses (reasons.Missing (members.Of manifests.Name))

-- ---- the first that applies

pub record OrderExamples : Type 0 where
  pub the_last_of_two_verbs_counts : means (codes "{\"do\":\"run\",\"do\":\"drain\"}") ≡ IsLine Drain
  pub kind_before_namespace : means (codes "{\"do\":\"get\",\"kind\":\"Secret\",\"namespace\":5,\"name\":5,\"user\":5}") ≡ refuses reasons.UnknownKind
  pub namespace_before_name : means (codes "{\"do\":\"get\",\"kind\":\"Pod\",\"namespace\":5,\"name\":5,\"user\":5}") ≡ refuses (reasons.WrongType (members.Of manifests.Namespace))
  pub name_before_user : means (codes "{\"do\":\"get\",\"kind\":\"Pod\",\"name\":5,\"user\":5}") ≡ refuses (reasons.WrongType (members.Of manifests.Name))
  pub actor_before_call : means (codes "{\"do\":\"lose\",\"actor\":\"x\",\"call\":0,\"when\":\"x\"}") ≡ refuses (reasons.BadValue members.Actor)
  pub call_before_when : means (codes "{\"do\":\"lose\",\"actor\":\"binder-1\",\"call\":0,\"when\":\"x\"}") ≡ refuses (reasons.BadValue members.Call)

-- ---- numbers that were given before

abbrev pub third_is_lost : Said
third_is_lost = record nothing_said { lines = Lose (worker Binder One) 3 false ∷ []; numbers = 1 ∷ [] }

abbrev pub third_fails : Said
third_fails = record nothing_said { faults = 3 ∷ [] }

pub record AgainExamples : Type 0 where
  pub no_fault_twice : means_after third_fails (codes "{\"do\":\"fault\",\"call\":3}") ≡ refuses (reasons.BadValue members.Call)
  pub another_fault : means_after third_fails (codes "{\"do\":\"fault\",\"call\":2}") ≡ Ok (meanings.Fault 2)
  pub no_call_is_lost_twice : means_after third_is_lost (codes "{\"do\":\"lose\",\"actor\":\"binder-1\",\"call\":3,\"when\":\"after\"}") ≡ refuses (reasons.BadValue members.Call)
  pub a_restart_has_its_own_numbers : means_after third_is_lost (codes "{\"do\":\"restart\",\"actor\":\"binder-1\",\"after\":3}") ≡ IsLine (Restart (worker Binder One) 3)

-- ---- objects of an older store

-- an import of the node `n` without a UID
abbrev pub imports_n : List ℕ
imports_n = codes "{\"do\":\"import\",\"object\":{\"apiVersion\":\"v1\",\"kind\":\"Node\",\"metadata\":{\"name\":\"n\"}}}"

abbrev pub node_nine : Object
node_nine = objects.Node (record
    { meta = record { namespace = []; name = codes "n"; uid = Some (uid_of_serial 9); version = 0; created = []; deleted = None; labels = []; annotations = []; finalizers = [] }; extra = [] })

-- a drain came before
abbrev pub drained : Said
drained = record nothing_said { lines = Drain ∷ []; numbers = 1 ∷ [] }

pub record ImportExamples : Type 0 where
  pub none_without_a_uid : means imports_n ≡ refuses (reasons.Missing (members.Of manifests.Uid))
  pub lost_calls_may_come_before : means_after third_is_lost imports_n ≡ refuses (reasons.Missing (members.Of manifests.Uid))
  pub no_call_comes_before : means_after drained imports_n ≡ refuses (reasons.BadValue members.Do)
  pub members_come_first : means_after drained (codes "{\"do\":\"import\"}") ≡ refuses (reasons.Missing members.Object)
  pub passes : unless_fault (import_fault [] node_nine) node_nine ≡ Ok (meanings.Import node_nine)
  pub the_name_comes_before_the_uid : unless_fault (import_fault (node_nine ∷ []) node_nine) node_nine ≡ refuses (reasons.BadValue (members.Of manifests.Name))

-- ---- the line that is at fault

pub record PlaceExamples : Type 0 where
  pub blank_lines_count : script_of (codes "{\"do\":\"drain\"}\n \t\n\nx") ≡ at_fault 4 reasons.NotJson
  pub the_first_line_at_fault : script_of (codes "{}\nx\n") ≡ at_fault 1 (reasons.Missing members.Do)

-- ---- what is printed for a line at fault

pub record PrintedExamples : Type 0 where
  pub with_its_member : refusal_line (record { line = 12; reason = reasons.BadValue members.User }) ≡ codes "line 12: BadValue user"
  pub with_none : refusal_line (record { line = 4097; reason = reasons.TooManyLines }) ≡ codes "line 4097: TooManyLines"
  pub with_a_field : refusal_line (record { line = 2; reason = reasons.BadValue (members.Field fields.Name) }) ≡ codes "line 2: BadValue Name"
  pub with_that_of_the_manifest : refusal_line (record { line = 1; reason = reasons.Missing (members.Of manifests.Source) }) ≡ codes "line 1: Missing source"
