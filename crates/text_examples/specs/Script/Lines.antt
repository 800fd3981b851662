-- What each kind of line means, beside lines that do not mean it.
-- A choice of this project: the script format.
use Rattle.std.specs.Prelude.{◌≡◌, [], Some, None, Ok, codes, true, false}
use Rattle.kube_parts.specs.declared.parts.Kind.TheVariants as kinds
use Rattle.kube_parts.specs.declared.parts.Policy.TheVariants as policies
use Rattle.call_types.specs.declared.edit.Edit.TheVariants as edits
use Rattle.call_types.specs.declared.request.Request.TheVariants.{Create, Update, Edit, Delete, Get, List as ListAll, SetTime}
use Rattle.object_text.specs.declared.errors.Member.TheVariants as manifests
use Rattle.script_lines.specs.declared.line_member.LineMember.TheVariants as members
use Rattle.script_lines.specs.declared.errors.Reason.TheVariants as reasons
use Rattle.script_lines.specs.declared.actors.Actor.TheVariants.{Agent}
use Rattle.script_lines.specs.declared.actors.WorkerKind.TheVariants.{Binder, Claims}
use Rattle.script_lines.specs.declared.actors.WorkerNumber.TheVariants.{One, Four}
use Rattle.script_text.specs.declared.script.Line.TheVariants.{Call, Lose, Restart, Turn, Drain}
use Rattle.script_text.specs.declared.script.Meaning.TheVariants as meanings
use Rattle.text_examples.specs.Script.Samples.{means, IsLine, refuses, key_of, worker, node_n, node_at_seven}

-- ---- users' calls

pub record CallExamples : Type 0 where
  pub creates : means (codes "{\"do\":\"create\",\"object\":{\"apiVersion\":\"v1\",\"kind\":\"Node\",\"metadata\":{\"name\":\"n\"}}}") ≡ IsLine (Call 1 (Create node_n))
  pub creates_as_user_four : means (codes "{\"do\":\"create\",\"user\":4,\"object\":{\"apiVersion\":\"v1\",\"kind\":\"Node\",\"metadata\":{\"name\":\"n\"}}}") ≡ IsLine (Call 4 (Create node_n))
  pub no_fifth_user : means (codes "{\"do\":\"create\",\"user\":5,\"object\":{\"apiVersion\":\"v1\",\"kind\":\"Node\",\"metadata\":{\"name\":\"n\"}}}") ≡ refuses (reasons.BadValue members.User)
  pub no_user_zero : means (codes "{\"do\":\"get\",\"kind\":\"Node\",\"name\":\"n\",\"user\":0}") ≡ refuses (reasons.BadValue members.User)
  pub updates_whatever_stands : means (codes
      "{\"do\":\"update\",\"object\":{\"apiVersion\":\"v1\",\"kind\":\"Node\",\"metadata\":{\"name\":\"n\",\"resourceVersion\":\"0\"}}}") ≡ IsLine (Call 1 (Update node_n None))
  pub updates_one_version : means (codes
      "{\"do\":\"update\",\"object\":{\"apiVersion\":\"v1\",\"kind\":\"Node\",\"metadata\":{\"name\":\"n\",\"resourceVersion\":\"7\"}}}") ≡ IsLine (Call 1 (Update node_at_seven (Some 7)))
  pub gets : means (codes "{\"do\":\"get\",\"kind\":\"Pod\",\"namespace\":\"a\",\"name\":\"p\"}") ≡ IsLine (Call 1 (Get (key_of kinds.Pod (codes "a") (codes "p"))))
  pub gets_from_default : means (codes "{\"do\":\"get\",\"kind\":\"Pod\",\"name\":\"p\"}") ≡ IsLine (Call 1 (Get (key_of kinds.Pod (codes "default") (codes "p"))))
  pub namespace_of_a_node_is_dropped : means (codes "{\"do\":\"get\",\"kind\":\"Node\",\"namespace\":\"a\",\"name\":\"n\"}") ≡ IsLine (Call 1 (Get (key_of kinds.Node [] (codes "n"))))
  pub gets_no_other_kind : means (codes "{\"do\":\"get\",\"kind\":\"Secret\",\"name\":\"p\"}") ≡ refuses reasons.UnknownKind
  pub gets_no_name : means (codes "{\"do\":\"get\",\"kind\":\"Pod\"}") ≡ refuses (reasons.Missing (members.Of manifests.Name))
  pub deletes : means (codes "{\"do\":\"delete\",\"kind\":\"Node\",\"name\":\"n\"}") ≡ IsLine (Call 1 (Delete (key_of kinds.Node [] (codes "n")) None))
  pub deletes_no_other_uid : means (codes "{\"do\":\"delete\",\"kind\":\"Node\",\"name\":\"n\",\"uid\":\"x\"}") ≡ refuses (reasons.WrongType (members.Of manifests.Uid))
  pub lists : means (codes "{\"do\":\"list\",\"kind\":\"StorageClass\"}") ≡ IsLine (Call 1 (ListAll kinds.StorageClass None))
  pub lists_all_namespaces : means (codes "{\"do\":\"list\",\"kind\":\"Pod\",\"namespace\":\"a\"}") ≡ IsLine (Call 1 (ListAll kinds.Pod None))
  pub tells_the_time : means (codes "{\"do\":\"time\",\"at\":\"2001-01-01T00:00:00Z\"}") ≡ IsLine (Call 1 (SetTime (codes "2001-01-01T00:00:00Z")))
  pub tells_no_time : means (codes "{\"do\":\"time\"}") ≡ refuses (reasons.Missing members.At)

-- ---- edits

pub record EditExamples : Type 0 where
  pub adds_a_finalizer : means (codes "{\"do\":\"edit\",\"kind\":\"Node\",\"name\":\"n\",\"addFinalizer\":\"f\"}") ≡ IsLine
      (Call 1 (Edit (key_of kinds.Node [] (codes "n")) (edits.AddFinalizer (codes "f"))))
  pub sets_a_label : means (codes "{\"do\":\"edit\",\"kind\":\"Node\",\"name\":\"n\",\"setLabel\":{\"key\":\"k\",\"value\":\"v\"}}") ≡ IsLine
      (Call 1 (Edit (key_of kinds.Node [] (codes "n")) (edits.SetLabel (codes "k") (codes "v"))))
  pub sets_no_half_a_label : means (codes "{\"do\":\"edit\",\"kind\":\"Node\",\"name\":\"n\",\"setLabel\":{\"key\":\"k\"}}") ≡ refuses (reasons.Missing members.Value)
  pub drops_a_finalizer : means (codes "{\"do\":\"edit\",\"kind\":\"PersistentVolume\",\"name\":\"a\",\"dropFinalizer\":\"f\"}") ≡ IsLine
      (Call 1 (Edit (key_of kinds.PersistentVolume [] (codes "a")) (edits.DropFinalizer (codes "f"))))
  pub drops_a_label : means (codes "{\"do\":\"edit\",\"kind\":\"PersistentVolume\",\"name\":\"a\",\"dropLabel\":\"k\"}") ≡ IsLine
      (Call 1 (Edit (key_of kinds.PersistentVolume [] (codes "a")) (edits.DropLabel (codes "k"))))
  pub drops_an_annotation : means (codes "{\"do\":\"edit\",\"kind\":\"PersistentVolume\",\"name\":\"a\",\"dropAnnotation\":\"k\"}") ≡ IsLine
      (Call 1 (Edit (key_of kinds.PersistentVolume [] (codes "a")) (edits.DropAnnotation (codes "k"))))
  pub sets_an_annotation : means (codes
      "{\"do\":\"edit\",\"kind\":\"PersistentVolume\",\"name\":\"a\",\"setAnnotation\":{\"key\":\"k\",\"value\":\"v\"}}") ≡ IsLine
      (Call 1 (Edit (key_of kinds.PersistentVolume [] (codes "a")) (edits.SetAnnotation (codes "k") (codes "v"))))
  pub sets_a_volume_name : means (codes "{\"do\":\"edit\",\"kind\":\"PersistentVolume\",\"name\":\"a\",\"setVolumeName\":\"v\"}") ≡ IsLine
      (Call 1 (Edit (key_of kinds.PersistentVolume [] (codes "a")) (edits.SetVolumeName (codes "v"))))
  pub sets_a_reference : means (codes
      "{\"do\":\"edit\",\"kind\":\"PersistentVolume\",\"name\":\"a\",\"setClaimRef\":{\"namespace\":\"d\",\"name\":\"c\"}}") ≡ IsLine
      (Call 1 (Edit (key_of kinds.PersistentVolume [] (codes "a")) (edits.SetClaimRef (codes "d") (codes "c"))))
  pub sets_a_policy : means (codes "{\"do\":\"edit\",\"kind\":\"PersistentVolume\",\"name\":\"a\",\"setPolicy\":\"Recycle\"}") ≡ IsLine
      (Call 1 (Edit (key_of kinds.PersistentVolume [] (codes "a")) (edits.SetPolicy policies.Recycle)))
  pub sets_no_other_policy : means (codes "{\"do\":\"edit\",\"kind\":\"PersistentVolume\",\"name\":\"a\",\"setPolicy\":\"Keep\"}") ≡ refuses (reasons.WrongType members.SetPolicy)
  pub clears_the_reference : means (codes "{\"do\":\"edit\",\"kind\":\"PersistentVolume\",\"name\":\"a\",\"clearClaimRef\":true}") ≡ IsLine
      (Call 1 (Edit (key_of kinds.PersistentVolume [] (codes "a")) edits.ClearClaimRef))
  pub does_not_unclear_it : means (codes "{\"do\":\"edit\",\"kind\":\"PersistentVolume\",\"name\":\"a\",\"clearClaimRef\":false}") ≡ refuses (reasons.WrongType members.ClearClaimRef)
  pub one_edit_at_least : means (codes "{\"do\":\"edit\",\"kind\":\"Node\",\"name\":\"n\"}") ≡ refuses (reasons.BadValue members.Edit)
  pub one_edit_at_most : means (codes "{\"do\":\"edit\",\"kind\":\"Node\",\"name\":\"n\",\"addFinalizer\":\"f\",\"dropLabel\":\"k\"}") ≡ refuses (reasons.BadValue members.Edit)

-- ---- what is there from the start

pub record SetupExamples : Type 0 where
  pub pools : means (codes "{\"do\":\"pool\",\"name\":\"p\",\"provisioner\":\"x\",\"bytes\":\"1Ki\"}") ≡ Ok
      (meanings.Pool (record { name = codes "p"; provisioner = codes "x"; bytes = 1024; topology = None }) (codes "1Ki"))
  pub pools_by_a_number : means (codes "{\"do\":\"pool\",\"name\":\"p\",\"provisioner\":\"x\",\"bytes\":5}") ≡ Ok
      (meanings.Pool (record { name = codes "p"; provisioner = codes "x"; bytes = 5; topology = None }) (codes "5"))
  pub pools_with_a_topology : means (codes
      "{\"do\":\"pool\",\"name\":\"p\",\"provisioner\":\"x\",\"bytes\":\"5\",\"label\":\"zone\",\"value\":\"a\"}") ≡ Ok
      (meanings.Pool (record { name = codes "p"; provisioner = codes "x"; bytes = 5; topology = Some (codes "zone", codes "a") }) (codes "5"))
  pub no_half_a_topology : means (codes "{\"do\":\"pool\",\"name\":\"p\",\"provisioner\":\"x\",\"bytes\":\"5\",\"value\":\"a\"}") ≡ refuses (reasons.Missing members.Label)
  pub no_other_size : means (codes "{\"do\":\"pool\",\"name\":\"p\",\"provisioner\":\"x\",\"bytes\":\"5x\"}") ≡ refuses (reasons.BadQuantity members.Bytes)
  pub faults : means (codes "{\"do\":\"fault\",\"call\":999999999}") ≡ Ok (meanings.Fault 999999999)
  pub no_greater_fault : means (codes "{\"do\":\"fault\",\"call\":1000000000}") ≡ refuses (reasons.BadValue members.Call)

-- ---- actors

pub record ActorExamples : Type 0 where
  pub loses_before : means (codes "{\"do\":\"lose\",\"actor\":\"binder-1\",\"call\":3,\"when\":\"before\"}") ≡ IsLine (Lose (worker Binder One) 3 false)
  pub loses_after : means (codes "{\"do\":\"lose\",\"actor\":\"agent-n\",\"call\":3,\"when\":\"after\"}") ≡ IsLine (Lose (Agent (codes "n")) 3 true)
  pub loses_at_no_other_time : means (codes "{\"do\":\"lose\",\"actor\":\"binder-1\",\"call\":3,\"when\":\"during\"}") ≡ refuses (reasons.WrongType members.When)
  pub no_agent_of_another_node : means (codes "{\"do\":\"lose\",\"actor\":\"agent-m\",\"call\":3,\"when\":\"after\"}") ≡ refuses (reasons.BadValue members.Actor)
  pub no_fifth_worker : means (codes "{\"do\":\"turn\",\"actor\":\"binder-5\",\"calls\":3}") ≡ refuses (reasons.BadValue members.Actor)
  pub restarts : means (codes "{\"do\":\"restart\",\"actor\":\"claims-4\",\"after\":1}") ≡ IsLine (Restart (worker Claims Four) 1)
  pub restarts_after_a_call : means (codes "{\"do\":\"restart\",\"actor\":\"claims-4\",\"after\":0}") ≡ refuses (reasons.BadValue members.After)
  pub turns : means (codes "{\"do\":\"turn\",\"actor\":\"binder-1\",\"calls\":1000}") ≡ IsLine (Turn (worker Binder One) 1000)
  pub turns_no_longer : means (codes "{\"do\":\"turn\",\"actor\":\"binder-1\",\"calls\":1001}") ≡ refuses (reasons.BadValue members.Calls)
  pub drains : means (codes "{\"do\":\"drain\"}") ≡ IsLine Drain
  pub other_members_are_not_looked_at : means (codes "{\"do\":\"drain\",\"user\":9,\"x\":[1.5]}") ≡ IsLine Drain
