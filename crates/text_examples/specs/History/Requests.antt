-- Requests as JSON shows them, and JSON that shows none.
-- A choice of this project: the history format.
use Rattle.std.specs.Prelude.{◌≡◌, ℕ, List, [], ◌∷◌, true, false, Option, Some, None, codes}
use Rattle.kube_parts.specs.Uids.{uid_of_serial}
use Rattle.kube_objects.specs.declared.key.Key.{Key}
use Rattle.kube_parts.specs.declared.parts.Kind.{Kind}
use Rattle.kube_parts.specs.declared.parts.Kind.TheVariants as kinds
use Rattle.kube_parts.specs.declared.parts.Policy.TheVariants as policies
use Rattle.kube_parts.specs.declared.parts.VolumePhase.TheVariants as volumes
use Rattle.kube_parts.specs.declared.parts.ClaimPhase.TheVariants as claims
use Rattle.call_types.specs.declared.edit.Edit.TheVariants as edits
use Rattle.call_types.specs.declared.request.NewStatus.TheVariants as statuses
use Rattle.call_types.specs.declared.request.Request.{Request}
use Rattle.call_types.specs.declared.request.Request.TheVariants as asks
use Rattle.object_text.specs.Reading.{value_of}
use Rattle.history_lines.specs.Answers.{◌>>=◌, taken}
use Rattle.history_lines.specs.Requests.{request_in}
use Rattle.text_examples.specs.History.Samples.{node_named}

-- the request of a JSON text
abbrev pub asks_for : List ℕ → Option Request
asks_for s = taken (value_of s) >>= λ d. request_in d

abbrev pub key_of : Kind → List ℕ → List ℕ → Key
key_of kind namespace name = record { kind = kind; namespace = namespace; name = name }

pub record RequestExamples : Type 0 where
  pub creates : asks_for (codes "{\"do\":\"create\",\"object\":{\"apiVersion\":\"v1\",\"kind\":\"Node\",\"metadata\":{\"name\":\"n\"}}}") ≡ Some (asks.Create (node_named (codes "n") None))
  pub creates_no_other_kind : asks_for (codes "{\"do\":\"create\",\"object\":{\"apiVersion\":\"v1\",\"kind\":\"Secret\",\"metadata\":{\"name\":\"n\"}}}") ≡ None
  pub creates_nothing_at_all : asks_for (codes "{\"do\":\"create\"}") ≡ None
  pub updates : asks_for (codes "{\"do\":\"update\",\"object\":{\"apiVersion\":\"v1\",\"kind\":\"Node\",\"metadata\":{\"name\":\"n\"}}}") ≡ Some (asks.Update (node_named (codes "n") None) None)
  pub updates_one_version : asks_for (codes
      "{\"do\":\"update\",\"object\":{\"apiVersion\":\"v1\",\"kind\":\"Node\",\"metadata\":{\"name\":\"n\"}},\"version\":7}") ≡ Some (asks.Update (node_named (codes "n") None) (Some 7))
  pub a_version_is_a_number : asks_for (codes "{\"do\":\"update\",\"object\":{\"apiVersion\":\"v1\",\"kind\":\"Node\",\"metadata\":{\"name\":\"n\"}},\"version\":\"7\"}") ≡ None
  pub writes_the_status_of_a_volume : asks_for
      (codes "{\"do\":\"status\",\"kind\":\"PersistentVolume\",\"name\":\"a\",\"phase\":\"Released\",\"version\":7}") ≡ Some
      (asks.UpdateStatus (key_of kinds.PersistentVolume [] (codes "a")) (statuses.Volume volumes.Released) (Some 7))
  pub no_volume_is_lost : asks_for (codes "{\"do\":\"status\",\"kind\":\"PersistentVolume\",\"name\":\"a\",\"phase\":\"Lost\",\"version\":7}") ≡ None
  pub writes_the_status_of_a_claim : asks_for
      (codes "{\"amount\":\"5\",\"do\":\"status\",\"kind\":\"PersistentVolumeClaim\",\"modes\":[\"ReadWriteOnce\"],\"name\":\"c\",\"namespace\":\"default\",\"phase\":\"Bound\"}") ≡ Some
      (asks.UpdateStatus (key_of kinds.PersistentVolumeClaim (codes "default") (codes "c"))
      (statuses.Claim claims.Bound (record { rwo = true; rox = false; rwx = false; rwop = false }) (Some (record { text = codes "5"; bytes = 5 }))) None)
  pub writes_one_without_an_amount : asks_for
      (codes "{\"do\":\"status\",\"kind\":\"PersistentVolumeClaim\",\"modes\":[],\"name\":\"c\",\"namespace\":\"default\",\"phase\":\"Pending\"}")
      ≡ Some (asks.UpdateStatus (key_of kinds.PersistentVolumeClaim (codes "default") (codes "c"))
      (statuses.Claim claims.Pending (record { rwo = false; rox = false; rwx = false; rwop = false }) None) None)
  pub no_claim_is_released : asks_for (codes "{\"do\":\"status\",\"kind\":\"PersistentVolumeClaim\",\"modes\":[],\"name\":\"c\",\"namespace\":\"default\",\"phase\":\"Released\"}") ≡ None
  pub no_other_mode : asks_for (codes "{\"do\":\"status\",\"kind\":\"PersistentVolumeClaim\",\"modes\":[\"Once\"],\"name\":\"c\",\"namespace\":\"default\",\"phase\":\"Bound\"}") ≡ None
  pub an_amount_is_a_quantity : asks_for (codes
      "{\"amount\":\"x\",\"do\":\"status\",\"kind\":\"PersistentVolumeClaim\",\"modes\":[],\"name\":\"c\",\"namespace\":\"default\",\"phase\":\"Bound\"}") ≡ None
  pub adds_a_finalizer : asks_for (codes "{\"do\":\"edit\",\"kind\":\"PersistentVolume\",\"name\":\"a\",\"addFinalizer\":\"f\"}") ≡ Some
      (asks.Edit (key_of kinds.PersistentVolume [] (codes "a")) (edits.AddFinalizer (codes "f")))
  pub drops_a_finalizer : asks_for (codes "{\"do\":\"edit\",\"kind\":\"PersistentVolume\",\"name\":\"a\",\"dropFinalizer\":\"f\"}") ≡ Some
      (asks.Edit (key_of kinds.PersistentVolume [] (codes "a")) (edits.DropFinalizer (codes "f")))
  pub drops_a_label : asks_for (codes "{\"do\":\"edit\",\"kind\":\"PersistentVolume\",\"name\":\"a\",\"dropLabel\":\"l\"}") ≡ Some
      (asks.Edit (key_of kinds.PersistentVolume [] (codes "a")) (edits.DropLabel (codes "l")))
  pub drops_an_annotation : asks_for (codes "{\"do\":\"edit\",\"kind\":\"PersistentVolume\",\"name\":\"a\",\"dropAnnotation\":\"l\"}") ≡ Some
      (asks.Edit (key_of kinds.PersistentVolume [] (codes "a")) (edits.DropAnnotation (codes "l")))
  pub sets_a_label : asks_for (codes "{\"do\":\"edit\",\"kind\":\"PersistentVolume\",\"name\":\"a\",\"setLabel\":{\"key\":\"l\",\"value\":\"v\"}}") ≡
      Some (asks.Edit (key_of kinds.PersistentVolume [] (codes "a")) (edits.SetLabel (codes "l") (codes "v")))
  pub sets_no_half_a_label : asks_for (codes "{\"do\":\"edit\",\"kind\":\"PersistentVolume\",\"name\":\"a\",\"setLabel\":{\"key\":\"l\"}}") ≡ None
  pub sets_an_annotation : asks_for (codes
      "{\"do\":\"edit\",\"kind\":\"PersistentVolume\",\"name\":\"a\",\"setAnnotation\":{\"key\":\"l\",\"value\":\"v\"}}") ≡ Some
      (asks.Edit (key_of kinds.PersistentVolume [] (codes "a")) (edits.SetAnnotation (codes "l") (codes "v")))
  pub sets_a_volume_name : asks_for (codes "{\"do\":\"edit\",\"kind\":\"PersistentVolume\",\"name\":\"a\",\"setVolumeName\":\"a\"}") ≡ Some
      (asks.Edit (key_of kinds.PersistentVolume [] (codes "a")) (edits.SetVolumeName (codes "a")))
  pub sets_a_policy : asks_for (codes "{\"do\":\"edit\",\"kind\":\"PersistentVolume\",\"name\":\"a\",\"setPolicy\":\"Delete\"}") ≡ Some
      (asks.Edit (key_of kinds.PersistentVolume [] (codes "a")) (edits.SetPolicy policies.Delete))
  pub sets_no_other_policy : asks_for (codes "{\"do\":\"edit\",\"kind\":\"PersistentVolume\",\"name\":\"a\",\"setPolicy\":\"Keep\"}") ≡ None
  pub sets_a_reference : asks_for (codes
      "{\"do\":\"edit\",\"kind\":\"PersistentVolume\",\"name\":\"a\",\"setClaimRef\":{\"name\":\"c\",\"namespace\":\"default\"}}") ≡ Some
      (asks.Edit (key_of kinds.PersistentVolume [] (codes "a")) (edits.SetClaimRef (codes "default") (codes "c")))
  pub clears_the_reference : asks_for (codes "{\"do\":\"edit\",\"kind\":\"PersistentVolume\",\"name\":\"a\",\"clearClaimRef\":true}") ≡ Some
      (asks.Edit (key_of kinds.PersistentVolume [] (codes "a")) (edits.ClearClaimRef))
  pub edits_nothing : asks_for (codes "{\"do\":\"edit\",\"kind\":\"PersistentVolume\",\"name\":\"a\"}") ≡ None
  pub deletes : asks_for (codes "{\"do\":\"delete\",\"kind\":\"Pod\",\"name\":\"p\"}") ≡ Some (asks.Delete (key_of kinds.Pod [] (codes "p")) None)
  pub deletes_one_uid : asks_for (codes "{\"do\":\"delete\",\"kind\":\"Pod\",\"name\":\"p\",\"uid\":\"00000000-0000-8000-8000-000000000009\"}") ≡
      Some (asks.Delete (key_of kinds.Pod [] (codes "p")) (Some (uid_of_serial 9)))
  pub a_uid_is_a_uuid : asks_for (codes "{\"do\":\"delete\",\"kind\":\"Pod\",\"name\":\"p\",\"uid\":\"x\"}") ≡ None
  pub gets : asks_for (codes "{\"do\":\"get\",\"kind\":\"Pod\",\"name\":\"p\",\"namespace\":\"default\"}") ≡ Some (asks.Get (key_of kinds.Pod (codes "default") (codes "p")))
  pub gets_no_other_kind : asks_for (codes "{\"do\":\"get\",\"kind\":\"pod\",\"name\":\"p\",\"namespace\":\"default\"}") ≡ None
  pub gets_no_name : asks_for (codes "{\"do\":\"get\",\"kind\":\"Pod\"}") ≡ None
  pub lists : asks_for (codes "{\"do\":\"list\",\"kind\":\"Pod\"}") ≡ Some (asks.List kinds.Pod None)
  pub lists_a_namespace : asks_for (codes "{\"do\":\"list\",\"kind\":\"Pod\",\"namespace\":\"default\"}") ≡ Some (asks.List kinds.Pod (Some (codes "default")))
  pub lists_no_null : asks_for (codes "{\"do\":\"list\",\"kind\":\"Pod\",\"namespace\":null}") ≡ None
  pub watches : asks_for (codes "{\"do\":\"watch\",\"from\":7,\"kind\":\"Pod\"}") ≡ Some (asks.Watch kinds.Pod 7)
  pub watches_from_somewhere : asks_for (codes "{\"do\":\"watch\",\"kind\":\"Pod\"}") ≡ None
  pub binds : asks_for (codes "{\"do\":\"bind\",\"kind\":\"Pod\",\"name\":\"p\",\"node\":\"n\",\"uid\":\"00000000-0000-8000-8000-000000000009\"}") ≡
      Some (asks.BindPod (key_of kinds.Pod [] (codes "p")) (uid_of_serial 9) (codes "n"))
  pub binds_one_uid : asks_for (codes "{\"do\":\"bind\",\"kind\":\"Pod\",\"name\":\"p\",\"node\":\"n\"}") ≡ None
  pub finishes : asks_for (codes
      "{\"do\":\"finish\",\"epoch\":2,\"kind\":\"Pod\",\"name\":\"p\",\"node\":\"n\",\"uid\":\"00000000-0000-8000-8000-000000000009\"}") ≡ Some
      (asks.FinishPod (key_of kinds.Pod [] (codes "p")) (uid_of_serial 9) (codes "n") 2)
  pub finishes_in_an_epoch : asks_for (codes "{\"do\":\"finish\",\"kind\":\"Pod\",\"name\":\"p\",\"node\":\"n\",\"uid\":\"00000000-0000-8000-8000-000000000009\"}") ≡ None
  pub provisions : asks_for (codes "{\"bytes\":5,\"do\":\"provision\",\"name\":\"d\",\"provisioner\":\"x\"}") ≡ Some (asks.Provision (codes "d") (codes "x") 5 None)
  pub provisions_by_labels : asks_for (codes
      "{\"bytes\":5,\"do\":\"provision\",\"labels\":{\"l\":\"v\",\"m\":\"w\"},\"name\":\"d\",\"provisioner\":\"x\"}") ≡ Some
      (asks.Provision (codes "d") (codes "x") 5 (Some ((codes "l", codes "v") ∷ (codes "m", codes "w") ∷ [])))
  pub labels_are_texts : asks_for (codes "{\"bytes\":5,\"do\":\"provision\",\"labels\":{\"l\":1},\"name\":\"d\",\"provisioner\":\"x\"}") ≡ None
  pub bytes_are_a_number : asks_for (codes "{\"bytes\":\"5\",\"do\":\"provision\",\"name\":\"d\",\"provisioner\":\"x\"}") ≡ None
  pub erases : asks_for (codes "{\"do\":\"erase\",\"driver\":\"x\",\"id\":\"d\"}") ≡ Some (asks.Erase (record { driver = codes "x"; id = codes "d" }))
  pub erases_one_id : asks_for (codes "{\"do\":\"erase\",\"driver\":\"x\"}") ≡ None
  pub takes : asks_for (codes "{\"do\":\"take\",\"node\":\"n\"}") ≡ Some (asks.TakeNode (codes "n"))
  pub takes_a_node : asks_for (codes "{\"do\":\"take\"}") ≡ None
  pub asks_for_mounts : asks_for (codes "{\"do\":\"mounts\",\"epoch\":1,\"node\":\"n\"}") ≡ Some (asks.Mounts (codes "n") 1)
  pub asks_in_an_epoch : asks_for (codes "{\"do\":\"mounts\",\"epoch\":-1,\"node\":\"n\"}") ≡ None
  pub mounts : asks_for (codes
      "{\"claims\":[\"00000000-0000-8000-8000-000000000008\",\"00000000-0000-8000-8000-000000000009\"],\"do\":\"mount\",\"epoch\":1,\"node\":\"n\",\"pod\":\"00000000-0000-8000-8000-000000000009\"}")
      ≡ Some (asks.Mount (codes "n") 1 (uid_of_serial 9) (uid_of_serial 8 ∷ uid_of_serial 9 ∷ []))
  pub claims_are_a_list : asks_for (codes "{\"claims\":\"00000000-0000-8000-8000-000000000008\",\"do\":\"mount\",\"epoch\":1,\"node\":\"n\",\"pod\":\"00000000-0000-8000-8000-000000000009\"}") ≡ None
  pub claims_are_uids : asks_for (codes "{\"claims\":[\"x\"],\"do\":\"mount\",\"epoch\":1,\"node\":\"n\",\"pod\":\"00000000-0000-8000-8000-000000000009\"}") ≡ None
  pub unmounts : asks_for (codes "{\"do\":\"unmount\",\"epoch\":1,\"node\":\"n\",\"pod\":\"00000000-0000-8000-8000-000000000009\"}") ≡ Some (asks.Unmount (codes "n") 1 (uid_of_serial 9))
  pub unmounts_a_pod : asks_for (codes "{\"do\":\"unmount\",\"epoch\":1,\"node\":\"n\"}") ≡ None
  pub sets_the_time : asks_for (codes "{\"at\":\"t\",\"do\":\"time\"}") ≡ Some (asks.SetTime (codes "t"))
  pub sets_some_time : asks_for (codes "{\"do\":\"time\"}") ≡ None
  pub asks_nothing_else : asks_for (codes "{\"do\":\"look\"}") ≡ None
  pub asks_something : asks_for (codes "{}") ≡ None
