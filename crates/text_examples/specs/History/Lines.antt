-- Lines that are entries or setups, and lines that are none.
-- A choice of this project: the history format.
use Rattle.std.specs.Prelude.{◌≡◌, [], ◌∷◌, Some, None, codes, true, false}
use Rattle.call_types.specs.declared.request.Request.TheVariants as asks
use Rattle.call_types.specs.declared.request.SeatKind.TheVariants as seats
use Rattle.call_types.specs.declared.reply.Refusal.TheVariants as refusals
use Rattle.call_types.specs.declared.reply.Reply.TheVariants as replies
use Rattle.kube_parts.specs.declared.parts.Kind.TheVariants as kinds
use Rattle.kube_parts.specs.Uids.{uid_of_serial}
use Rattle.history_lines.specs.Entries.{parts_with, entry_of, setup_of}
use Rattle.text_examples.specs.History.Samples.{no_setup, no_setup_line, taken, taken_line, node_named, node_n, with_imports}

pub record SetupExamples : Type 0 where
  pub nothing : setup_of no_setup_line ≡ Some no_setup
  pub a_pool_and_faults :
      setup_of (codes "{\"setup\":{\"faults\":[1,3],\"pools\":[{\"bytes\":5,\"name\":\"p\",\"provisioner\":\"x\"}]}}")
      ≡ Some (record { pools = record { name = codes "p"; provisioner = codes "x"; bytes = 5; topology = None } ∷ []; faults = 1 ∷ 3 ∷ []; imports = [] })
  pub faults_that_fall : setup_of (codes "{\"setup\":{\"faults\":[3,1],\"pools\":[]}}") ≡ None
  pub another_order_of_members : setup_of (codes "{\"setup\":{\"pools\":[],\"faults\":[]}}") ≡ None
  pub imports_that_are_empty : setup_of (codes "{\"setup\":{\"faults\":[],\"imports\":[],\"pools\":[]}}") ≡ None
  pub an_import : parts_with [] [] (node_n ∷ []) ≡ Some (with_imports (node_n ∷ []))
  pub an_import_without_a_uid : parts_with [] [] (node_named (codes "n") None ∷ []) ≡ None
  pub a_name_imported_twice : parts_with [] [] (node_n ∷ node_named (codes "n") (Some (uid_of_serial 8)) ∷ []) ≡ None
  pub a_line_of_an_import :
      setup_of (codes "{\"setup\":{\"faults\":[],\"imports\":[{\"apiVersion\":\"v1\",\"kind\":\"Node\",\"metadata\":{\"name\":\"n\",\"uid\":\"00000000-0000-8000-8000-000000000009\"}}],\"pools\":[]}}")
      ≡ Some (with_imports (node_n ∷ []))
  pub a_line_of_an_import_without_a_uid : setup_of (codes "{\"setup\":{\"faults\":[],\"imports\":[{\"apiVersion\":\"v1\",\"kind\":\"Node\",\"metadata\":{\"name\":\"n\"}}],\"pools\":[]}}") ≡ None
  pub a_blank : setup_of (codes "{\"setup\":{\"faults\":[],\"pools\":[]} }") ≡ None

pub record EntryExamples : Type 0 where
  pub takes_a_node : entry_of taken_line ≡ Some taken
  pub lists :
      entry_of (codes "{\"ask\":{\"do\":\"list\",\"kind\":\"PersistentVolume\"},\"kind\":\"Binder\",\"reply\":{\"items\":[],\"listed\":0},\"seat\":5,\"told\":true}")
      ≡ Some (record { seat = 5; kind = seats.Binder; request = asks.List kinds.PersistentVolume None; reply = replies.Listed [] 0; told = true })
  pub is_refused :
      entry_of (codes "{\"ask\":{\"do\":\"mounts\",\"epoch\":1,\"node\":\"n\"},\"kind\":\"Agent\",\"reply\":{\"current\":2,\"refused\":\"StaleEpoch\"},\"seat\":5,\"told\":true}")
      ≡ Some (record { seat = 5; kind = seats.Agent; request = asks.Mounts (codes "n") 1; reply = replies.Refused (refusals.StaleEpoch 2); told = true })
  pub creates :
      entry_of (codes
      "{\"ask\":{\"do\":\"create\",\"object\":{\"apiVersion\":\"v1\",\"kind\":\"Node\",\"metadata\":{\"name\":\"n\"}}},\"kind\":\"User\",\"reply\":{\"refused\":\"AlreadyExists\"},\"seat\":1,\"told\":false}")
      ≡ Some (record { seat = 1; kind = seats.User; request = asks.Create (node_named (codes "n") None); reply = replies.Refused refusals.AlreadyExists; told = false })
  pub another_order_of_members : entry_of (codes "{\"kind\":\"Agent\",\"ask\":{\"do\":\"take\",\"node\":\"n\"},\"reply\":{\"epoch\":1},\"seat\":9,\"told\":true}") ≡ None
  pub a_member_more : entry_of (codes "{\"ask\":{\"do\":\"take\",\"node\":\"n\"},\"kind\":\"Agent\",\"more\":1,\"reply\":{\"epoch\":1},\"seat\":9,\"told\":true}") ≡ None
  pub no_member_told : entry_of (codes "{\"ask\":{\"do\":\"take\",\"node\":\"n\"},\"kind\":\"Agent\",\"reply\":{\"epoch\":1},\"seat\":9}") ≡ None
  pub an_empty_namespace : entry_of (codes
      "{\"ask\":{\"do\":\"get\",\"kind\":\"Pod\",\"name\":\"p\",\"namespace\":\"\"},\"kind\":\"User\",\"reply\":{\"refused\":\"NotFound\"},\"seat\":1,\"told\":true}") ≡ None
  pub another_word : entry_of (codes "{\"ask\":{\"do\":\"taken\",\"node\":\"n\"},\"kind\":\"Agent\",\"reply\":{\"epoch\":1},\"seat\":9,\"told\":true}") ≡ None
