-- What stands between the brackets of requests, replies, entries and setups is their data.
use Rattle.std.proofs.Common.{◌≡◌, ℕ, List, [], ◌∷◌, Option, Some, codes, refl}
use Rattle.serde_json.specs.Data.{no_members}
use Rattle.kube_objects.specs.declared.objects.Object.{Object}
use Rattle.kube_objects.specs.declared.objects.DataId.{DataId}
use Rattle.call_types.specs.declared.entry.Entry.{Entry}
use Rattle.call_types.specs.declared.reply.Event.{Event}
use Rattle.call_types.specs.declared.reply.Events.{Events}
use Rattle.call_types.specs.declared.reply.MountRow.{MountRow}
use Rattle.call_types.specs.declared.reply.Refusal.{Refusal}
use Rattle.call_types.specs.declared.request.Request.{Request}
use Rattle.call_types.specs.declared.setup.Pool.{Pool}
use Rattle.call_types.specs.declared.setup.Setup.{Setup}
use Rattle.json_text.specs.Members.{text, whole, items_data, array_data, object_of, with_option, with_options, with_member_text}
use Rattle.json_text.specs.Writing.{Writing, closed, opened, with_all, with_value, with_some, with_key, with_texts, items_after}
use Rattle.json_text.proofs.Closing.{closes, closes_array, closes_within}
use Rattle.json_text.proofs.MemberTexts.{closes_over}
use Rattle.object_print.specs.Objects.{object_data}
use Rattle.history_text.specs.Requests.{label_data, claim_name_data, two_texts, ask_word, argument_pairs, request_data, data_id_pairs}
use Rattle.history_text.specs.Replies.{event_pairs, event_data, mount_pairs, mount_data, topology_pairs, provisioned_pairs, refusal_pairs, listed_pairs, events_pairs}
use Rattle.history_text.specs.Entries.{entry_pairs, entry_data, pool_pairs, pool_data, setup_pairs, setup_data}

-- ---- requests

pub closes_label : (key value : List ℕ) (w : Writing) → closed 125 (with_all (two_texts (codes "key") key (codes "value") value) (opened 123 w)) ≡ with_value (label_data key value) w
closes_label key value w = closes (two_texts (codes "key") key (codes "value") value) w refl

pub closes_claim_name : (namespace name : List ℕ) (w : Writing)
    → closed 125 (with_all (two_texts (codes "name") name (codes "namespace") namespace) (opened 123 w)) ≡ with_value (claim_name_data namespace name) w
closes_claim_name namespace name w = closes (two_texts (codes "name") name (codes "namespace") namespace) w refl

pub closes_request : (r : Request) (w : Writing)
    → closed 125 (with_texts (with_options with_member_text (argument_pairs r) (with_option with_member_text (codes "do") (text (ask_word r)) [])) (opened 123 w)) ≡ with_value (request_data r) w
unfolding request_data
closes_request r w = closes_over ((codes "do", text (ask_word r)) ∷ argument_pairs r) no_members w

-- ---- replies

pub closes_objects : (k : List ℕ) (os : List Object) (w : Writing) → closed 93 (items_after (items_data object_data os) (opened 91 (with_key k w))) ≡ with_some k (Some (array_data object_data os)) w
unfolding with_option
closes_objects k os w = closes_array (items_data object_data os) (with_key k w)

pub closes_event_items : (k : List ℕ) (es : List Event) (w : Writing) → closed 93 (items_after (items_data event_data es) (opened 91 (with_key k w))) ≡ with_some k (Some (array_data event_data es)) w
unfolding with_option
closes_event_items k es w = closes_array (items_data event_data es) (with_key k w)

pub closes_mount_items : (k : List ℕ) (rows : List MountRow) (w : Writing)
    → closed 93 (items_after (items_data mount_data rows) (opened 91 (with_key k w))) ≡ with_some k (Some (array_data mount_data rows)) w
unfolding with_option
closes_mount_items k rows w = closes_array (items_data mount_data rows) (with_key k w)

pub closes_listed : (os : List Object) (n : ℕ) (w : Writing) → closed 125 (with_all (listed_pairs os n) (opened 123 w)) ≡ with_value (object_of (listed_pairs os n)) w
closes_listed os n w = closes (listed_pairs os n) w refl

pub closes_event : (e : Event) (w : Writing) → closed 125 (with_all (event_pairs e) (opened 123 w)) ≡ with_value (event_data e) w
unfolding event_data
closes_event e w = closes (event_pairs e) w refl

pub closes_events : (e : Events) (w : Writing) → closed 125 (with_all (events_pairs e) (opened 123 w)) ≡ with_value (object_of (events_pairs e)) w
closes_events e w = closes (events_pairs e) w refl

pub closes_mount : (row : MountRow) (w : Writing) → closed 125 (with_all (mount_pairs row) (opened 123 w)) ≡ with_value (mount_data row) w
unfolding mount_data
closes_mount row w = closes (mount_pairs row) w refl

pub closes_provisioned : (id : DataId) (topology : Option (List ℕ × List ℕ)) (w : Writing)
    → closed 125 (with_texts (with_options with_member_text (topology_pairs topology) (with_options with_member_text (data_id_pairs id) []))
    (opened 123 w)) ≡ with_value (object_of (provisioned_pairs id topology)) w
closes_provisioned id topology w = closes_over (provisioned_pairs id topology) no_members w

pub closes_refusal : (r : Refusal) (w : Writing) → closed 125 (with_texts (with_options with_member_text (refusal_pairs r) []) (opened 123 w)) ≡ with_value (object_of (refusal_pairs r)) w
closes_refusal r w = closes_over (refusal_pairs r) no_members w

-- ---- entries and setups

pub closes_entry : (e : Entry) (w : Writing) → closed 125 (with_all (entry_pairs e) (opened 123 w)) ≡ with_value (entry_data e) w
unfolding entry_data
closes_entry e w = closes (entry_pairs e) w refl

pub closes_pool : (p : Pool) (w : Writing)
    → closed 125 (with_texts (with_options with_member_text (topology_pairs p.topology)
    (with_option with_member_text (codes "provisioner") (text p.provisioner)
    (with_option with_member_text (codes "name") (text p.name) (with_option with_member_text (codes "bytes") (whole p.bytes) [])))) (opened 123 w)) ≡ with_value (pool_data p) w
unfolding pool_data
closes_pool p w = closes_over (pool_pairs p) no_members w

pub closes_pools : (k : List ℕ) (ps : List Pool) (w : Writing) → closed 93 (items_after (items_data pool_data ps) (opened 91 (with_key k w))) ≡ with_some k (Some (array_data pool_data ps)) w
unfolding with_option
closes_pools k ps w = closes_array (items_data pool_data ps) (with_key k w)

pub closes_parts : (s : Setup) (w : Writing) → closed 125 (with_all (setup_pairs s) (opened 123 w)) ≡ with_value (object_of (setup_pairs s)) w
closes_parts s w = closes (setup_pairs s) w refl

pub closes_setup : (s : Setup) (w : Writing) → closed 125 (with_some (codes "setup") (Some (object_of (setup_pairs s))) (opened 123 w)) ≡ with_value (setup_data s) w
unfolding setup_data
closes_setup s w = closes_within (codes "setup") (object_of (setup_pairs s)) w
