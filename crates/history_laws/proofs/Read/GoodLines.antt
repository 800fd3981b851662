-- A printed entry or setup is canonical.
use Rattle.std.proofs.Common.{ℕ, suc, List, [], ◌∷◌, ◌++◌, true, Option, Some, None, option_map, codes}
use Rattle.std.specs.Prelude.{IfSome}
use Rattle.std.specs.List.{All}
use Rattle.std.proofs.lemmas.List.Elements.{All-head, All-tail}
use Rattle.serde_json.specs.Data.{Data, string}
use Rattle.json_text.specs.Build.{number_data, Good, GoodItems, GoodOption, GoodPairs}
use Rattle.json_text.specs.Members.{text, items_data, array_data, filled_array, pairs_data, object_of}
use Rattle.json_text.proofs.Good.{deeper, good_append, good_array, good_boolean, good_item, good_items, good_none, good_number, good_object, good_object_of, good_string}
use Rattle.plain_data.specs.Pairs.{Pair}
use Rattle.kube_parts.specs.declared.uid.Uid.{Uid}
use Rattle.kube_objects.specs.declared.key.Key.{Key}
use Rattle.kube_objects.specs.declared.objects.Object.{Object}
use Rattle.call_types.specs.declared.request.NewStatus.{NewStatus}
use Rattle.call_types.specs.declared.request.NewStatus.TheVariants as statuses
use Rattle.call_types.specs.declared.request.Request.{Request}
use Rattle.call_types.specs.declared.request.Request.TheVariants as asks
use Rattle.call_types.specs.declared.reply.Event.{Event}
use Rattle.call_types.specs.declared.reply.MountRow.{MountRow}
use Rattle.call_types.specs.declared.reply.Refusal.{Refusal}
use Rattle.call_types.specs.declared.reply.Refusal.TheVariants as refusals
use Rattle.call_types.specs.declared.reply.Reply.{Reply}
use Rattle.call_types.specs.declared.reply.Reply.TheVariants as replies
use Rattle.call_types.specs.declared.entry.Entry.{Entry}
use Rattle.call_types.specs.declared.setup.Pool.{Pool}
use Rattle.call_types.specs.declared.setup.Setup.{Setup}
use Rattle.object_print.specs.Metadata.{uid_data}
use Rattle.object_print.specs.Objects.{object_data}
use Rattle.object_laws.specs.Given.{IsGivenObject, IsUid}
use Rattle.object_laws.proofs.Canonical.{object_good}
use Rattle.object_laws.proofs.CanonicalParts.{good_filled, good_option, good_filled_pairs, good_modes, good_some_uid}
use Rattle.history_text.specs.Requests.{key_pairs, edit_pairs, amount_text, status_pairs, ask_word, argument_pairs, request_data}
use Rattle.history_text.specs.Replies.{event_pairs, event_data, mount_pairs, mount_data, refusal_pairs, reply_pairs, reply_data}
use Rattle.history_text.proofs.GoodPairs.{good_edit, good_topology}
use Rattle.history_text.specs.Entries.{entry_pairs, entry_data, pool_pairs, pool_data, setup_pairs, setup_data}
use Rattle.history_laws.specs.Read.Given.{IsNumber, IsRequest, IsEvent, IsMountRow, IsRefusal, IsReply, IsEntry, IsPool, IsSetup}

-- ---- members

good_some_number : (n : ℕ) (o : Option ℕ) → IfSome o IsNumber → GoodOption n (option_map number_data o)
good_some_number n None is = tt
good_some_number n (Some k) is = good_number k is

good_list : {X : Type 0} (n : ℕ) (data_of : X → Data) (P : X → Type 0) → ((x : X) → P x → Good n (data_of x)) → (xs : List X) → All P xs → GoodItems n (items_data data_of xs)
good_list n data_of P good [] is = good_items
good_list n data_of P good (x ∷ xs) is = good_item (good x (All-head P x xs is)) (good_list n data_of P good xs (All-tail P x xs is))

good_listed : {X : Type 0} (n : ℕ) (data_of : X → Data) (P : X → Type 0) → ((x : X) → P x → Good n (data_of x)) → (xs : List X) → All P xs → Good (suc n) (array_data data_of xs)
good_listed n data_of P good xs is = good_array (good_list n data_of P good xs is)

good_uids : (n : ℕ) (us : List Uid) → All IsUid us → Good (suc n) (array_data uid_data us)
good_uids n us is = good_listed n uid_data IsUid (λ u h. good_string) us is

good_key : (n : ℕ) (k : Key) → GoodPairs n (key_pairs k)
good_key n k = (good_string, (good_string, (good_filled n k.namespace, tt)))

good_labels : (n : ℕ) (o : Option (List Pair)) → GoodOption (suc n) (option_map pairs_data o)
good_labels n None = tt
good_labels n (Some []) = good_object good_none
good_labels n (Some (p ∷ ps)) = good_filled_pairs n (p ∷ ps)

-- ---- requests

good_status : (n : ℕ) (status : NewStatus) → GoodPairs (suc n) (status_pairs status)
good_status n (statuses.Volume phase) = (good_string, tt)
good_status n (statuses.Claim phase modes amount) = (good_string, (good_modes n modes, (good_option (suc n) amount_text amount (λ a. good_string), tt)))

good_arguments : (r : Request) → IsRequest r → GoodPairs 127 (argument_pairs r)
good_arguments (asks.Create o) is = (object_good o is, tt)
good_arguments (asks.Update o version) is = (object_good o is.0, (good_some_number 127 version is.1, tt))
good_arguments (asks.UpdateStatus key status version) is =
    good_append 127 (key_pairs key) (status_pairs status ++ (codes "version", option_map number_data version) ∷ []) (good_key 127 key)
    (good_append 127 (status_pairs status) ((codes "version", option_map number_data version) ∷ []) (good_status 126 status) (good_some_number 127 version is.1, tt))
good_arguments (asks.Edit key edit) is = good_append 127 (key_pairs key) (edit_pairs edit) (good_key 127 key) (good_edit 126 edit)
good_arguments (asks.Delete key uid) is = good_append 127 (key_pairs key) ((codes "uid", option_map uid_data uid) ∷ []) (good_key 127 key) (good_some_uid 127 uid, tt)
good_arguments (asks.Get key) is = good_key 127 key
good_arguments (asks.List kind namespace) is = (good_string, (good_option 127 string namespace (λ s. good_string), tt))
good_arguments (asks.Watch kind from) is = (good_string, (good_number from is, tt))
good_arguments (asks.BindPod key uid node) is = (good_string, (good_string, (good_filled 127 key.namespace, (good_string, (good_string, tt)))))
good_arguments (asks.FinishPod key uid node epoch) is = (good_string, (good_string, (good_filled 127 key.namespace, (good_string, (good_string, (good_number epoch is.1, tt))))))
good_arguments (asks.Provision name provisioner bytes labels) is = (good_string, (good_string, (good_number bytes is.0, (good_labels 126 labels, tt))))
good_arguments (asks.Erase id) is = (good_string, (good_string, tt))
good_arguments (asks.TakeNode node) is = (good_string, tt)
good_arguments (asks.Mounts node epoch) is = (good_string, (good_number epoch is, tt))
good_arguments (asks.Mount node epoch pod claims) is = (good_string, (good_number epoch is.0, (good_string, (good_uids 126 claims is.2, tt))))
good_arguments (asks.Unmount node epoch pod) is = (good_string, (good_number epoch is.0, (good_string, tt)))
good_arguments (asks.SetTime moment) is = (good_string, tt)

good_request : (r : Request) → IsRequest r → Good 128 (request_data r)
unfolding request_data
good_request r is = good_object_of 127 ((codes "do", text (ask_word r)) ∷ argument_pairs r) (good_string, good_arguments r is)

-- ---- replies

good_event : (e : Event) → IsEvent e → Good 128 (event_data e)
unfolding event_data
good_event e is = good_object_of 127 (event_pairs e) (good_string, (object_good e.object is.object, (good_number e.version is.version, tt)))

good_mount : (row : MountRow) → IsMountRow row → Good 128 (mount_data row)
unfolding mount_data
good_mount row is = good_object_of 127 (mount_pairs row) (good_uids 126 row.claims is.claims, (good_string, tt))

good_refusal : (n : ℕ) (r : Refusal) → IsRefusal r → GoodPairs n (refusal_pairs r)
good_refusal n refusals.NotFound is = (good_string, tt)
good_refusal n refusals.AlreadyExists is = (good_string, tt)
good_refusal n (refusals.Conflict current) is = (good_string, (good_number current is, tt))
good_refusal n (refusals.Invalid field) is = (good_string, (good_string, tt))
good_refusal n (refusals.Forbidden rule) is = (good_string, (good_string, tt))
good_refusal n (refusals.Gone oldest) is = (good_string, (good_number oldest is, tt))
good_refusal n (refusals.Exhausted free) is = (good_string, (good_number free is, tt))
good_refusal n (refusals.BackFault planned) is = (good_string, (good_number planned is, tt))
good_refusal n (refusals.StaleEpoch current) is = (good_string, (good_number current is, tt))
good_refusal n (refusals.Assigned node) is = (good_string, (good_string, tt))

good_told : (o : Object) → IsGivenObject o → Good 129 (object_data o)
good_told o is = deeper (deeper (object_good o is))

good_reply_pairs : (r : Reply) → IsReply r → GoodPairs 129 (reply_pairs r)
good_reply_pairs (replies.Done o) is = (good_told o is, tt)
good_reply_pairs (replies.Left o) is = (good_told o is, tt)
good_reply_pairs (replies.Found o) is = (good_told o is, tt)
good_reply_pairs (replies.Listed items version) is = (deeper (good_listed 127 object_data IsGivenObject object_good items is.0), (good_number version is.1, tt))
good_reply_pairs (replies.Events events) is = (good_listed 128 event_data IsEvent good_event events.events is.events, (good_number events.upto is.upto, tt))
good_reply_pairs (replies.Provisioned id topology) is = (good_string, (good_string, good_topology 129 topology))
good_reply_pairs (replies.Erased removed) is = (good_boolean removed, tt)
good_reply_pairs (replies.Epoch epoch) is = (good_number epoch is, tt)
good_reply_pairs (replies.Mounted rows) is = (good_listed 128 mount_data IsMountRow good_mount rows is, tt)
good_reply_pairs replies.Timed is = (good_boolean true, tt)
good_reply_pairs (replies.Refused refusal) is = good_refusal 129 refusal is

good_reply : (r : Reply) → IsReply r → Good 130 (reply_data r)
unfolding reply_data
good_reply r is = good_object_of 129 (reply_pairs r) (good_reply_pairs r is)

-- ---- entries and setups

pub good_entry : (e : Entry) → IsNumber e.seat → IsRequest e.request → IsReply e.reply → Good 131 (entry_data e)
unfolding entry_data
good_entry e seat request reply = good_object_of 130 (entry_pairs e) (
  deeper (deeper (good_request e.request request)),
  (good_string, (good_reply e.reply reply, (good_number e.seat seat, (good_boolean e.told, tt)))),
)

pub entry_good : (e : Entry) → IsEntry e → Good 131 (entry_data e)
entry_good e is = good_entry e is.seat is.request is.reply

good_pool : (p : Pool) → IsPool p → Good 127 (pool_data p)
unfolding pool_data
good_pool p is = good_object_of 126 (pool_pairs p) (good_number p.bytes is, (good_string, (good_string, good_topology 126 p.topology)))

good_imports : (os : List Object) → All IsGivenObject os → GoodOption 128 (filled_array object_data os)
good_imports [] is = tt
good_imports (o ∷ os) is = good_listed 127 object_data IsGivenObject object_good (o ∷ os) is

good_parts : (s : Setup) → All IsPool s.pools → All IsNumber s.faults → All IsGivenObject s.imports → Good 129 (object_of (setup_pairs s))
good_parts s pools faults imports =
    good_object_of 128 (setup_pairs s)
    (good_listed 127 number_data IsNumber (λ n h. good_number n h) s.faults faults, (good_imports s.imports imports, (good_listed 127 pool_data IsPool good_pool s.pools pools, tt)))

pub good_setup : (s : Setup) → All IsPool s.pools → All IsNumber s.faults → All IsGivenObject s.imports → Good 130 (setup_data s)
unfolding setup_data
good_setup s pools faults imports = good_object_of 129 ((codes "setup", Some (object_of (setup_pairs s))) ∷ []) (good_parts s pools faults imports, tt)

pub setup_good : (s : Setup) → IsSetup s → Good 130 (setup_data s)
setup_good s is = good_setup s is.pools is.faults is.imports
