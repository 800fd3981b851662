-- Entries and setups hold no float.
use Rattle.std.proofs.Common.{◌≡◌, ℕ, List, [], ◌∷◌, ◌++◌, false, Option, Some, None, codes, option_map, refl}
use Rattle.serde_json.specs.Data.{string}
use Rattle.serde_json.specs.Written.{has_float}
use Rattle.json_text.specs.Build.{number_data}
use Rattle.kube_objects.specs.declared.key.Key.{Key}
use Rattle.call_types.specs.declared.edit.Edit.{Edit}
use Rattle.call_types.specs.declared.edit.Edit.TheVariants as edits
use Rattle.call_types.specs.declared.request.NewStatus.{NewStatus}
use Rattle.call_types.specs.declared.request.NewStatus.TheVariants as statuses
use Rattle.call_types.specs.declared.request.Request.{Request}
use Rattle.call_types.specs.declared.request.Request.TheVariants as asks
use Rattle.call_types.specs.declared.reply.Refusal.{Refusal}
use Rattle.call_types.specs.declared.reply.Refusal.TheVariants as refusals
use Rattle.call_types.specs.declared.reply.Reply.{Reply}
use Rattle.call_types.specs.declared.reply.Reply.TheVariants as replies
use Rattle.json_text.specs.Members.{MemberList, text, pairs_data}
use Rattle.object_print.specs.Metadata.{uid_data}
use Rattle.object_print.specs.Objects.{object_data}
use Rattle.history_text.specs.Requests.{key_pairs, two_texts, label_data, edit_pairs, amount_text, status_pairs, ask_word, argument_pairs, request_data}
use Rattle.history_text.specs.Replies.{event_pairs, event_data, mount_pairs, mount_data, topology_pairs, refusal_pairs, reply_pairs, reply_data}
use Rattle.history_text.specs.Entries.{entry_pairs, entry_data, pool_pairs, pool_data, setup_pairs, setup_data}
use Rattle.json_text.proofs.NoFloats.{NoFloats, FloatFree, float_object_of, float_filled, float_option, float_array, float_filled_array, float_pairs, float_within, string_free}
use Rattle.object_print.proofs.ObjectFloats.{uid_free, modes_free, object_free}

number_free : FloatFree number_data
number_free n = refl

free_append : (ps qs : MemberList) → NoFloats ps → NoFloats qs → NoFloats (ps ++ qs)
free_append [] qs h k = k
free_append (p ∷ ps) qs h k = (h.0, free_append ps qs h.1 k)

key_free : (k : Key) → NoFloats (key_pairs k)
key_free k = (refl, (refl, (float_filled k.namespace, tt)))

two_free : (a x b y : List ℕ) → NoFloats (two_texts a x b y)
two_free a x b y = (refl, (refl, tt))

label_free : (key value : List ℕ) → has_float (label_data key value) ≡ false
label_free key value = float_object_of (two_texts (codes "key") key (codes "value") value) (two_free (codes "key") key (codes "value") value)

edit_free : (e : Edit) → NoFloats (edit_pairs e)
edit_free (edits.AddFinalizer s) = (refl, tt)
edit_free (edits.DropFinalizer s) = (refl, tt)
edit_free (edits.DropLabel s) = (refl, tt)
edit_free (edits.DropAnnotation s) = (refl, tt)
edit_free (edits.SetLabel key value) = (label_free key value, tt)
edit_free (edits.SetAnnotation key value) = (label_free key value, tt)
edit_free (edits.SetVolumeName s) = (refl, tt)
edit_free (edits.SetPolicy policy) = (refl, tt)
edit_free (edits.SetClaimRef namespace name) = (float_object_of (two_texts (codes "name") name (codes "namespace") namespace) (two_free (codes "name") name (codes "namespace") namespace), tt)
edit_free edits.ClearClaimRef = (refl, tt)

amount_free : FloatFree amount_text
amount_free a = refl

status_free : (s : NewStatus) → NoFloats (status_pairs s)
status_free (statuses.Volume phase) = (refl, tt)
status_free (statuses.Claim phase modes amount) = (refl, (modes_free modes, (float_option amount_text amount amount_free, tt)))

argument_free : (r : Request) → NoFloats (argument_pairs r)
argument_free (asks.Create object) = (object_free object, tt)
argument_free (asks.Update object version) = (object_free object, (float_option number_data version number_free, tt))
argument_free (asks.UpdateStatus key status version) =
    let tail : NoFloats ((codes "version", option_map number_data version) ∷ []) = (float_option number_data version number_free, tt) in
    (refl, (refl, (float_filled key.namespace, free_append (status_pairs status) ((codes "version", option_map number_data version) ∷ []) (status_free status) tail)))
argument_free (asks.Edit key edit) = free_append (key_pairs key) (edit_pairs edit) (key_free key) (edit_free edit)
argument_free (asks.Delete key uid) = (refl, (refl, (float_filled key.namespace, (float_option uid_data uid uid_free, tt))))
argument_free (asks.Get key) = key_free key
argument_free (asks.List kind namespace) = (refl, (float_option string namespace string_free, tt))
argument_free (asks.Watch kind from) = (refl, (refl, tt))
argument_free (asks.BindPod key uid node) = (refl, (refl, (float_filled key.namespace, (refl, (refl, tt)))))
argument_free (asks.FinishPod key uid node epoch) = (refl, (refl, (float_filled key.namespace, (refl, (refl, (refl, tt))))))
argument_free (asks.Provision name provisioner bytes labels) = (refl, (refl, (refl, (float_option pairs_data labels float_pairs, tt))))
argument_free (asks.Erase id) = (refl, (refl, tt))
argument_free (asks.TakeNode node) = (refl, tt)
argument_free (asks.Mounts node epoch) = (refl, (refl, tt))
argument_free (asks.Mount node epoch pod claims) = (refl, (refl, (refl, (float_array uid_data claims uid_free, tt))))
argument_free (asks.Unmount node epoch pod) = (refl, (refl, (refl, tt)))
argument_free (asks.SetTime at) = (refl, tt)

pub request_free : FloatFree request_data
unfolding request_data
request_free r = float_object_of ((codes "do", text (ask_word r)) ∷ argument_pairs r) (refl, argument_free r)

event_free : FloatFree event_data
unfolding event_data
event_free e = float_object_of (event_pairs e) (refl, (object_free e.object, (refl, tt)))

mount_free : FloatFree mount_data
unfolding mount_data
mount_free row = float_object_of (mount_pairs row) (float_array uid_data row.claims uid_free, (refl, tt))

topology_free : (o : Option (List ℕ × List ℕ)) → NoFloats (topology_pairs o)
topology_free None = tt
topology_free (Some t) = (refl, (refl, tt))

refusal_free : (r : Refusal) → NoFloats (refusal_pairs r)
refusal_free refusals.NotFound = (refl, tt)
refusal_free refusals.AlreadyExists = (refl, tt)
refusal_free (refusals.Conflict current) = (refl, (refl, tt))
refusal_free (refusals.Invalid field) = (refl, (refl, tt))
refusal_free (refusals.Forbidden rule) = (refl, (refl, tt))
refusal_free (refusals.Gone oldest) = (refl, (refl, tt))
refusal_free (refusals.Exhausted free) = (refl, (refl, tt))
refusal_free (refusals.BackFault planned) = (refl, (refl, tt))
refusal_free (refusals.StaleEpoch current) = (refl, (refl, tt))
refusal_free (refusals.Assigned node) = (refl, (refl, tt))

reply_pairs_free : (r : Reply) → NoFloats (reply_pairs r)
reply_pairs_free (replies.Done object) = (object_free object, tt)
reply_pairs_free (replies.Left object) = (object_free object, tt)
reply_pairs_free (replies.Found object) = (object_free object, tt)
reply_pairs_free (replies.Listed items version) = (float_array object_data items object_free, (refl, tt))
reply_pairs_free (replies.Events events) = (float_array event_data events.events event_free, (refl, tt))
reply_pairs_free (replies.Provisioned id topology) = (refl, (refl, topology_free topology))
reply_pairs_free (replies.Erased removed) = (refl, tt)
reply_pairs_free (replies.Epoch epoch) = (refl, tt)
reply_pairs_free (replies.Mounted rows) = (float_array mount_data rows mount_free, tt)
reply_pairs_free replies.Timed = (refl, tt)
reply_pairs_free (replies.Refused refusal) = refusal_free refusal

pub reply_free : FloatFree reply_data
unfolding reply_data
reply_free r = float_object_of (reply_pairs r) (reply_pairs_free r)

pub entry_free : FloatFree entry_data
unfolding entry_data
entry_free e = float_object_of (entry_pairs e) (request_free e.request, (refl, (reply_free e.reply, (refl, (refl, tt)))))

pool_free : FloatFree pool_data
unfolding pool_data
pool_free p = float_object_of (pool_pairs p) (refl, (refl, (refl, topology_free p.topology)))

pub setup_free : FloatFree setup_data
unfolding setup_data
setup_free s = float_within _ _ (float_object_of (setup_pairs s)
    (float_array number_data s.faults number_free, (float_filled_array object_data s.imports object_free, (float_array pool_data s.pools pool_free, tt))))
