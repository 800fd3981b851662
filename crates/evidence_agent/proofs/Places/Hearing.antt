-- Which entries speak of a topic.
use Rattle.std.proofs.Common.{◌≡◌, ℕ, List, Bool, true, false, true≢false, Option, Some, None, refl, sym, ◌∙◌, ap, subst, if◌then◌else◌}
use Rattle.std.specs.Prelude.{◌||◌, bytes_eq, is_some}
use Rattle.std.specs.Ordering.{is_eq}
use Rattle.std.proofs.lemmas.Cmp.{tied_itself}
use Rattle.std.proofs.lemmas.Bool.Decides.{Decides-eqb}
use Rattle.std.proofs.lemmas.Slice.Eq.{bytes_eq-Decides}
use Rattle.std.proofs.lemmas.Bool.{and_parts}
use Rattle.kube_parts.specs.declared.uid.Uid.{Uid}
use Rattle.kube_objects.specs.declared.key.Key.{Key}
use Rattle.kube_objects.specs.declared.objects.DataId.{DataId}
use Rattle.kube_objects.specs.declared.objects.Object.TheVariants.{Volume}
use Rattle.kube_objects.specs.Sources.{data_id_of}
use Rattle.kube_objects.proofs.SameKeys.{same_key-Decides}
use Rattle.call_types.specs.declared.entry.Entry.{Entry}
use Rattle.call_types.specs.declared.request.Request.{Request}
use Rattle.call_types.specs.declared.request.Request.TheVariants as requests
use Rattle.call_types.specs.declared.reply.Reply.{Reply}
use Rattle.call_types.specs.declared.reply.Reply.TheVariants as replies
use Rattle.binder_model.specs.Devices.{same_id}
use Rattle.binder_model.specs.Same.{same_uid}
use Rattle.binder_model.specs.Told.{found_over}
use Rattle.binder_model.specs.AgentLicence.{epoch_told, is_finish_of, is_get_of, is_mount_of}
use Rattle.evidence_agent.specs.declared.by_place.topics.Topic.{Topic}
use Rattle.evidence_agent.specs.declared.by_place.topics.Matter.TheVariants as matters
use Rattle.evidence_agent.specs.Places.Topics.{about_data, about_key, about_name, about_pod, asked_topic, found_topic, if_told, is_about, read_topic, speaks, topic_cmp}
use Rattle.evidence_agent.specs.Places.Steps.Since.{finds, finishes, gets, mounts, takes}
use Rattle.evidence_agent.proofs.Places.Order.{topic_cmp_total}
use Rattle.evidence_agent.proofs.Places.Since.{Hears}

itself : (t u : Topic) → u ≡ t → is_about t (Some u) ≡ true
itself t u e = subst (λ (x : Topic). is_eq (topic_cmp x t) ≡ true) (sym e) (ap is_eq (tied_itself topic_cmp_total t))

-- by what was asked, told or not
by_asked : (t : Topic) (e : Entry) → is_about t (asked_topic e.request) ≡ true → speaks t e ≡ true
by_asked t e h = rw h refl

-- by what was told to be read
by_read : (t : Topic) (e : Entry) → e.told ≡ true → is_about t (read_topic e.request e.reply) ≡ true → speaks t e ≡ true
by_read t e told h = by (is_about t (asked_topic e.request)) (is_about t (if_told e.told (read_topic e.request e.reply))) (is_about t
    (if_told e.told (found_topic e.reply))) (ap (λ b. is_about t (if_told b (read_topic e.request e.reply))) told ∙ h)
  where
    by : (a b d : Bool) → b ≡ true → (a || (b || d)) ≡ true
    by true b d h = refl
    by false true d h = refl
    by false false d h = absurd (true≢false (sym h))

-- by what was told to be found
by_found : (t : Topic) (e : Entry) → e.told ≡ true → is_about t (found_topic e.reply) ≡ true → speaks t e ≡ true
by_found t e told h = by (is_about t (asked_topic e.request)) (is_about t (if_told e.told (read_topic e.request e.reply))) (is_about t
    (if_told e.told (found_topic e.reply))) (ap (λ b. is_about t (if_told b (found_topic e.reply))) told ∙ h)
  where
    by : (a b d : Bool) → d ≡ true → (a || (b || d)) ≡ true
    by true b d h = refl
    by false true d h = refl
    by false false d h = h

get_about : (key : Key) (request : Request) (reply : Reply) → is_get_of key request ≡ true → is_about (about_key matters.Read key) (read_topic request reply) ≡ true
get_about key (requests.Get asked) reply h = itself (about_key matters.Read key) (about_key matters.Read asked) (ap (about_key matters.Read) ((same_key-Decides asked key).0 h))
get_about key (requests.Create o) reply h = absurd (true≢false (sym h))
get_about key (requests.Update o v) reply h = absurd (true≢false (sym h))
get_about key (requests.UpdateStatus k s v) reply h = absurd (true≢false (sym h))
get_about key (requests.Edit k x) reply h = absurd (true≢false (sym h))
get_about key (requests.Delete k u) reply h = absurd (true≢false (sym h))
get_about key (requests.List k n) reply h = absurd (true≢false (sym h))
get_about key (requests.Watch k n) reply h = absurd (true≢false (sym h))
get_about key (requests.BindPod k u n) reply h = absurd (true≢false (sym h))
get_about key (requests.FinishPod k u n e) reply h = absurd (true≢false (sym h))
get_about key (requests.Provision n p b l) reply h = absurd (true≢false (sym h))
get_about key (requests.Erase i) reply h = absurd (true≢false (sym h))
get_about key (requests.TakeNode n) reply h = absurd (true≢false (sym h))
get_about key (requests.Mounts n e) reply h = absurd (true≢false (sym h))
get_about key (requests.Mount n e p c) reply h = absurd (true≢false (sym h))
get_about key (requests.Unmount n e p) reply h = absurd (true≢false (sym h))
get_about key (requests.SetTime t) reply h = absurd (true≢false (sym h))

pub gets_heard : (key : Key) → Hears (about_key matters.Read key) (gets key)
gets_heard key e h = let both = and_parts e.told _ h in by_read (about_key matters.Read key) e both.0 (get_about key e.request e.reply both.1)

some_true : {X : Type 0} (b : Bool) (x : X) → is_some (if b then Some x else None) ≡ true → b ≡ true
some_true true x h = refl
some_true false x h = absurd (true≢false (sym h))

told_some : (told : Bool) (o : Option ℕ) → is_some (if told then o else None) ≡ true → (told ≡ true) × (is_some o ≡ true)
told_some true o h = (refl, h)
told_some false o h = absurd (true≢false (sym h))

take_about : (node : List ℕ) (request : Request) (reply : Reply) → is_some (epoch_told node request reply) ≡ true → is_about (about_name matters.Taken node) (read_topic request reply) ≡ true
take_about node (requests.TakeNode taken) (replies.Epoch epoch) h =
    itself (about_name matters.Taken node) (about_name matters.Taken taken) (ap (about_name matters.Taken) ((bytes_eq-Decides taken node).0 (some_true _ epoch h)))
take_about node (requests.TakeNode taken) (replies.Done o) h = absurd (true≢false (sym h))
take_about node (requests.TakeNode taken) (replies.Left o) h = absurd (true≢false (sym h))
take_about node (requests.TakeNode taken) (replies.Found o) h = absurd (true≢false (sym h))
take_about node (requests.TakeNode taken) (replies.Listed i v) h = absurd (true≢false (sym h))
take_about node (requests.TakeNode taken) (replies.Events es) h = absurd (true≢false (sym h))
take_about node (requests.TakeNode taken) (replies.Provisioned i t) h = absurd (true≢false (sym h))
take_about node (requests.TakeNode taken) (replies.Erased r) h = absurd (true≢false (sym h))
take_about node (requests.TakeNode taken) (replies.Mounted r) h = absurd (true≢false (sym h))
take_about node (requests.TakeNode taken) replies.Timed h = absurd (true≢false (sym h))
take_about node (requests.TakeNode taken) (replies.Refused r) h = absurd (true≢false (sym h))
take_about node (requests.Create o) reply h = absurd (true≢false (sym h))
take_about node (requests.Update o v) reply h = absurd (true≢false (sym h))
take_about node (requests.UpdateStatus k s v) reply h = absurd (true≢false (sym h))
take_about node (requests.Edit k x) reply h = absurd (true≢false (sym h))
take_about node (requests.Delete k u) reply h = absurd (true≢false (sym h))
take_about node (requests.Get k) reply h = absurd (true≢false (sym h))
take_about node (requests.List k n) reply h = absurd (true≢false (sym h))
take_about node (requests.Watch k n) reply h = absurd (true≢false (sym h))
take_about node (requests.BindPod k u n) reply h = absurd (true≢false (sym h))
take_about node (requests.FinishPod k u n e) reply h = absurd (true≢false (sym h))
take_about node (requests.Provision n p b l) reply h = absurd (true≢false (sym h))
take_about node (requests.Erase i) reply h = absurd (true≢false (sym h))
take_about node (requests.Mounts n e) reply h = absurd (true≢false (sym h))
take_about node (requests.Mount n e p c) reply h = absurd (true≢false (sym h))
take_about node (requests.Unmount n e p) reply h = absurd (true≢false (sym h))
take_about node (requests.SetTime t) reply h = absurd (true≢false (sym h))

pub takes_heard : (node : List ℕ) → Hears (about_name matters.Taken node) (takes node)
takes_heard node e h = let both = told_some e.told _ h in by_read (about_name matters.Taken node) e both.0 (take_about node e.request e.reply both.1)

one_uid : (u v : Uid) → same_uid u v ≡ true → u ≡ v
one_uid u v h = let e : u.0 ≡ v.0 = (Decides-eqb u.0 v.0).0 h in λ i. record { 0 = e i }

finish_about : (pod : Uid) (request : Request) → is_finish_of pod request ≡ true → is_about (about_pod matters.Finished pod) (asked_topic request) ≡ true
finish_about pod (requests.Create o) h = absurd (true≢false (sym h))
finish_about pod (requests.Update o v) h = absurd (true≢false (sym h))
finish_about pod (requests.UpdateStatus k s v) h = absurd (true≢false (sym h))
finish_about pod (requests.Edit k x) h = absurd (true≢false (sym h))
finish_about pod (requests.Delete k u) h = absurd (true≢false (sym h))
finish_about pod (requests.Get k) h = absurd (true≢false (sym h))
finish_about pod (requests.List k n) h = absurd (true≢false (sym h))
finish_about pod (requests.Watch k n) h = absurd (true≢false (sym h))
finish_about pod (requests.BindPod k u n) h = absurd (true≢false (sym h))
finish_about pod (requests.FinishPod k u n e) h = itself (about_pod matters.Finished pod) (about_pod matters.Finished u) (ap (about_pod matters.Finished) (one_uid u pod h))
finish_about pod (requests.Provision n p b l) h = absurd (true≢false (sym h))
finish_about pod (requests.Erase i) h = absurd (true≢false (sym h))
finish_about pod (requests.TakeNode n) h = absurd (true≢false (sym h))
finish_about pod (requests.Mounts n e) h = absurd (true≢false (sym h))
finish_about pod (requests.Mount n e p c) h = absurd (true≢false (sym h))
finish_about pod (requests.Unmount n e p) h = absurd (true≢false (sym h))
finish_about pod (requests.SetTime t) h = absurd (true≢false (sym h))

pub finishes_heard : (pod : Uid) → Hears (about_pod matters.Finished pod) (finishes pod)
finishes_heard pod e h = by_asked (about_pod matters.Finished pod) e (finish_about pod e.request h)

mount_about : (pod : Uid) (request : Request) → is_mount_of pod request ≡ true → is_about (about_pod matters.Mounted pod) (asked_topic request) ≡ true
mount_about pod (requests.Create o) h = absurd (true≢false (sym h))
mount_about pod (requests.Update o v) h = absurd (true≢false (sym h))
mount_about pod (requests.UpdateStatus k s v) h = absurd (true≢false (sym h))
mount_about pod (requests.Edit k x) h = absurd (true≢false (sym h))
mount_about pod (requests.Delete k u) h = absurd (true≢false (sym h))
mount_about pod (requests.Get k) h = absurd (true≢false (sym h))
mount_about pod (requests.List k n) h = absurd (true≢false (sym h))
mount_about pod (requests.Watch k n) h = absurd (true≢false (sym h))
mount_about pod (requests.BindPod k u n) h = absurd (true≢false (sym h))
mount_about pod (requests.FinishPod k u n e) h = absurd (true≢false (sym h))
mount_about pod (requests.Provision n p b l) h = absurd (true≢false (sym h))
mount_about pod (requests.Erase i) h = absurd (true≢false (sym h))
mount_about pod (requests.TakeNode n) h = absurd (true≢false (sym h))
mount_about pod (requests.Mounts n e) h = absurd (true≢false (sym h))
mount_about pod (requests.Mount n e p c) h = itself (about_pod matters.Mounted pod) (about_pod matters.Mounted p) (ap (about_pod matters.Mounted) (one_uid p pod h))
mount_about pod (requests.Unmount n e p) h = absurd (true≢false (sym h))
mount_about pod (requests.SetTime t) h = absurd (true≢false (sym h))

pub mounts_heard : (pod : Uid) → Hears (about_pod matters.Mounted pod) (mounts pod)
mounts_heard pod e h = by_asked (about_pod matters.Mounted pod) e (mount_about pod e.request h)

one_id : (a b : DataId) → same_id a b ≡ true → a ≡ b
one_id a b h =
    let both = and_parts (bytes_eq a.driver b.driver) _ h in
    let driver : a.driver ≡ b.driver = (bytes_eq-Decides a.driver b.driver).0 both.0 in
    let id : a.id ≡ b.id = (bytes_eq-Decides a.id b.id).0 both.1 in
    λ i. record { driver = driver i; id = id i }

find_about : (id : DataId) (told : Bool) (reply : Reply) → is_some (found_over id told reply) ≡ true → (told ≡ true) × (is_about (about_data matters.Over id) (found_topic reply) ≡ true)
find_about id true (replies.Found (Volume v)) h =
    (refl, itself (about_data matters.Over id) (about_data matters.Over (data_id_of v.source)) (ap (about_data matters.Over) (one_id (data_id_of v.source) id (some_true _ v h))))
find_about id told reply h = absurd (true≢false (sym h))

pub finds_heard : (id : DataId) → Hears (about_data matters.Over id) (finds id)
finds_heard id e h = let both = find_about id e.told e.reply h in by_found (about_data matters.Over id) e both.0 both.1
