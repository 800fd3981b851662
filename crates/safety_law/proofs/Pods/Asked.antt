-- What an agent may ask tells pods by lists of all of them and by watches alone.
use Rattle.std.proofs.Common.{◌≡◌, ◌∙◌, ℕ, List, [], Bool, true, false, true≢false, Option, Some, None, inl, inr, refl, sym, ap, arith, if◌then◌else◌}
use Rattle.std.specs.List.{list_any}
use Rattle.std.proofs.lemmas.Bool.{and_parts}
use Rattle.kube_parts.specs.declared.uid.Uid.{Uid}
use Rattle.kube_objects.specs.declared.key.Key.{Key}
use Rattle.kube_parts.specs.declared.parts.Kind.TheVariants as kinds
use Rattle.kube_objects.specs.declared.objects.Pod.{Pod as PodData}
use Rattle.kube_objects.specs.declared.objects.Object.{Object}
use Rattle.kube_objects.specs.declared.objects.Object.TheVariants.{Class, Node, Volume, Claim, Pod}
use Rattle.kube_objects.specs.Keys.{kind_index, row_at}
use Rattle.kube_objects.proofs.KeyOrder.{row_at_key}
use Rattle.call_types.specs.declared.entry.Entry.{Entry}
use Rattle.call_types.specs.declared.setup.Setup.{Setup}
use Rattle.call_types.specs.declared.request.Request.{Request}
use Rattle.call_types.specs.declared.request.Request.TheVariants as requests
use Rattle.call_types.specs.declared.request.SeatKind.{SeatKind}
use Rattle.call_types.specs.declared.request.SeatKind.TheVariants.{Agent}
use Rattle.call_types.specs.declared.reply.Refusal.{Refusal}
use Rattle.call_types.specs.declared.reply.Reply.{Reply}
use Rattle.call_types.specs.declared.reply.Reply.TheVariants as replies
use Rattle.binder_model.specs.AgentLicence.{is_pod_list}
use Rattle.binder_model.specs.Answers.{Outcome, Removes, Says, finish, is_user, outcome, pod_with, refuse, refuse_stale, reply_of}
use Rattle.binder_model.specs.Devices.{DeviceAnswer, device_answer}
use Rattle.binder_model.specs.Licence.{Licensed}
use Rattle.binder_model.specs.Reading.{AsksForMount, FoundNaming, NamesClaim}
use Rattle.binder_model.specs.Store.{State}
use Rattle.binder_model.specs.Told.{IsPodWith, TellsObject, ToldPod, objects_in}
use Rattle.binder_model.specs.World.{OnDevices, World, effect, on_devices, refused_rule, reply_to, stale_epoch, world}
use Rattle.model_laws.specs.Reads.{found}
use Rattle.model_laws.proofs.Histories.{rows_stand_in_order}
use Rattle.model_laws.proofs.Lists.{some_is}
use Rattle.model_laws.proofs.Readings.{gets_tell_what_stands, lists_tell_what_stands}
use Rattle.safety_law.proofs.Invariant.DeviceMoves.{devices_mute}
use Rattle.safety_law.specs.Pods.Tellings.{AgentsAreToldByReads, TellsByRead, is_pod, is_watch_of_pods}

-- an answer that tells no object

abbrev IsMute : Reply → Type 0
IsMute reply = objects_in reply ≡ []

-- of the devices
asked_devices : (kind : SeatKind) (w : World) (request : Request) (a : DeviceAnswer) → IsMute a.reply → IsMute (reply_to (on_devices w kind request (Some a)))
unfolding on_devices reply_to reply_of
asked_devices kind w request a mute = by (is_user kind)
  where
    by : (b : Bool) → IsMute (reply_to (if b then refused_rule else OnDevices a))
    by true = refl
    by false = mute

-- of a FinishPod: the pod has left

refused_mute : (b : Bool) (r : Refusal) (x : Outcome) → IsMute (reply_of x) → IsMute (reply_of (refuse b r x))
unfolding refuse reply_of
refused_mute true r x mute = refl
refused_mute false r x mute = mute

stale_mute : (stale : Option ℕ) (x : Outcome) → IsMute (reply_of x) → IsMute (reply_of (refuse_stale stale x))
unfolding refuse_stale reply_of
stale_mute None x mute = mute
stale_mute (Some current) x mute = refl

left_mute : (o : Object) → IsMute (reply_of (Removes o))
unfolding reply_of
left_mute o = refl

says_mute : (r : Refusal) → IsMute (reply_of (Says (replies.Refused r)))
unfolding reply_of
says_mute r = refl

finish_mute : (s : State) (stale : Option ℕ) (node : List ℕ) (p : Option PodData) → IsMute (reply_of (finish s stale node p))
unfolding finish
finish_mute s stale node None = says_mute _
finish_mute s stale node (Some p) = stale_mute stale _ (refused_mute _ _ _ (refused_mute _ _ _ (left_mute _)))

-- of each call of an agent to the devices

pub take_mute : (setup : Setup) (w : World) (kind : SeatKind) (node : List ℕ) → IsMute (reply_to (effect setup w kind (requests.TakeNode node)))
unfolding effect device_answer
take_mute setup w kind node = asked_devices kind w (requests.TakeNode node) _ (devices_mute setup w.devices (requests.TakeNode node) _ refl)

mounts_mute : (setup : Setup) (w : World) (kind : SeatKind) (node : List ℕ) (epoch : ℕ) → IsMute (reply_to (effect setup w kind (requests.Mounts node epoch)))
unfolding effect device_answer
mounts_mute setup w kind node epoch = asked_devices kind w (requests.Mounts node epoch) _ (devices_mute setup w.devices (requests.Mounts node epoch) _ refl)

mount_mute : (setup : Setup) (w : World) (kind : SeatKind) (node : List ℕ) (epoch : ℕ) (pod : Uid) (claims : List Uid) → IsMute (reply_to (effect setup w kind (requests.Mount node epoch pod claims)))
unfolding effect device_answer
mount_mute setup w kind node epoch pod claims = asked_devices kind w (requests.Mount node epoch pod claims) _ (devices_mute setup w.devices (requests.Mount node epoch pod claims) _ refl)

unmount_mute : (setup : Setup) (w : World) (kind : SeatKind) (node : List ℕ) (epoch : ℕ) (pod : Uid) → IsMute (reply_to (effect setup w kind (requests.Unmount node epoch pod)))
unfolding effect device_answer
unmount_mute setup w kind node epoch pod = asked_devices kind w (requests.Unmount node epoch pod) _ (devices_mute setup w.devices (requests.Unmount node epoch pod) _ refl)

finished_mute : (setup : Setup) (w : World) (kind : SeatKind) (key : Key) (uid : Uid) (node : List ℕ) (epoch : ℕ) → IsMute (reply_to (effect setup w kind (requests.FinishPod key uid node epoch)))
unfolding effect on_devices device_answer outcome reply_to
finished_mute setup w kind key uid node epoch =
    refused_mute (is_user kind) _ _ (finish_mute w.store (stale_epoch w.devices (requests.FinishPod key uid node epoch)) node (pod_with uid (row_at key w.store.rows)))

-- the single objects that an agent reads are no pods

told_in : {X : Type 0} (P : PodData → Type 0) → ((p : PodData) → P p → X) → (mine : List Entry) → ToldPod P mine → X
told_in {X = X} P f mine told =
    let e = some_is (TellsObject (IsPodWith P)) mine told in
    let o = some_is (IsPodWith P) (objects_in e.0.reply) e.1.1.1 in
    by o.0 o.1.1
  where
    by : (o : Object) → IsPodWith P o → X
    by (Pod p) h = f p h
    by (Class x) h = absurd h
    by (Node x) h = absurd h
    by (Volume x) h = absurd h
    by (Claim x) h = absurd h

found_naming : (key : Key) (reply : Reply) → FoundNaming key reply → kind_index key.kind ≡ 4 → ⊥
found_naming key (replies.Found (Claim c)) is pod = let kind = ap (λ (k : Key). kind_index k.kind) is in omega (arith, kind, pod)
found_naming key (replies.Found (Class x)) is pod = is
found_naming key (replies.Found (Node x)) is pod = is
found_naming key (replies.Found (Volume x)) is pod = is
found_naming key (replies.Found (Pod x)) is pod = is
found_naming key reply is pod = is

no_pod_key : (mine : List Entry) (key : Key) → AsksForMount mine key → kind_index key.kind ≡ 4 → ⊥
no_pod_key mine key (inl named) pod = told_in (NamesClaim mine key) (λ p n. let kind = ap kind_index n.kind in omega (arith, kind, pod)) mine named
no_pod_key mine key (inr naming) pod = let e = some_is (λ e. (e.told ≡ true) × FoundNaming key e.reply) mine naming in found_naming key e.0.reply e.1.1.1 pod

no_pod_found : (key : Key) (rows : List Object) (x : Option Object) → (kind_index key.kind ≡ 4 → ⊥) → row_at key rows ≡ x → list_any is_pod (objects_in (found x)) ≡ false
no_pod_found key rows None other at = refl
no_pod_found key rows (Some (Pod p)) other at = absurd (other (ap (λ (k : Key). kind_index k.kind) (sym (row_at_key key (Pod p) rows at))))
no_pod_found key rows (Some (Class x)) other at = refl
no_pod_found key rows (Some (Node x)) other at = refl
no_pod_found key rows (Some (Volume x)) other at = refl
no_pod_found key rows (Some (Claim x)) other at = refl

tells_none : (e : Entry) → list_any is_pod (objects_in e.reply) ≡ false → TellsByRead e
tells_none e none tells = absurd (true≢false (sym (and_parts e.told (list_any is_pod (objects_in e.reply)) tells).1 ∙ none))

pub agents_are_told_by_reads : AgentsAreToldByReads
agents_are_told_by_reads setup e past mine answered licensed = by e.request refl licensed
  where
    answer : (request : Request) → e.request ≡ request → e.reply ≡ reply_to (effect setup (world setup past) e.kind request)
    answer request asks = answered ∙ ap (λ r. reply_to (effect setup (world setup past) e.kind r)) asks

    mute : (request : Request) → e.request ≡ request → IsMute (reply_to (effect setup (world setup past) e.kind request)) → TellsByRead e
    mute request asks none = tells_none e (ap (λ r. list_any is_pod (objects_in r)) (answer request asks) ∙ ap (λ os. list_any is_pod os) none)

    list : e.request ≡ requests.List kinds.Pod None → TellsByRead e
    list asks tells =
        let l = lists_tell_what_stands setup (world setup past) e.kind kinds.Pod None (rows_stand_in_order setup past) in
        inl (ap (is_pod_list e.request) (answer (requests.List kinds.Pod None) asks ∙ l.1.1.0) ∙ ap (λ r. is_pod_list r (replies.Listed l.0 l.1.0)) asks)

    get : (key : Key) → e.request ≡ requests.Get key → AsksForMount mine key → TellsByRead e
    get key asks may =
        tells_none e (ap (λ r. list_any is_pod (objects_in r)) (answer (requests.Get key) asks ∙ gets_tell_what_stands setup (world setup past) e.kind key)
        ∙ no_pod_found key (world setup past).store.rows _ (no_pod_key mine key may) refl)

    by : (request : Request) → e.request ≡ request → Licensed Agent mine request → TellsByRead e
    by (requests.TakeNode node) asks l = mute (requests.TakeNode node) asks (take_mute setup (world setup past) e.kind node)
    by (requests.Mounts node epoch) asks l = mute (requests.Mounts node epoch) asks (mounts_mute setup (world setup past) e.kind node epoch)
    by (requests.Mount node epoch pod claims) asks l = mute (requests.Mount node epoch pod claims) asks (mount_mute setup (world setup past) e.kind node epoch pod claims)
    by (requests.Unmount node epoch pod) asks l = mute (requests.Unmount node epoch pod) asks (unmount_mute setup (world setup past) e.kind node epoch pod)
    by (requests.FinishPod key uid node epoch) asks l = mute (requests.FinishPod key uid node epoch) asks (finished_mute setup (world setup past) e.kind key uid node epoch)
    by (requests.Get key) asks l = get key asks l.1
    by (requests.List kinds.Pod None) asks l = list asks
    by (requests.List kinds.Node None) asks l = absurd (true≢false (sym l.1.0))
    by (requests.List kinds.StorageClass None) asks l = absurd (true≢false (sym l.1.0))
    by (requests.List kinds.PersistentVolume None) asks l = absurd (true≢false (sym l.1.0))
    by (requests.List kinds.PersistentVolumeClaim None) asks l = absurd (true≢false (sym l.1.0))
    by (requests.List k (Some namespace)) asks l = absurd l.1
    by (requests.Watch kinds.Pod from) asks l = λ tells. inr (ap is_watch_of_pods asks)
    by (requests.Watch kinds.Node from) asks l = absurd (true≢false (sym l.1.0))
    by (requests.Watch kinds.StorageClass from) asks l = absurd (true≢false (sym l.1.0))
    by (requests.Watch kinds.PersistentVolume from) asks l = absurd (true≢false (sym l.1.0))
    by (requests.Watch kinds.PersistentVolumeClaim from) asks l = absurd (true≢false (sym l.1.0))
    by _ asks l = absurd l.1
