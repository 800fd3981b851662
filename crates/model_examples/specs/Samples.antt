-- Sample objects, and what a seat asked and was answered, for the computed examples. A choice of this project.
-- Lists of entries stand newest first.
use Rattle.std.specs.Prelude.{ℕ, ◌-◌, ◌*◌, ◌^◌, Bool, true, false, List, [], ◌∷◌, Option, Some, None, codes}
use Rattle.plain_data.specs.Pairs.{Pair}
use Rattle.kube_parts.specs.declared.uid.Uid.{Uid}
use Rattle.kube_objects.specs.declared.key.Key.{Key}
use Rattle.kube_parts.specs.declared.parts.Kind.{Kind}
use Rattle.kube_parts.specs.declared.parts.Kind.TheVariants as kinds
use Rattle.kube_parts.specs.declared.parts.Modes.{Modes}
use Rattle.kube_parts.specs.declared.parts.Policy.TheVariants as policies
use Rattle.kube_parts.specs.declared.parts.SourceKind.TheVariants as sources
use Rattle.kube_parts.specs.declared.parts.VolumePhase.{VolumePhase}
use Rattle.kube_parts.specs.declared.parts.VolumePhase.TheVariants as volumes
use Rattle.kube_parts.specs.declared.parts.ClaimPhase.TheVariants as claims
use Rattle.kube_objects.specs.declared.objects.Amount.{Amount}
use Rattle.kube_objects.specs.declared.objects.Meta.{Meta}
use Rattle.kube_objects.specs.declared.objects.Ref.{Ref}
use Rattle.kube_objects.specs.declared.objects.Class.{Class as ClassData}
use Rattle.kube_objects.specs.declared.objects.Node.{Node as NodeData}
use Rattle.kube_objects.specs.declared.objects.Pod.{Pod as PodData}
use Rattle.kube_objects.specs.declared.objects.Volume.{Volume as VolumeData}
use Rattle.kube_objects.specs.declared.objects.Claim.{Claim as ClaimData}
use Rattle.kube_objects.specs.declared.objects.Object.{Object}
use Rattle.kube_objects.specs.declared.objects.Object.TheVariants.{Class, Node, Volume, Claim, Pod}
use Rattle.kube_parts.specs.Uids.{uid_of_serial}
use Rattle.kube_objects.specs.Bindings.{bind_completed, bound_by_controller, selected_node, pv_protection, pvc_protection, yes, no_provisioner}
use Rattle.call_types.specs.declared.entry.Entry.{Entry}
use Rattle.call_types.specs.declared.request.SeatKind.{SeatKind}
use Rattle.call_types.specs.declared.request.Request.{Request}
use Rattle.call_types.specs.declared.request.Request.TheVariants as requests
use Rattle.call_types.specs.declared.reply.Change.{Change}
use Rattle.call_types.specs.declared.reply.Refusal.TheVariants as refusals
use Rattle.call_types.specs.declared.reply.Reply.{Reply}
use Rattle.call_types.specs.declared.reply.Reply.TheVariants as replies
use Rattle.binder_model.specs.Store.{no_modes, first_moment}
use Rattle.binder_model.specs.ObjectKeys.{claim_key, volume_key, pod_key}
use Rattle.binder_model.specs.Provisioning.{terms_for}
use Rattle.kube_objects.specs.Sources.{data_id_of}
use Rattle.kube_objects.specs.declared.objects.DataId.{DataId}
use Rattle.binder_model.specs.Licence.{Licensed}

-- what a seat asked and was answered

pub record Exchange : Type 0 where
  pub request : Request
  pub reply : Reply
  pub told : Bool

abbrev pub heard : Request → Reply → Exchange
heard request reply = record { request = request; reply = reply; told = true }

-- the same, with the answer lost
abbrev pub unheard : Exchange → Exchange
unheard x = record x { told = false }

abbrev pub lists : Kind → List Object → ℕ → Exchange
lists kind items version = heard (requests.List kind None) (replies.Listed items version)

-- a list of the volumes, of the claims, that tells one
abbrev pub tells_volume : VolumeData → Exchange
tells_volume v = lists kinds.PersistentVolume (Volume v ∷ []) v.meta.version

abbrev pub tells_claim : ClaimData → Exchange
tells_claim c = lists kinds.PersistentVolumeClaim (Claim c ∷ []) c.meta.version

abbrev pub tells_class : ClassData → Exchange
tells_class x = lists kinds.StorageClass (Class x ∷ []) x.meta.version

abbrev pub tells_node : NodeData → Exchange
tells_node n = lists kinds.Node (Node n ∷ []) n.meta.version

abbrev pub tells_pod : PodData → Exchange
tells_pod p = lists kinds.Pod (Pod p ∷ []) p.meta.version

-- the pods of a namespace
abbrev pub lists_in : List ℕ → List Object → ℕ → Exchange
lists_in namespace items version = heard (requests.List kinds.Pod (Some namespace)) (replies.Listed items version)

-- first the volume was told, then the claim
abbrev pub tells_both : ClaimData → VolumeData → List Exchange
tells_both x v = tells_claim x ∷ tells_volume v ∷ []

-- live reads
abbrev pub finds : Key → Object → Exchange
finds key o = heard (requests.Get key) (replies.Found o)

abbrev pub finds_none : Key → Exchange
finds_none key = heard (requests.Get key) (replies.Refused refusals.NotFound)

-- one seat's entries
abbrev pub entry_of : SeatKind → Exchange → Entry
entry_of kind x = record { seat = 5; kind = kind; request = x.request; reply = x.reply; told = x.told }

abbrev pub seat_of : SeatKind → List Exchange → List Entry
seat_of kind [] = []
seat_of kind (x ∷ xs) = entry_of kind x ∷ seat_of kind xs

-- after these exchanges a seat of the kind may make the request, or may not
abbrev pub Allows : SeatKind → List Exchange → Request → Type 0
Allows kind xs request = Licensed kind (seat_of kind xs) request

abbrev pub Refuses : SeatKind → List Exchange → Request → Type 0
Refuses kind xs request = Licensed kind (seat_of kind xs) request → ⊥

-- objects

abbrev pub standing : List ℕ → List ℕ → ℕ → ℕ → List (List ℕ) → List Pair → Meta
standing namespace name serial version finalizers annotations = record {
  namespace = namespace;
  name = name;
  uid = Some (uid_of_serial serial);
  version = version;
  created = first_moment;
  deleted = None;
  labels = [];
  annotations = annotations;
  finalizers = finalizers;
}

abbrev pub once : Modes
once = record no_modes { rwo = true }

abbrev pub amount : ℕ → Amount
amount gibibytes = record { text = codes "n"; bytes = gibibytes * 2 ^ 30 }

-- a volume of 5 gibibytes that is free
abbrev pub a : VolumeData
a = record {
  meta = standing [] (codes "a") 1 3 (pv_protection ∷ []) [];
  amount = amount 5;
  modes = once;
  block = false;
  class = codes "slow";
  policy = policies.Retain;
  claim_ref = None;
  source = record { kind = sources.Nfs; first = codes "s"; second = codes "/x" };
  terms = None;
  extra = [];
  phase = volumes.Available;
}

abbrev pub volume_at : ℕ → VolumeData → VolumeData
volume_at version v = record v { meta = record v.meta { version = version } }

abbrev pub in_phase : VolumePhase → VolumeData → VolumeData
in_phase phase v = record v { phase = phase }

abbrev pub with_reference : Option Ref → VolumeData → VolumeData
with_reference r v = record v { claim_ref = r }

-- a claim of 3 gibibytes that is not bound
abbrev pub c : ClaimData
c = record {
  meta = standing (codes "default") (codes "c") 2 2 (pvc_protection ∷ []) [];
  modes = once;
  amount = amount 3;
  block = false;
  class = Some (codes "slow");
  selector = None;
  volume_name = [];
  extra = [];
  phase = claims.Pending;
  got_modes = no_modes;
  got = None;
}

abbrev pub claim_at : ℕ → ClaimData → ClaimData
claim_at version old = record old { meta = record old.meta { version = version } }

abbrev pub with_uid : Option Uid → ClaimData → ClaimData
with_uid uid old = record old { meta = record old.meta { uid = uid } }

-- the claim names a volume
abbrev pub naming : List ℕ → ClaimData → ClaimData
naming name old = record old { volume_name = name }

-- another claim, and the first claim under another UID
abbrev pub d : ClaimData
d = record c { meta = standing (codes "default") (codes "d") 3 2 (pvc_protection ∷ []) [] }

abbrev pub other_c : ClaimData
other_c = with_uid (Some (uid_of_serial 9)) c

abbrev pub key_a : Key
key_a = volume_key (codes "a")

abbrev pub key_c : Key
key_c = claim_key (codes "default") (codes "c")

abbrev pub uid_c : Uid
uid_c = uid_of_serial 2

-- a reference to the claim, without its UID and with it
abbrev pub name_c : Ref
name_c = record { namespace = codes "default"; name = codes "c"; uid = None }

abbrev pub ref_c : Ref
ref_c = record name_c { uid = Some uid_c }

abbrev pub other_ref_c : Ref
other_ref_c = record name_c { uid = Some (uid_of_serial 9) }

-- the volume after the first write of the binding, and after the second
abbrev pub taken_a : VolumeData
taken_a = record a { meta = record a.meta { version = 4; annotations = (bound_by_controller, yes) ∷ [] }; claim_ref = Some ref_c }

abbrev pub bound_a : VolumeData
bound_a = volume_at 5 (in_phase volumes.Bound taken_a)

abbrev pub released_a : VolumeData
released_a = volume_at 8 (in_phase volumes.Released taken_a)

-- the claim after the third write, and after the fourth
abbrev pub completed_c : ClaimData
completed_c = record c { meta = record c.meta { version = 6; annotations = (bind_completed, yes) ∷ (bound_by_controller, yes) ∷ [] }; volume_name = codes "a" }

abbrev pub bound_c : ClaimData
bound_c = record completed_c { meta = record completed_c.meta { version = 7 }; phase = claims.Bound; got_modes = once; got = Some (amount 5) }

-- a class that provisions at once, and one that waits for the first pod; a node

abbrev pub fast : ClassData
fast = record { meta = standing [] (codes "slow") 4 1 [] []; provisioner = codes "x/y"; policy = policies.Delete; delayed = false; parameters = []; extra = [] }

abbrev pub late : ClassData
late = record fast { delayed = true }

abbrev pub zone : List Pair
zone = (codes "zone", codes "z1") ∷ []

abbrev pub n1 : NodeData
n1 = record { meta = record (standing [] (codes "n1") 5 1 [] []) { labels = zone }; extra = [] }

-- the claim with the node that the scheduler chose
abbrev pub chosen_c : ClaimData
chosen_c = record c { meta = record c.meta { annotations = (selected_node, codes "n1") ∷ [] } }

abbrev pub deleting : Meta → Meta
deleting m = record m { deleted = Some first_moment }

-- a pod that runs on the node and uses the claim; the same before it was given a node, and as it is to go
abbrev pub p : PodData
p = record { meta = standing (codes "default") (codes "p") 9 9 [] []; claims = codes "c" ∷ []; node = codes "n1"; extra = [] }

abbrev pub waiting_p : PodData
waiting_p = record p { node = [] }

abbrev pub ending_p : PodData
ending_p = record p { meta = deleting (record p.meta { version = 10 }) }

abbrev pub uid_p : Uid
uid_p = uid_of_serial 9

-- what an agent is answered
abbrev pub takes : List ℕ → ℕ → Exchange
takes node epoch = heard (requests.TakeNode node) (replies.Epoch epoch)

abbrev pub node_1 : List ℕ
node_1 = codes "n1"

abbrev pub node_2 : List ℕ
node_2 = codes "n2"

-- a watch that tells a change of one object
abbrev pub watches : Kind → Change → Object → ℕ → Exchange
watches kind change o version = heard (requests.Watch kind (version - 1)) (replies.Events (record { events = record { change = change; object = o; version = version } ∷ []; upto = version }))

-- values that several files of examples share

-- Bound for a claim of the name with another UID
abbrev pub bound_for_other : VolumeData
bound_for_other = with_reference (Some other_ref_c) bound_a

-- Released, with policy Delete, of a claim that had it
abbrev pub ended_a : VolumeData
ended_a = let old = released_a in record old { policy = policies.Delete }

abbrev pub deleting_a : VolumeData
deleting_a = let old = ended_a in record old { meta = deleting old.meta }

abbrev pub elsewhere_c : ClaimData
elsewhere_c = naming (codes "b") c

abbrev pub failed_a : VolumeData
failed_a = in_phase volumes.Failed ended_a

abbrev pub far_a : VolumeData
far_a = record bound_a { terms = terms_for (Some (codes "zone", codes "z2")) }

abbrev pub here_c : ClaimData
here_c = naming (codes "a") c

abbrev pub id_a : DataId
id_a = data_id_of a.source

abbrev pub idle_class : ClassData
idle_class = record fast { provisioner = no_provisioner }

abbrev pub key_b : Key
key_b = volume_key (codes "b")

abbrev pub key_d : Key
key_d = claim_key (codes "default") (codes "d")

abbrev pub key_p : Key
key_p = pod_key (codes "default") (codes "p")

abbrev pub leaving_bound_a : VolumeData
leaving_bound_a = let old = bound_a in record old { meta = deleting old.meta }

abbrev pub list_volumes : Request
list_volumes = requests.List kinds.PersistentVolume None

abbrev pub lost_c : ClaimData
lost_c = record bound_c { phase = claims.Lost }

-- completed, with no name of a volume
abbrev pub nameless_c : ClaimData
nameless_c = naming [] bound_c

abbrev pub never_bound_a : VolumeData
never_bound_a = with_reference (Some name_c) ended_a

abbrev pub no_uid_c : ClaimData
no_uid_c = with_uid None c

abbrev pub prebound_a : VolumeData
prebound_a = with_reference (Some name_c) a

abbrev pub selecting_c : ClaimData
selecting_c = record c { selector = Some (record { labels = zone; exprs = [] }) }

abbrev pub still_bound_a : VolumeData
still_bound_a = in_phase volumes.Bound ended_a

-- first the node was told, then the class and the claim
abbrev pub tells_three : ClaimData → ClassData → NodeData → List Exchange
tells_three x k n = tells_claim x ∷ tells_class k ∷ tells_node n ∷ []

abbrev pub uncompleted_c : ClaimData
uncompleted_c = record bound_c { meta = record bound_c.meta { annotations = [] } }

abbrev pub unguarded_a : VolumeData
unguarded_a = let old = taken_a in record old { meta = record old.meta { finalizers = [] } }

abbrev pub unguarded_c : ClaimData
unguarded_c = record bound_c { meta = record bound_c.meta { finalizers = [] } }
